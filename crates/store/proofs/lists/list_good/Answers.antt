use Rattle.std.proofs.Common.{◌≡◌, ℕ, ◌<◌, ◌≤◌, List, length, sym, ◌∙◌, true≢false, arith, ltb-false, ltb-true}
use Rattle.fields.specs.Field.{number}
use Rattle.head.specs.Head.{numbers_at}
use Rattle.layout.specs.Store.{tree_from, trees_held_at, splits_held_at, list_at}
use Rattle.layout.specs.StoreLaws.{list_length}
use Rattle.layout.specs.InsideLaws.{trees-few, splits-few}
use Rattle.store.specs.CountLaws.{part-most}
use Rattle.store.specs.ListTestLaws.{list-long, walk_none, walk-all, walk-counted, walk-foreign, walk-falls, walk-apart, walk_more}
use Rattle.store.proofs.lists.list_good.Goals as goal

-- the number that is read is the list's length
long : (s : List ℕ) (i from n : ℕ) → i < trees_held_at s → from ≡ tree_from (numbers_at s) i → n ≡ number 2 s from → n ≡ length (list_at s i)
long s i from n h e q = q ∙ rw e (sym (list_length s i h))

pub tree_from-from-requires : goal.tree_from-from-requires
tree_from-from-requires c = record { head_at = c.requires.head_at; i_bound = c.requires.i_bound }

pub number16-n-requires : goal.number16-n-requires
number16-n-requires c = omega (arith, c.tree_from-from.ensures.tree_bytes_in_bounds)

pub returns-then-n-gt-MOST_SPLITS : goal.returns-then-n-gt-MOST_SPLITS
returns-then-n-gt-MOST_SPLITS c =
    let n = c.number16-n.ensures.value in
    let e = long _ _ _ _ c.requires.i_bound c.tree_from-from.ensures.value n in record { value = sym (list-long _ _ (omega (arith, e, c.if-n-gt-MOST_SPLITS.true))); vacant_2 = c.requires.vacant; counted_2 = λ d. absurd (true≢false (sym d)) }

pub splits_held-held-requires : goal.splits_held-held-requires
splits_held-held-requires c = c.requires.head_at.head-there

pub loop-j-init : goal.loop-j-init
loop-j-init c =
    let e = long _ _ _ _ c.requires.i_bound c.tree_from-from.ensures.value c.number16-n.ensures.value in
    (omega arith, e, omega (arith, c.if-n-gt-MOST_SPLITS.false), c.splits_held-held.ensures.value, walk_none _ _ c.requires.i_bound _ _ c.requires.vacant c.requires.counted)

pub row_in-k-requires : goal.row_in-k-requires
row_in-k-requires c =
    let v = c.loop-j.invariant in
    let j = c.loop-j-test.true in record { head_at = c.requires.head_at; i_bound = c.requires.i_bound; from_value = c.tree_from-from.ensures.value; j_in_bounds = omega (arith, v.1, j); j_lt_most_splits = omega (arith, v.2, j) }

pub returns-then-held-k : goal.returns-then-held-k
returns-then-held-k c =
    let v = c.loop-j.invariant in
    let j : c.loop-j.j < length (list_at c.args.s.now c.args.i) = omega (arith, v.1, c.loop-j-test.true) in
    let r = c.row_in-k.ensures in
    let q = walk-foreign _ _ c.requires.i_bound _ _ _ _ _ _ v.4 j _ r (omega (arith, v.3, c.if-held-k.true)) in record { value = sym q; vacant_2 = v.4.vacant; counted_2 = λ d. absurd (true≢false (sym d)) }

pub mask_at-x-requires : goal.mask_at-x-requires
mask_at-x-requires c = record { head_at = c.requires.head_at; row_bound = omega (arith, c.loop-j.invariant.3, c.if-held-k.false) }

pub returns-then-not-comes_before : goal.returns-then-not-comes_before
returns-then-not-comes_before c =
    let v = c.loop-j.invariant in
    let j : c.loop-j.j < length (list_at c.args.s.now c.args.i) = omega (arith, v.1, c.loop-j-test.true) in
    let r = c.row_in-k.ensures in
    let k : c.row_in-k.result < splits_held_at c.args.s.now = omega (arith, v.3, c.if-held-k.false) in
    let d = ltb-false _ _ (sym c.comes_before.ensures ∙ c.if-not-comes_before.true) in
    let q = walk-falls _ _ c.requires.i_bound _ _ _ _ _ _ v.4 j _ r k _ c.mask_at-x.ensures c.requires.s_value d in record { value = sym q; vacant_2 = v.4.vacant; counted_2 = λ d. absurd (true≢false (sym d)) }

pub agrees-requires : goal.agrees-requires
agrees-requires c = c.loop-j.invariant.4.vacant.free

pub returns-then-not-agrees : goal.returns-then-not-agrees
returns-then-not-agrees c =
    let v = c.loop-j.invariant in
    let j : c.loop-j.j < length (list_at c.args.s.now c.args.i) = omega (arith, v.1, c.loop-j-test.true) in
    let r = c.row_in-k.ensures in
    let k : c.row_in-k.result < splits_held_at c.args.s.now = omega (arith, v.3, c.if-held-k.false) in
    let d = ltb-true _ _ (sym c.comes_before.ensures ∙ c.if-not-comes_before.false) in
    let q = walk-apart _ _ c.requires.i_bound _ _ _ _ _ _ v.4 j _ r k _ c.mask_at-x.ensures d _ c.agrees.ensures (c.if-not-agrees.true) in record { value = sym q; vacant_2 = v.4.vacant; counted_2 = λ d. absurd (true≢false (sym d)) }

pub offset_bounds-counts-k : goal.offset_bounds-counts-k
offset_bounds-counts-k c = omega (arith, c.loop-j.invariant.3, c.if-held-k.false, splits-few _ c.requires.head_at)

-- the row is a split's, of which there are at most 4,096
pub bounds-counts-k : goal.bounds-counts-k
bounds-counts-k c = omega (arith, c.loop-j.invariant.3, c.if-held-k.false, splits-few _ c.requires.head_at)

pub overflow_add-counts : goal.overflow_add-counts
overflow_add-counts c =
    let v = c.loop-j.invariant in
    let k : c.row_in-k.result < splits_held_at c.args.s.now = omega (arith, v.3, c.if-held-k.false) in
    omega (arith, part-most _ _ c.requires.i_bound _ _ v.4.counted _ k, c.requires.i_bound, trees-few _ c.requires.head_at)

pub bounds-counts-k-in-loop-j : goal.bounds-counts-k-in-loop-j
bounds-counts-k-in-loop-j c = omega (arith, c.loop-j.invariant.3, c.if-held-k.false, splits-few _ c.requires.head_at)

pub offset_bounds-outer-at : goal.offset_bounds-outer-at
offset_bounds-outer-at c = omega (arith, c.lowest_taxon-at.ensures.result_bound)

pub bounds-outer-at : goal.bounds-outer-at
bounds-outer-at c = omega (arith, c.lowest_taxon-at.ensures.result_bound)

pub loop-j-preserved : goal.loop-j-preserved
loop-j-preserved c =
    let v = c.loop-j.invariant in
    let j : c.loop-j.j < length (list_at c.args.s.now c.args.i) = omega (arith, v.1, c.loop-j-test.true) in
    let r = c.row_in-k.ensures in
    let k : c.row_in-k.result < splits_held_at c.args.s.now = omega (arith, v.3, c.if-held-k.false) in
    let d = ltb-true _ _ (sym c.comes_before.ensures ∙ c.if-not-comes_before.false) in
    let w = walk_more _ _ c.requires.i_bound _ _ _ _ _ _ v.4 j _ r k _ c.mask_at-x.ensures d _ c.agrees.ensures c.requires.head_at
    (c.if-not-agrees.false) _ _ _ c.lowest_taxon-at.ensures.result_value c.lowest_taxon-at.ensures.result_bound c.heads_with-heads.ensures c.union_of-covered.ensures in
    (omega (arith, c.loop-j-test.true), v.1, v.2, v.3, w)

pub returns : goal.returns
returns c =
    let v = c.loop-j.invariant in
    let e : length (list_at c.args.s.now c.args.i) ≤ c.loop-j.j = omega (arith, v.1, c.loop-j-test.false) in record { value = sym (walk-all _ _ c.requires.i_bound _ _ _ _ _ _ v.4 (omega (arith, v.1, v.2)) e); vacant_2 = v.4.vacant; counted_2 = λ d. walk-counted _ _ c.requires.i_bound _ _ _ _ _ _ v.4 e }
