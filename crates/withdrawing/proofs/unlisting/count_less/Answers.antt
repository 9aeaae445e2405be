use native.Mathlib.Omega.{arith}
use mathlib.Core.Path.{◌≡◌, sym, ap, ◌∙◌}
use lib.ListN.{length}
use Rattle.fields.specs.Field.{number}
use Rattle.head.specs.Head.{numbers_at}
use Rattle.layout.specs.Store.{list_at}
use Rattle.layout.specs.StoreLaws.{tree-from, list_length}
use Rattle.layout.specs.WholeFacts.{whole-at-facts}
use Rattle.layout.specs.InsideLaws.{trees-few, tree-inside}
use Rattle.withdrawing.specs.CountedLaws.{counting-none, counted}
use Rattle.withdrawing.proofs.CountLessLaws.{inside, fits, more}
use Rattle.withdrawing.proofs.unlisting.count_less.Goals as goal

pub tree_from-from-requires : goal.tree_from-from-requires
tree_from-from-requires c = let w = whole-at-facts _ c.requires.s_value in record { head_bytes_in_bounds = w.head.head-there; i_bound = omega (arith, c.requires.k_bound, trees-few _ w.head) }

pub counts_from-counts-requires : goal.counts_from-counts-requires
counts_from-counts-requires c = (whole-at-facts _ c.requires.s_value).head.head-there

pub number16-n-requires : goal.number16-n-requires
number16-n-requires c = omega (arith, c.tree_from-from.ensures.value, tree-inside _ (whole-at-facts _ c.requires.s_value).head _ c.requires.k_bound)

pub loop-j-init : goal.loop-j-init
loop-j-init c =
    let w = whole-at-facts _ c.requires.s_value in
    let e = c.tree_from-from.ensures.value in (
      record {
        whole = w;
        tree = c.args.k.0;
        held = c.requires.k_bound;
        from_is = e;
        counts-is = c.counts_from-counts.ensures.value;
        entries = c.number16-n.ensures.value ∙ ap (number 2 _) e ∙ sym (list_length _ _ c.requires.k_bound);
      },
      omega arith,
      counting-none _ w _ c.requires.k_bound,
    )

pub overflow_add-from : goal.overflow_add-from
overflow_add-from c = omega (arith, c.tree_from-from.ensures.upper_bound)

pub overflow_mul-j : goal.overflow_mul-j
overflow_mul-j c = let l = c.loop-j in omega (arith, (inside l.invariant.0 l.j l.s l.invariant.2).0)

pub overflow_add-from-in-loop-j : goal.overflow_add-from-in-loop-j
overflow_add-from-in-loop-j c =
    let l = c.loop-j in
    omega (arith, c.tree_from-from.ensures.upper_bound, (inside l.invariant.0 l.j l.s l.invariant.2).0)

pub number16-requires : goal.number16-requires
number16-requires c =
    let l = c.loop-j in
    omega (arith, inside l.invariant.0 l.j l.s l.invariant.2)

pub overflow_mul-at : goal.overflow_mul-at
overflow_mul-at c = omega (arith, c.number16.ensures.upper_bound)

pub overflow_add-at : goal.overflow_add-at
overflow_add-at c = omega (arith, c.number16.ensures.upper_bound, c.counts_from-counts.ensures.upper_bound)

pub get32-requires : goal.get32-requires
get32-requires c =
    let l = c.loop-j in
    (fits l.invariant.0 l.j l.s l.invariant.2 (omega arith) _ c.number16.ensures.value).0

pub overflow_sub-get32 : goal.overflow_sub-get32
overflow_sub-get32 c =
    let l = c.loop-j in
    let x = fits l.invariant.0 l.j l.s l.invariant.2 (omega arith) _ c.number16.ensures.value in
    omega (arith, c.get32.ensures, x.1)

pub put32-requires : goal.put32-requires
put32-requires c =
    let l = c.loop-j in
    (fits l.invariant.0 l.j l.s l.invariant.2 (omega arith) _ c.number16.ensures.value).0

pub loop-j-preserved : goal.loop-j-preserved
loop-j-preserved c =
    let l = c.loop-j in
    let x = more l.invariant.0 l.j l.s l.invariant.2 (omega arith) _ c.number16.ensures.value _ c.get32.ensures in
    (l.invariant.0, omega arith, rw c.put32.ensures x)

pub shape_of-s : goal.shape_of-s
shape_of-s c = c.loop-j.invariant.2.size

pub returns : goal.returns
returns c =
    let l = c.loop-j in
    let g = c.loop-j.invariant.0 in
    let n = numbers_at c.args.s.now in
    let k : g.tree ≡ c.args.k.0 = omega (arith, g.from_is, c.tree_from-from.ensures.value, tree-from n g.tree, tree-from n c.args.k.0) in
    let e : l.j ≡ length (list_at c.args.s.now g.tree) = omega (arith, g.entries) in
    rw k at (counted _ g.whole g.tree g.held l.s (rw e at l.invariant.2))
