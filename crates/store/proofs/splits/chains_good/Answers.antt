use Rattle.std.proofs.Common.{◌≡◌, ℕ, ◌<◌, false, List, sym, refl, ◌∙◌, arith, length-set}
use Rattle.layout.specs.Store.{splits_held_at}
use Rattle.layout.specs.WholeStore.{all_below, place_in, good_link}
use Rattle.layout.specs.WholeFacts.{HeadAt}
use Rattle.layout.specs.AllLaws.{all_none, all_more, all-fails}
use Rattle.layout.specs.InsideLaws.{splits-few, place-small}
use Rattle.store.specs.ChainTests.{place_read, heights-none, heights-more, link-good, link-bad, good-chains}
use Rattle.store.proofs.splits.chains_good.Goals as goal

small : (s : List ℕ) → HeadAt s → (p m : ℕ) → p ≡ place_in s m → p < 8192
small s h p m e = omega (arith, e, place-small s h m)

pub splits_held-held-requires : goal.splits_held-held-requires
splits_held-held-requires c = c.requires.head_at.head-there

pub loop-k-init : goal.loop-k-init
loop-k-init c = (omega arith, omega (arith, splits-few _ c.requires.head_at), refl, heights-none _, all_none _)

pub mask_at-requires : goal.mask_at-requires
mask_at-requires c = record { head_at = c.requires.head_at; row_bound = omega arith }

pub place_of-p-requires : goal.place_of-p-requires
place_of-p-requires c = record { head_at = c.requires.head_at; sums = c.requires.sums }

pub link_at-requires : goal.link_at-requires
link_at-requires c = record { head_at = c.requires.head_at; row_bound = omega arith }

pub offset_bounds-highest-p : goal.offset_bounds-highest-p
offset_bounds-highest-p c = omega (arith, small _ c.requires.head_at _ _ c.place_of-p.ensures)

pub bounds-highest-p : goal.bounds-highest-p
bounds-highest-p c = small _ c.requires.head_at _ _ c.place_of-p.ensures

pub returns-then-link_at-from : goal.returns-then-link_at-from
returns-then-link_at-from c =
    let p = place_read _ _ _ _ c.mask_at.ensures c.place_of-p.ensures in
    let h = c.from.ensures ∙ c.loop-k.invariant.3.each _ (small _ c.requires.head_at _ _ c.place_of-p.ensures) in
    let e = link-bad _ _ _ _ _ c.link_at.ensures p h c.if-link_at-from.true in
    let s = c.args.s.now in
    let f : all_below (good_link s) (splits_held_at s) ≡ false = all-fails _ _ c.loop-k.k (omega arith) e in
    sym (good-chains s ∙ rw f)

pub offset_bounds-highest-p-in-loop-k : goal.offset_bounds-highest-p-in-loop-k
offset_bounds-highest-p-in-loop-k c = omega (arith, small _ c.requires.head_at _ _ c.place_of-p.ensures)

pub bounds-highest-p-in-loop-k : goal.bounds-highest-p-in-loop-k
bounds-highest-p-in-loop-k c = small _ c.requires.head_at _ _ c.place_of-p.ensures

pub loop-k-preserved : goal.loop-k-preserved
loop-k-preserved c =
    let v = c.loop-k.invariant in
    let p = place_read _ _ _ _ c.mask_at.ensures c.place_of-p.ensures in
    let b = small _ c.requires.head_at _ _ c.place_of-p.ensures in
    let h = c.from.ensures ∙ v.3.each _ b in
    let e = link-good _ _ _ _ _ c.link_at.ensures p h c.if-link_at-from.false in
    (omega arith, v.1, simp length-set v.2, heights-more _ _ _ v.2 v.3 _ p b, all_more _ _ v.4 e)

pub starts_good-requires : goal.starts_good-requires
starts_good-requires c = let e : c.loop-k.k ≡ splits_held_at c.args.s.now = omega arith in record { head_at = c.requires.head_at; highest = rw e at c.loop-k.invariant.3 }

pub returns : goal.returns
returns c =
    let e : c.loop-k.k ≡ splits_held_at c.args.s.now = omega arith in
    let a = rw e at c.loop-k.invariant.4 in
    c.starts_good.ensures ∙ sym (good-chains _ ∙ rw a)
