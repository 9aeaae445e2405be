use Prim.Native.Nat.{◌<◌}
use native.Mathlib.Omega.{arith}
use mathlib.Core.Path.{◌≡◌, refl, ◌∙◌}
use lib.ListN.{length-set}
use Rattle.head.specs.Head.{numbers_at}
use Rattle.layout.specs.StoreLaws.{counts-from, links-from, size_is}
use Rattle.layout.specs.InsideLaws.{splits-few}
use Rattle.withdrawing.specs.LeftInLaws.{walk_none}
use Rattle.withdrawing.proofs.RowsLeftLaws.{stays_here, leaves-here, link_here, state-stays, state-leaves}
use Rattle.withdrawing.proofs.leaving.rows_left.Goals as goal
use Rattle.withdrawing.proofs.leaving.rows_left.Goals.{else-get32-ne0, then-get32-ne0}

pub counts_from-counts-requires : goal.counts_from-counts-requires
counts_from-counts-requires c = c.requires.head_at.0.head-there

pub links_from-links-requires : goal.links_from-links-requires
links_from-links-requires c = c.requires.head_at.0.head-there

pub loop-r-init : goal.loop-r-init
loop-r-init c =
    let i = c.counts_from-counts.ensures.value in
    let j = c.links_from-links.ensures.value in
    let s = c.args.s.now in (
      record {
        head = c.requires.head_at.0;
        sound = c.requires.head_at.1;
        held = c.requires.n_value;
        few = omega (arith, splits-few s c.requires.head_at.0);
        counts-is = i;
        links-is = j;
        counts-in = omega (arith, counts-from (numbers_at s), size_is s, c.requires.head_at.0.reached, c.requires.head_at.0.splits-fit);
        links-in = omega (arith, links-from (numbers_at s), size_is s, c.requires.head_at.0.reached, c.requires.head_at.0.splits-fit);
        room = (c.requires.n_in_bounds.0, omega (arith, length-set c.args.entries.now 0 0));
      },
      record { below = omega arith; fewer = omega arith; left = walk_none _ _ c.args.entries.now (omega arith); rows-size = refl; entries-size = refl },
    )

pub offset_bounds-entries-link : goal.offset_bounds-entries-link
offset_bounds-entries-link c = let l = c.loop-r in omega (arith, link_here l.invariant.0 l.r (omega arith) _ c.number16-link.ensures.value)

pub bounds-entries-link : goal.bounds-entries-link
bounds-entries-link c = let l = c.loop-r in omega (arith, link_here l.invariant.0 l.r (omega arith) _ c.number16-link.ensures.value)

pub loop-r-preserved : goal.loop-r-preserved
loop-r-preserved c =
    let l = c.loop-r in
    let g = c.loop-r.invariant.0 in
    let x = c.loop-r.invariant.1 in
    let e = c.get32.ensures in
    let h : l.r < c.args.n = omega arith in (
      g,
      elim c.if-get32-ne0.branch [
        | then-get32-ne0 w ↦ state-stays g x h (stays_here g l.r h _ e (λ z. omega (arith, w.if-get32-ne0.true))) w.m-is w.rows-is w.entries-is
        | else-get32-ne0 w ↦ state-leaves g x h (leaves-here g l.r h _ e (omega (arith, w.if-get32-ne0.false))) _ (link_here g l.r h _ w.number16-link.ensures.value) w.m-is w.rows-is w.entries-is
      ],
    )

pub shape_of-rows : goal.shape_of-rows
shape_of-rows c = c.loop-r.invariant.1.rows-size

pub shape_of-entries : goal.shape_of-entries
shape_of-entries c = c.loop-r.invariant.1.entries-size ∙ length-set c.args.entries.now 0 0

pub returns : goal.returns
returns c =
    let l = c.loop-r in
    let e : l.r ≡ c.args.n = omega arith in
    rw e at l.invariant.1.left
