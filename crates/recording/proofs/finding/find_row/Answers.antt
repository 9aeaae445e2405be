use native.Mathlib.Omega.{arith}
use mathlib.Core.Path.{sym, ◌∙◌}
use borrow.Author.Tests.{eqb-true, eqb-false}
use Rattle.layout.specs.WholeFacts.{whole-at-facts}
use Rattle.layout.specs.InsideLaws.{place-below}
use Rattle.recording.specs.Recording.{FoundAs}
use Rattle.recording.specs.WalkLaws.{walk-starts, walk-row, walk-falls, walk-next, walk_ends}
use Rattle.recording.proofs.finding.find_row.Goals as goal

pub start_at-entry-requires : goal.start_at-entry-requires
start_at-entry-requires c = let h = (whole-at-facts _ c.requires.s_value).head in record { head_at = h; p_bound = omega (arith, c.requires.p_value, place-below _ h c.args.m) }

pub loop-entry-init : goal.loop-entry-init
loop-entry-init c = rw (c.start_at-entry.ensures, c.requires.p_value) (walk-starts _ _ c.requires.s_value)

pub mask_at-requires : goal.mask_at-requires
mask_at-requires c = let w = c.requires.s_value in record { head_at = (whole-at-facts _ w).head; row_bound = walk-row _ _ w _ c.loop-entry.invariant c.loop-entry-test.true }

pub returns-then-is_same : goal.returns-then-is_same
unfolding FoundAs
returns-then-is_same c =
    let e = eqb-true _ _ (sym c.is_same.ensures ∙ c.if-is_same.true) in
    (walk-row _ _ c.requires.s_value _ c.loop-entry.invariant c.loop-entry-test.true, sym c.mask_at.ensures ∙ e)

pub link_at-entry-requires : goal.link_at-entry-requires
link_at-entry-requires c = let w = c.requires.s_value in record { head_at = (whole-at-facts _ w).head; row_bound = walk-row _ _ w _ c.loop-entry.invariant c.loop-entry-test.true }

pub loop-entry-smaller : goal.loop-entry-smaller
loop-entry-smaller c = omega (arith, c.link_at-entry.ensures, walk-falls _ _ c.requires.s_value _ c.loop-entry.invariant c.loop-entry-test.true)

pub loop-entry-preserved : goal.loop-entry-preserved
loop-entry-preserved c =
    let n = eqb-false _ _ (sym c.is_same.ensures ∙ c.if-is_same.false) in
    rw c.link_at-entry.ensures
    (walk-next _ _ c.requires.s_value _ c.loop-entry.invariant c.loop-entry-test.true (λ e. n (c.mask_at.ensures ∙ e)))

pub returns : goal.returns
unfolding FoundAs
returns c = walk_ends _ _ c.requires.s_value _ c.loop-entry.invariant c.loop-entry-test.false
