use mathlib.Core.Path.{refl, sym, subst}
use native.Mathlib.Omega.{arith}
use Rattle.answers.specs.Answers.{Small}
use Rattle.nexus.specs.FeedLaws.{small-finished, going-none, going-index, going_more, gone}
use Rattle.nexus.proofs.feed.feed_lines.Goals as goal

pub loop-i-init : goal.loop-i-init
loop-i-init c = (going-none _ _ _ _ _ _ c.requires.s_value c.requires.from_in_bounds c.requires.lines_at, refl)

pub text_at-line-requires : goal.text_at-line-requires
text_at-line-requires c = c.loop-i.invariant.0.reach

pub slice_bounds-feed_text-count : goal.slice_bounds-feed_text-count
slice_bounds-feed_text-count c = c.text_at-line.ensures.order

pub slice_bounds-feed_text-end-in-loop-i : goal.slice_bounds-feed_text-end-in-loop-i
slice_bounds-feed_text-end-in-loop-i c = sym c.loop-i.invariant.1

pub feed_text-progress-requires : goal.feed_text-progress-requires
feed_text-progress-requires c = let v = c.loop-i.invariant.0 in record { s_value = v.whole; indexed = going-index _ _ _ _ _ _ _ _ _ _ v _ _ c.requires.indexed; placed = c.requires.placed; places_value = c.requires.places_value; indexed_2 = c.requires.indexed_2; text_len = c.loop-i.invariant.1 }

pub verdict_number-requires : goal.verdict_number-requires
verdict_number-requires c = subst Small (sym c.feed_text-progress.ensures.hands.answer) (small-finished _ c.loop-i.invariant.0.whole _)

pub offset_bounds-verdicts-i : goal.offset_bounds-verdicts-i
offset_bounds-verdicts-i c = omega (arith, c.loop-i.invariant.0.room, c.requires.n_in_bounds, c.well_formed.1.1.1.1.1.1.1.1.1.1.1.0)

pub bounds-verdicts-i : goal.bounds-verdicts-i
bounds-verdicts-i c = omega (arith, c.loop-i.invariant.0.room, c.requires.n_in_bounds)

pub overflow_add-at : goal.overflow_add-at
overflow_add-at c = omega (arith, c.text_at-line.ensures.within, c.well_formed.1.1.1.0)

pub loop-i-preserved : goal.loop-i-preserved
loop-i-preserved c = (
  going_more _ _ _ _ _ _ _ _ _ _ c.loop-i.invariant.0 c.loop-i-test.true _ c.text_at-line.ensures c.requires.n_in_bounds _ _
      c.feed_text-progress.ensures.hands _ c.verdict_number.ensures,
  c.feed_text-progress.ensures.text_len_2,
)

pub shape_of-s : goal.shape_of-s
shape_of-s c = c.loop-i.invariant.0.size

pub shape_of-verdicts : goal.shape_of-verdicts
shape_of-verdicts c = c.loop-i.invariant.0.room

pub returns : goal.returns
returns c = gone _ _ _ _ _ _ _ _ _ _ c.loop-i.invariant.0 (omega (arith, c.loop-i.invariant.0.count, c.loop-i-test.false)) c.requires.n_in_bounds
