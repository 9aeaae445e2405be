use Prim.Native.Nat.{ℕ}
use mathlib.Core.Path.{◌≡◌, sym, ap, subst, ◌∙◌}
use mathlib.Core.List.{List, ◌++◌, append-nil}
use lib.ListN.{length, drop}
use Rattle.std.proofs.Common.{drop_of_length-le}
use Rattle.trees.specs.Batch.{batching}
use Rattle.layout.specs.Store.{held_at}
use native.Mathlib.Omega.{arith}
use Rattle.answers.specs.Answers.{Small}
use Rattle.feeding.specs.BatchLaws.{small-answer, going-none, going-lane, going-index, going-part, taken-fits, going_more, gone-holds, gone-verdicts, gone-outside}
use Rattle.feeding.proofs.texts.feed_texts.Goals as goal

pub loop-i-init : goal.loop-i-init
loop-i-init c = going-none _ _ _ _ _ c.requires.s_value c.requires.verdicts_len

pub slice_bounds-feed_piece-count : goal.slice_bounds-feed_piece-count
slice_bounds-feed_piece-count c = c.loop-i.invariant.reach

pub feed_piece-fed-requires : goal.feed_piece-fed-requires
feed_piece-fed-requires c = let g = c.loop-i.invariant in record { s_value = g.whole; l_bound = going-lane _ _ _ _ _ _ _ _ _ c.requires.l_bound g; indexed = going-index _ _ _ _ _ _ _ _ _ c.requires.l_bound g _ _ c.requires.indexed }

pub verdict_number-requires : goal.verdict_number-requires
verdict_number-requires c =
    let f = c.feed_piece-fed.ensures in
    subst Small (sym f.answer) (small-answer _ _ _ c.loop-i.invariant.whole)

pub offset_bounds-verdicts-i : goal.offset_bounds-verdicts-i
offset_bounds-verdicts-i c = omega (arith, c.loop-i.invariant.room)

pub bounds-verdicts-i : goal.bounds-verdicts-i
bounds-verdicts-i c = omega (arith, c.loop-i.invariant.room)

pub overflow_add-at : goal.overflow_add-at
overflow_add-at c =
    let g = c.loop-i.invariant in
    let f = going-part _ _ _ _ _ _ _ _ _ c.requires.l_bound g _ _ c.feed_piece-fed.ensures in
    omega (arith, taken-fits _ _ _ _ _ _ _ _ _ c.requires.l_bound g _ _ f (omega arith) (omega arith))

pub loop-i-preserved : goal.loop-i-preserved
loop-i-preserved c =
    let g = c.loop-i.invariant in
    let f = going-part _ _ _ _ _ _ _ _ _ c.requires.l_bound g _ _ c.feed_piece-fed.ensures in
    going_more _ _ _ _ _ _ _ _ _ c.requires.l_bound g _ _ f (omega arith) (omega arith) _ c.verdict_number.ensures

pub slice_bounds-feed_piece-count-2 : goal.slice_bounds-feed_piece-count-2
slice_bounds-feed_piece-count-2 c = c.loop-i.invariant.reach

pub feed_piece-requires : goal.feed_piece-requires
feed_piece-requires c = let g = c.loop-i.invariant in record { s_value = g.whole; l_bound = going-lane _ _ _ _ _ _ _ _ _ c.requires.l_bound g; indexed = going-index _ _ _ _ _ _ _ _ _ c.requires.l_bound g _ _ c.requires.indexed }

pub shape_of-s : goal.shape_of-s
shape_of-s c = c.feed_piece.ensures.left.holds.size ∙ c.loop-i.invariant.size

pub shape_of-verdicts : goal.shape_of-verdicts
shape_of-verdicts c = c.loop-i.invariant.room

pub returns : goal.returns
returns c =
    let g = c.loop-i.invariant in
    let f = going-part _ _ _ _ _ _ _ _ _ c.requires.l_bound g _ _ c.feed_piece.ensures in
    let v = c.args.verdicts.now in
    let w = (batching (length v) (held_at c.args.s.now) c.args.l.0 c.args.piece.now).verdicts in
    let behind : w ++ drop (length v) v ≡ w = ap (λ (x : List ℕ). w ++ x) (drop_of_length-le v (omega arith)) ∙ append-nil w in record { holds = gone-holds _ _ _ _ _ _ _ _ _ c.requires.l_bound g _ _ f (omega (arith, g.within)); verdicts_after = gone-verdicts _ _ _ _ _ _ _ _ _ c.requires.l_bound g _ _ f (omega (arith, g.within)) ∙ behind; same_outside = gone-outside _ _ _ _ _ _ _ _ _ c.requires.l_bound g _ _ f (omega (arith, g.within)) }
