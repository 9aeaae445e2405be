-- `feeding::texts::feed_piece` meets its contract: more wanted, or a verdict. Assumes nothing.
use mathlib.Core.Path.{sym, ap, ◌∙◌}
use mathlib.Core.Bool.{Bool}
use native.Mathlib.Omega.{arith}
use lib.ListN.{length}
use lib.Seq.{length-take-le}
use Rattle.trees.specs.Text.{before_end}
use Rattle.feeding.specs.FedLaws.{index_kept, lanes-kept, fed-more, fed-text}
use Rattle.feeding.proofs.texts.feed_piece.Goals as goal

pub slice_bounds-extend_lane-end : goal.slice_bounds-extend_lane-end
slice_bounds-extend_lane-end c = sym (length-take-le _ _ c.text_end-n.ensures.upper_bound)

pub shape_of-s-then-n-piece : goal.shape_of-s-then-n-piece
shape_of-s-then-n-piece c = c.extend_lane.ensures.size

pub returns-then-n-piece : goal.returns-then-n-piece
returns-then-n-piece c =
    fed-more _ _ _ c.requires.l_bound _ (c.text_end-n.ensures.value ∙ ap (λ (x : Bool). length (before_end x c.args.piece.now)) c.quotes_open-quoted.ensures) _
    c.extend_lane.ensures c.if-n-piece.true

pub finish_text-progress-requires : goal.finish_text-progress-requires
finish_text-progress-requires c = let l = c.extend_lane.ensures in record { s_value = l.whole; l_bound = lanes-kept _ _ _ _ l c.requires.l_bound; indexed = index_kept _ _ _ _ _ _ l c.requires.indexed }

pub shape_of-s : goal.shape_of-s
shape_of-s c = c.finish_text-progress.ensures.left.holds.size ∙ c.extend_lane.ensures.size

pub returns : goal.returns
returns c =
    fed-text _ _ _ c.requires.l_bound _ (c.text_end-n.ensures.value ∙ ap (λ (x : Bool). length (before_end x c.args.piece.now)) c.quotes_open-quoted.ensures) _ c.extend_lane.ensures
    (omega (arith, c.text_end-n.ensures.upper_bound, c.if-n-piece.false)) _ _ c.finish_text-progress.ensures
