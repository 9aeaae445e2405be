-- `feeding::feed` meets its contract: each return is a law. Assumes nothing.
use native.Mathlib.Omega.{arith}
use Rattle.opening.specs.GivenLaws.{failed, passed}
use Rattle.layout.specs.WholeFacts.{whole-at-facts}
use Rattle.feeding.specs.FedLaws.{few-taxa, feed-not-whole, feed-no-lane, feed-well}
use Rattle.feeding.proofs.feed.Goals as goal

pub returns-then-not-is_whole : goal.returns-then-not-is_whole
returns-then-not-is_whole c = feed-not-whole _ _ _ (failed _ _ c.is_whole.ensures c.if-not-is_whole.true-raw)

pub lanes-requires : goal.lanes-requires
lanes-requires c = (whole-at-facts _ (passed _ _ c.is_whole.ensures c.if-not-is_whole.false-raw)).head.head-there

pub returns-then-lanes-l : goal.returns-then-lanes-l
returns-then-lanes-l c = feed-no-lane _ _ _ (passed _ _ c.is_whole.ensures c.if-not-is_whole.false-raw) (omega arith)

pub build_index-requires : goal.build_index-requires
build_index-requires c = let w = passed _ _ c.is_whole.ensures c.if-not-is_whole.false-raw in record { head_bytes_in_bounds = (whole-at-facts _ w).head.head-there; s_bound = few-taxa _ w }

pub feed_piece-requires : goal.feed_piece-requires
feed_piece-requires c = let w = passed _ _ c.is_whole.ensures c.if-not-is_whole.false-raw in record { s_value = w; l_bound = omega arith; indexed = c.build_index.ensures }

pub shape_of-s : goal.shape_of-s
shape_of-s c = c.feed_piece.ensures.left.holds.size

pub returns : goal.returns
returns c =
    let w = passed _ _ c.is_whole.ensures c.if-not-is_whole.false-raw in
    feed-well _ _ _ w _ _ (omega arith) c.feed_piece.ensures
