-- `store::header::head_good` meets its contract: its tests, one after the other. Assumes nothing.
use Rattle.std.proofs.Common.{sym, arith}
use Rattle.opening.specs.GivenLaws.{failed, passed}
use Rattle.store.specs.HeaderLaws.{head-short, head-refused, head_small, head-trees, head-splits, opening-ranges}
use Rattle.store.proofs.header.head_good.Goals as goal

pub returns-then-s-lt-HEAD_BYTES : goal.returns-then-s-lt-HEAD_BYTES
returns-then-s-lt-HEAD_BYTES c = sym (head-short _ c.if-s-lt-HEAD_BYTES.true)

pub returns-then-not-opening_good : goal.returns-then-not-opening_good
returns-then-not-opening_good c = sym (head-refused _ (omega arith) (failed _ _ c.opening_good.ensures c.if-not-opening_good.true-raw))

pub store_size-requires : goal.store_size-requires
store_size-requires c = record { head_bytes_in_bounds = omega arith; s_value = opening-ranges _ (passed _ _ c.opening_good.ensures c.if-not-opening_good.false-raw) }

pub returns-then-s-store_size : goal.returns-then-s-store_size
returns-then-s-store_size c =
    let b = passed _ _ c.opening_good.ensures c.if-not-opening_good.false-raw in
    sym (head_small _ (omega arith) b (omega arith))

pub returns-then-tree_room-trees_held : goal.returns-then-tree_room-trees_held
returns-then-tree_room-trees_held c =
    let b = passed _ _ c.opening_good.ensures c.if-not-opening_good.false-raw in
    sym (head-trees _ (omega arith) b (omega arith) (omega arith))

pub returns : goal.returns
returns c =
    let b = passed _ _ c.opening_good.ensures c.if-not-opening_good.false-raw in
    rw (c.splits_held.ensures.value, c.split_room.ensures.value)
    (sym (head-splits _ (omega arith) b (omega arith) (omega arith)))
