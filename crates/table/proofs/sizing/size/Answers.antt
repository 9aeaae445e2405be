-- `table::sizing::size` meets its contract. Assumes nothing.
use Rattle.opening.specs.GivenLaws.{failed, passed}
use Rattle.table.specs.OpenLaws.{size-refused, size-given}
use Rattle.table.proofs.sizing.size.Goals as goal

pub returns-then-not-numbers_in_range : goal.returns-then-not-numbers_in_range
returns-then-not-numbers_in_range c = size-refused _ (failed _ _ (c.numbers_in_range.ensures _) c.if-not-numbers_in_range.true-raw)

pub store_size-requires : goal.store_size-requires
store_size-requires c = passed _ _ (c.numbers_in_range.ensures _) c.if-not-numbers_in_range.false-raw

pub returns : goal.returns
returns c = size-given _ _ (passed _ _ (c.numbers_in_range.ensures _) c.if-not-numbers_in_range.false-raw) c.store_size.ensures
