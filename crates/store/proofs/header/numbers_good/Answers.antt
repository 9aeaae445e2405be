-- `store::header::numbers_good` meets its contract. Assumes nothing.
use Rattle.std.proofs.Common.{sym, ap, ◌∙◌, arith}
use Rattle.trees.specs.Opening.{in_range}
use Rattle.store.specs.HeaderLaws.{numbers-kept, numbers-read}
use Rattle.store.proofs.header.numbers_good.Goals as goal

pub returns-then-kept-gt1 : goal.returns-then-kept-gt1
returns-then-kept-gt1 c = sym (numbers-kept _ _ c.kept.ensures.value c.if-kept-gt1.true)

pub returns : goal.returns
returns c =
    let e = numbers-read _ _ _ _ _ _ _ c.taxa.ensures.value c.lanes.ensures.value
    c.tree_room.ensures.value c.split_room.ensures.value c.places.ensures.value c.kept.ensures.value (omega arith) in
    c.numbers_in_range.ensures _ ∙ ap in_range e
