-- `nexus::blocks::read_trees` meets its contract: the list, the lines, and what stands behind them. Assumes nothing.
use Rattle.nexus.specs.FileLaws.{listed-there, counted-there, trees-no-list, trees-no-lines, trees-no-end, trees-found}
use Rattle.nexus.proofs.blocks.read_trees.Goals as goal

pub returns-in_err-list : goal.returns-in_err-list
returns-in_err-list c = rw c.from_residual.ensures (trees-no-list _ _ _ c.in_err-list.ensures.listed_as)

pub count_lines-requires : goal.count_lines-requires
count_lines-requires c = listed-there _ _ _ _ c.in_ok-list.ensures.listed_as

pub returns-in_err-counted : goal.returns-in_err-counted
returns-in_err-counted c =
    let list = c.in_ok-list.ensures.listed_as in
    rw c.from_residual-in_err-counted.ensures (trees-no-lines _ _ _ _ list c.in_err-counted.ensures)

pub ends_well-requires : goal.ends_well-requires
ends_well-requires c =
    let list = c.in_ok-list.ensures.listed_as in
    counted-there _ _ _ _ list _ c.in_ok-counted.ensures

pub returns-then-not-ends_well : goal.returns-then-not-ends_well
returns-then-not-ends_well c =
    let list = c.in_ok-list.ensures.listed_as in
    let lines = c.in_ok-counted.ensures in
    trees-no-end _ _ _ _ list _ lines (c.ends_well.ensures.not c.if-not-ends_well.true)

pub returns : goal.returns
returns c =
    let list = c.in_ok-list.ensures.listed_as in
    let lines = c.in_ok-counted.ensures in
    trees-found _ _ _ _ list _ lines (c.ends_well.ensures.well c.if-not-ends_well.false)
