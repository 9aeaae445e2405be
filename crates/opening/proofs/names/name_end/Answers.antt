-- `opening::names::name_end` meets its contract: behind the label stands a space, or the list ends. Assumes nothing.
use Rattle.opening.specs.WalkLaws.{end-space, end_none, end-other}
use Rattle.opening.proofs.names.name_end.Goals as goal

pub returns-then-list-e-ne32 : goal.returns-then-list-e-ne32
returns-then-list-e-ne32 c = end-other _ c.args.b _ c.requires c.label_end-e.ensures c.if-e-list.true c.if-list-e-ne32.true

pub returns-else-list-e-ne32 : goal.returns-else-list-e-ne32
returns-else-list-e-ne32 c = end-space _ c.args.b _ c.requires c.label_end-e.ensures c.if-e-list.true c.if-list-e-ne32.false

pub returns-else-e-list : goal.returns-else-e-list
returns-else-e-list c = end_none _ c.args.b _ c.requires c.label_end-e.ensures c.if-e-list.false
