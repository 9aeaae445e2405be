-- `grouping::nearest::group_size` meets its contract. Assumes nothing.
use mathlib.Core.Path.{◌∙◌}
use Rattle.grouping.specs.NearestLaws.{size-at, size_none}
use Rattle.grouping.proofs.nearest.group_size.Goals as goal

pub returns-then-p-list : goal.returns-then-p-list
returns-then-p-list c = c.count_taxa.ensures.value ∙ size-at c.args.n c.args.list.now c.requires.list_value c.args.i.0 c.args.j.0 c.nearest_place-p.ensures.value c.if-p-list.true

pub returns : goal.returns
returns c = size_none c.args.n c.args.list.now c.requires.list_value c.args.i.0 c.args.j.0 c.nearest_place-p.ensures.value c.if-p-list.false
