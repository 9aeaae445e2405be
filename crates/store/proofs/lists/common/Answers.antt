-- `store::lists::common` meets its contract. Assumes nothing.
use Rattle.std.proofs.Common.{ap, ◌∙◌}
use Rattle.trees.specs.Mask.{without}
use Rattle.store.specs.UnionLaws.{without-twice}
use Rattle.store.proofs.lists.common.Goals as goal

pub returns : goal.returns
returns c = c.taxa_without-2.ensures ∙ ap (without _) c.taxa_without.ensures ∙ without-twice _ _
