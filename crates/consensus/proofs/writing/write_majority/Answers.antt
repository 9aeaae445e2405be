-- `consensus::writing::write_majority` meets its contract. Assumes nothing.
use mathlib.Core.Path.{sym, ◌∙◌}
use Rattle.trees.specs.Consensus.{majority}
use Rattle.rows.specs.ReadLaws.{long}
use Rattle.consensus.specs.FewLaws.{majority-tree, majority-chosen}
use Rattle.consensus.specs.AskedLaws.{majority-by, no-consensus, consensus-given}
use Rattle.consensus.proofs.writing.write_majority.Goals as goal

pub trees_held-trees-requires : goal.trees_held-trees-requires
trees_held-trees-requires c = long _ c.requires

pub returns-then-trees-eq0 : goal.returns-then-trees-eq0
returns-then-trees-eq0 c = no-consensus majority _ _ _ (majority-by _ _) (sym c.trees_held-trees.ensures ∙ c.if-trees-eq0.true)

pub write_chosen-requires : goal.write_chosen-requires
write_chosen-requires c = let w = c.requires in record { s_value = w; s_value_2 = majority-tree _ w _ c.trees_held-trees.ensures }

pub returns : goal.returns
returns c =
    let t = c.trees_held-trees.ensures in
    consensus-given majority _ c.args.out.now _ (majority-by _ _) (λ z. c.if-trees-eq0.false (t ∙ z)) _ (majority-chosen _ c.requires _ t) _ _ c.write_chosen.ensures
