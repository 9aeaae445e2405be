-- `consensus::writing::write_strict` meets its contract. Assumes nothing.
use mathlib.Core.Path.{sym, ◌∙◌}
use Rattle.trees.specs.Consensus.{strict}
use Rattle.rows.specs.ReadLaws.{long}
use Rattle.consensus.specs.FewLaws.{strict_tree, strict-chosen}
use Rattle.consensus.specs.AskedLaws.{strict-by, no-consensus, consensus-given}
use Rattle.consensus.proofs.writing.write_strict.Goals as goal

pub trees_held-all-requires : goal.trees_held-all-requires
trees_held-all-requires c = long _ c.requires

pub returns-then-all-eq0 : goal.returns-then-all-eq0
returns-then-all-eq0 c = no-consensus strict _ _ _ (strict-by _ _) (sym c.trees_held-all.ensures ∙ c.if-all-eq0.true)

pub write_chosen-requires : goal.write_chosen-requires
write_chosen-requires c = let w = c.requires in record { s_value = w; s_value_2 = strict_tree _ w _ c.trees_held-all.ensures }

pub returns : goal.returns
returns c =
    let t = c.trees_held-all.ensures in
    consensus-given strict _ c.args.out.now _ (strict-by _ _) (λ z. c.if-all-eq0.false (t ∙ z)) _ (strict-chosen _ c.requires _ t) _ _ c.write_chosen.ensures
