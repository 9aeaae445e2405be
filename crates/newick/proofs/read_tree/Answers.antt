-- `newick::read_tree` meets its contract. Assumes nothing.
use Rattle.std.proofs.Common.{refl}
use Rattle.newick.specs.ShapingLaws.{shape-tokens, shape-read}
use Rattle.newick.proofs.JudgeLaws.{read_none}
use Rattle.newick.proofs.read_tree.Goals as goal

pub returns-then-text-c : goal.returns-then-text-c
returns-then-text-c c = read_none _ _ _ _ _ _ _ c.read_shape-c.ensures c.if-text-c.true _ _ _

pub read_leaves-requires : goal.read_leaves-requires
read_leaves-requires c = record { prepared = c.requires.prepared; tokens = shape-tokens _ _ _ _ _ _ c.read_shape-c.ensures c.if-text-c.false refl }

pub returns : goal.returns
returns c = shape-read _ _ _ _ _ _ c.read_shape-c.ensures c.if-text-c.false refl _ _ _ (c.read_leaves.ensures _)
