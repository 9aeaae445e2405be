-- `distances::eight::write_eight` meets its contract. Assumes nothing.
use Rattle.std.proofs.Common.{arith}
use Rattle.distances.specs.EightLaws.{words-none, table_of, block_of}
use Rattle.distances.specs.WholeTreeLaws.{head_at}
use Rattle.distances.proofs.eight.write_eight.Goals as goal

pub trees_held-trees-requires : goal.trees_held-trees-requires
trees_held-trees-requires c = (head_at _ c.requires.s_value).head-there

pub overflow_sub-trees : goal.overflow_sub-trees
overflow_sub-trees c = omega (arith, c.requires.i_bound, c.trees_held-trees.ensures)

pub mark_lists-requires : goal.mark_lists-requires
mark_lists-requires c = let n = c.up_to_eight-n.ensures.most in record { table = table_of _ c.requires.s_value _ _ c.requires.shortened _ (omega (arith, c.requires.i_bound, n.1, c.trees_held-trees.ensures)); n_bound = n.0; words = words-none _ _ _ }

pub write_columns-requires : goal.write_columns-requires
write_columns-requires c =
    let n = c.up_to_eight-n.ensures.most in
    let t = c.trees_held-trees.ensures in record { table = table_of _ c.requires.s_value _ _ c.requires.shortened _ (omega (arith, t)); n_bound = omega (arith, c.requires.i_bound, n.1, t); n_bound_2 = n.0; words = c.mark_lists.ensures; out_len = c.requires.out_len }

pub returns : goal.returns
returns c =
    let t = c.trees_held-trees.ensures in
    block_of _ c.requires.s_value _ _ c.requires.shortened _ _ _ (rw t at c.up_to_eight-n.ensures) (rw t at c.write_columns.ensures)
