-- `distances::write_matrix` meets its contract. Assumes nothing.
use Rattle.std.proofs.Common.{ℕ, arith}
use lib.ListN.{length-replicate}
use Rattle.distances.specs.WholeTreeLaws.{head_at}
use Rattle.distances.proofs.write_matrix.Goals as goal

pub trees_held-trees-requires : goal.trees_held-trees-requires
trees_held-trees-requires c = (head_at _ c.requires.s_value).head-there

pub shorten-requires : goal.shorten-requires
shorten-requires c = let e = c.trees_held-trees.ensures in record { s_value = c.requires.s_value; n_bound = omega (arith, e); short_len = length-replicate {A = ℕ} 65536 0; sizes_len = length-replicate {A = ℕ} 1024 0 }

pub write_entries-requires : goal.write_entries-requires
write_entries-requires c = let e = c.trees_held-trees.ensures in record { s_value = c.requires.s_value; trees_value = e; shortened = rw e at c.shorten.ensures; s_in_bounds = c.requires.s_in_bounds }

pub returns : goal.returns
returns c = c.write_entries.ensures
