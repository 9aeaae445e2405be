-- `distances::entries::entry` meets its contract. Assumes nothing.
use Rattle.std.proofs.Common.{refl, arith}
use Rattle.distances.specs.EntryLaws.{entry-below, square-few}
use Rattle.distances.proofs.entries.entry.Goals as goal

pub overflow_mul-result : goal.overflow_mul-result
overflow_mul-result c = omega (arith, entry-below _ _ _ c.requires.i_lt_n c.requires.j_lt_n, square-few _ c.requires.n_bound)

pub overflow_add-result : goal.overflow_add-result
overflow_add-result c = omega (arith, entry-below _ _ _ c.requires.i_lt_n c.requires.j_lt_n, square-few _ c.requires.n_bound)

pub returns : goal.returns
returns c = record { value = refl; upper_bound = entry-below _ _ _ c.requires.i_lt_n c.requires.j_lt_n }
