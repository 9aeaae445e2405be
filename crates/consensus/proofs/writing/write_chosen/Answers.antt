-- `consensus::writing::write_chosen` meets its contract. Assumes nothing.
use mathlib.Core.Path.{refl}
use native.Mathlib.Omega.{arith}
use Rattle.consensus.specs.FewLaws.{tree-few}
use Rattle.consensus.proofs.writing.write_chosen.Goals as goal

pub choose-n-requires : goal.choose-n-requires
choose-n-requires c = record { s_value = c.requires.s_value; list_len = refl; s_len_bound = omega (arith, tree-few _ c.requires.s_value _ c.requires.s_value_2) }

pub write_list-requires : goal.write_list-requires
write_list-requires c = record { s_value = c.requires.s_value; n_in_bounds = c.choose-n.ensures.upper_bound; list_value = rw c.choose-n.ensures.list_after c.requires.s_value_2 }

pub returns : goal.returns
returns c = rw c.choose-n.ensures.list_after at c.write_list.ensures
