-- `rows::length_in` meets its contract. Assumes nothing.
use mathlib.Core.Path.{sym, ◌∙◌}
use native.Mathlib.Omega.{arith}
use Rattle.layout.specs.StoreLaws.{branch-is}
use Rattle.layout.specs.InsideLaws.{trees-few, branch-inside}
use Rattle.rows.specs.ReadLaws.{length-read}
use Rattle.rows.proofs.length_in.Goals as goal

pub lengths_from-requires : goal.lengths_from-requires
lengths_from-requires c = record { head_bytes_in_bounds = c.requires.head_at.head-there; i_bound = omega (arith, c.requires.i_bound, trees-few _ c.requires.head_at) }

pub get_length-requires : goal.get_length-requires
get_length-requires c = record { at_in_bounds = omega (arith, branch-inside _ c.requires.head_at _ _ c.requires.i_bound c.requires.j_in_bounds c.requires.j_lt_most_splits, c.lengths_from.ensures.value); at_value = rw c.lengths_from.ensures.value (length-read _ _ _ c.requires.i_bound c.requires.j_in_bounds c.requires.none_value) }

pub returns : goal.returns
returns c = c.get_length.ensures ∙ rw c.lengths_from.ensures.value (sym (branch-is _ _ c.requires.i_bound _ c.requires.j_in_bounds))
