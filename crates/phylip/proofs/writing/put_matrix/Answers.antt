-- `phylip::writing::put_matrix` meets its contract. Assumes nothing.
use Prim.Native.Nat.{ℕ}
use native.Mathlib.Omega.{arith}
use lib.ListN.{length-replicate}
use Rattle.rows.specs.ReadLaws.{long}
use Rattle.phylip.specs.DigitLaws.{digits-few}
use Rattle.phylip.specs.WritingLaws.{trees-most, text-put}
use Rattle.phylip.proofs.writing.put_matrix.Goals as goal

pub trees_held-trees-requires : goal.trees_held-trees-requires
trees_held-trees-requires c = long _ c.requires

pub shorten-requires : goal.shorten-requires
shorten-requires c = record { s_value = c.requires; n_bound = omega (arith, c.trees_held-trees.ensures); short_len = length-replicate {A = ℕ} 65536 0; sizes_len = length-replicate {A = ℕ} 1024 0 }

pub overflow_cast-trees : goal.overflow_cast-trees
overflow_cast-trees c = omega (arith, c.trees_held-trees.ensures, trees-most _ c.requires)

pub put_number-e-requires : goal.put_number-e-requires
put_number-e-requires c = record { n_bound = omega (arith, c.trees_held-trees.ensures, trees-most _ c.requires); at_bound = omega arith }

-- the number of trees has at most four digits
pub overflow_add-e : goal.overflow_add-e
overflow_add-e c =
    let n = c.trees_held-trees in
    omega (arith, c.put_number-e.ensures.ends, digits-few n.result (omega (arith, n.ensures, trees-most _ c.requires)))

pub put_lines-requires : goal.put_lines-requires
put_lines-requires c =
    let n = c.trees_held-trees in
    let w = c.requires in record { s_value = w; shortened = rw n.ensures at c.shorten.ensures; at_bound = omega (arith, c.put_number-e.ensures.ends, digits-few n.result (omega (arith, n.ensures, trees-most _ w))) }

pub returns : goal.returns
returns c = text-put _ c.requires _ c.trees_held-trees.ensures c.put_number-e.ensures c.put_byte.ensures c.put_lines.ensures
