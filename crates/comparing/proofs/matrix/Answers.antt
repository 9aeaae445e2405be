-- `comparing::matrix` meets its contract. Assumes nothing.
use native.Mathlib.Omega.{arith}
use Rattle.answers.specs.AnswerLaws.{filled-refused}
use Rattle.opening.specs.GivenLaws.{failed, passed}
use Rattle.store.specs.LentLaws.{not-whole}
use Rattle.rows.specs.ReadLaws.{long}
use Rattle.comparing.specs.CompareLaws.{square-of, entries-few, matrix-short, matrix-given}
use Rattle.comparing.proofs.matrix.Goals as goal

pub returns-then-not-is_whole : goal.returns-then-not-is_whole
returns-then-not-is_whole c = let whole = filled-refused _ _ _ (not-whole _ _ (failed _ _ c.is_whole.ensures c.if-not-is_whole.true-raw)) in record { result_value = whole.0; out_after = whole.1 }

pub trees_held-trees-requires : goal.trees_held-trees-requires
trees_held-trees-requires c = long _ (passed _ _ c.is_whole.ensures c.if-not-is_whole.false-raw)

pub overflow_mul-entries : goal.overflow_mul-entries
overflow_mul-entries c =
    let w = passed _ _ c.is_whole.ensures c.if-not-is_whole.false-raw in
    omega (arith, square-of _ _ c.trees_held-trees.ensures, entries-few _ w)

pub returns-then-out-entries : goal.returns-then-out-entries
returns-then-out-entries c = let w = passed _ _ c.is_whole.ensures c.if-not-is_whole.false-raw in let whole = matrix-short _ _ w (omega (arith, square-of _ _ c.trees_held-trees.ensures)) in record { result_value = whole.0; out_after = whole.1 }

pub write_matrix-requires : goal.write_matrix-requires
write_matrix-requires c = record { s_value = passed _ _ c.is_whole.ensures c.if-not-is_whole.false-raw; s_in_bounds = omega (arith, square-of _ _ c.trees_held-trees.ensures) }

pub returns : goal.returns
returns c = let w = passed _ _ c.is_whole.ensures c.if-not-is_whole.false-raw in let whole = matrix-given _ _ w _ _ (omega (arith, square-of _ _ c.trees_held-trees.ensures)) (omega arith) c.write_matrix.ensures in record { result_value = whole.0; out_after = whole.1 }
