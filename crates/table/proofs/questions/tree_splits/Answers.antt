-- `table::questions::tree_splits` meets its contract. Assumes nothing.
use native.Mathlib.Omega.{arith}
use mathlib.Core.Path.{sym, ◌∙◌}
use Rattle.answers.specs.AnswerLaws.{filled-refused, filled-short, filled-given}
use Rattle.opening.specs.GivenLaws.{failed, passed}
use Rattle.store.specs.LentLaws.{not-whole}
use Rattle.rows.specs.ReadLaws.{long, tree-length, rows_at}
use Rattle.table.specs.QuestionLaws.{tree-missing, tree-found}
use Rattle.layout.specs.WholeFacts.{whole-at-facts}
use Rattle.table.proofs.questions.tree_splits.Goals as goal

pub returns-then-not-is_whole : goal.returns-then-not-is_whole
returns-then-not-is_whole c = let whole = filled-refused _ _ _ (not-whole _ _ (failed _ _ c.is_whole.ensures c.if-not-is_whole.true-raw)) in record { result_value = whole.0; masks_after = whole.1 }

pub trees_held-requires : goal.trees_held-requires
trees_held-requires c = long _ (passed _ _ c.is_whole.ensures c.if-not-is_whole.false-raw)

pub returns-then-trees_held-i : goal.returns-then-trees_held-i
returns-then-trees_held-i c = let w = passed _ _ c.is_whole.ensures c.if-not-is_whole.false-raw in let whole = filled-refused _ _ _ (tree-missing _ w _ _ (omega arith)) in record { result_value = whole.0; masks_after = whole.1 }

pub splits_in-n-requires : goal.splits_in-n-requires
splits_in-n-requires c = let w = passed _ _ c.is_whole.ensures c.if-not-is_whole.false-raw in record { head_at = (whole-at-facts _ w).head; i_bound = omega arith }

pub returns-then-masks-n : goal.returns-then-masks-n
returns-then-masks-n c =
    let a = c.args in
    let w = passed _ _ c.is_whole.ensures c.if-not-is_whole.false-raw in let whole = filled-short _ _ _ (tree-found _ w _ _ (omega arith)) (omega (arith, tree-length a.s.now a.i.0)) in record { result_value = whole.0; masks_after = whole.1 }

pub copy_tree-requires : goal.copy_tree-requires
copy_tree-requires c = let w = passed _ _ c.is_whole.ensures c.if-not-is_whole.false-raw in record { head_at = (whole-at-facts _ w).head; i_bound = omega arith; rows_at = rows_at _ w _ (omega arith); i_in_bounds = omega arith }

pub returns : goal.returns
returns c =
    let w = passed _ _ c.is_whole.ensures c.if-not-is_whole.false-raw in
    let a = c.args in
    let n = tree-length a.s.now a.i.0 in let whole = filled-given _ a.masks.now _ (tree-found a.s.now w a.i.0 _ (omega arith)) c.splits_in-n.result _ (c.splits_in-n.ensures ∙ sym n) (omega arith) (rw n c.copy_tree.ensures) in record { result_value = whole.0; masks_after = whole.1 }
