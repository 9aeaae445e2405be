-- `consensus::write_accepted` meets its contract. Assumes nothing.
use Rattle.std.proofs.Common.{sym, ◌∙◌}
use native.Mathlib.Omega.{arith}
use Rattle.answers.specs.AnswerLaws.{filled-refused}
use Rattle.layout.specs.WholeFacts.{whole-at-facts}
use Rattle.store.specs.LentLaws.{not-whole}
use Rattle.store.specs.HeldWholeLaws.{tree-good}
use Rattle.rows.specs.ReadLaws.{long, rows_at}
use Rattle.consensus.specs.AskedLaws.{tree-copied, copied-there, accepted-missing, accepted-given}
use Rattle.consensus.proofs.write_accepted.Goals as goal

pub returns-then-not-is_whole : goal.returns-then-not-is_whole
returns-then-not-is_whole c = let whole = filled-refused _ _ _ (not-whole _ _ (sym c.is_whole.ensures ∙ c.if-not-is_whole.true)) in record { result_value = whole.0; out_after = whole.1 }

pub trees_held-requires : goal.trees_held-requires
trees_held-requires c = long _ (sym c.is_whole.ensures ∙ c.if-not-is_whole.false)

pub returns-then-trees_held-i : goal.returns-then-trees_held-i
returns-then-trees_held-i c = let whole = accepted-missing _ _ (sym c.is_whole.ensures ∙ c.if-not-is_whole.false) _ (omega arith) in record { result_value = whole.0; out_after = whole.1 }

pub copy_tree-requires : goal.copy_tree-requires
copy_tree-requires c =
    let w = sym c.is_whole.ensures ∙ c.if-not-is_whole.false in
    let r = rows_at _ w c.args.i.0 (omega arith) in record { head_at = (whole-at-facts _ w).head; i_bound = omega arith; rows_at = r; i_in_bounds = omega (arith, r.few) }

pub splits_in-n-requires : goal.splits_in-n-requires
splits_in-n-requires c = record { head_at = (whole-at-facts _ (sym c.is_whole.ensures ∙ c.if-not-is_whole.false)).head; i_bound = omega arith }

pub write_list-requires : goal.write_list-requires
write_list-requires c =
    let w = sym c.is_whole.ensures ∙ c.if-not-is_whole.false in
    let n = c.splits_in-n.ensures in
    let l = c.copy_tree.ensures in record { s_value = w; n_in_bounds = copied-there _ _ _ _ _ n l; list_value = rw (tree-copied _ _ _ _ _ n l) (tree-good _ w _ (omega arith)) }

pub returns : goal.returns
returns c =
    let out = c.args.out.now in
    let w = sym c.is_whole.ensures ∙ c.if-not-is_whole.false in
    let l = tree-copied _ _ _ _ _ c.splits_in-n.ensures c.copy_tree.ensures in let whole = accepted-given _ out w _ (omega arith) _ l _ _ c.write_list.ensures in record { result_value = whole.0; out_after = whole.1 }
