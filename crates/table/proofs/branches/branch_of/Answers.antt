use mathlib.Core.Path.{sym, ap, ◌∙◌}
use mathlib.Core.Option.{some}
use native.Mathlib.Omega.{arith}
use Rattle.layout.specs.Store.{list_at, branches_at}
use Rattle.layout.specs.WholeFacts.{whole-at-facts}
use Rattle.table.specs.SplitLengths.{branch_found}
use Rattle.table.specs.SplitLengthLaws.{here, further, nowhere, each-branch, few-splits, branch-good, by_rows}
use Rattle.table.proofs.branches.branch_of.Goals as goal

pub tree_from-from-requires : goal.tree_from-from-requires
tree_from-from-requires c = record { head_at = (whole-at-facts _ c.requires.s_value).head; i_bound = c.requires.i_bound }

pub splits_in-n-requires : goal.splits_in-n-requires
splits_in-n-requires c = record { head_at = (whole-at-facts _ c.requires.s_value).head; i_bound = c.requires.i_bound }

pub loop-j-init : goal.loop-j-init
loop-j-init c = (omega arith, by_rows _ c.requires.s_value _ c.requires.i_bound _ c.requires.row_bound)

pub row_in-requires : goal.row_in-requires
row_in-requires c = record { head_at = (whole-at-facts _ c.requires.s_value).head; i_bound = c.requires.i_bound; from_value = c.tree_from-from.ensures.value; j_in_bounds = omega arith; j_lt_most_splits = omega (arith, few-splits _ c.requires.s_value _ c.requires.i_bound) }

pub length_in-requires : goal.length_in-requires
length_in-requires c =
    let w = c.requires.s_value in
    let h = c.requires.i_bound in record { head_at = (whole-at-facts _ w).head; i_bound = h; j_in_bounds = omega (arith, each-branch _ _ h c.requires.bound); j_lt_most_splits = omega (arith, few-splits _ w _ h); none_value = branch-good _ w _ h _ }

pub returns-then-row_in-row : goal.returns-then-row_in-row
unfolding branch_found
returns-then-row_in-row c =
    let a = c.args.s.now in
    let i = c.args.i.0 in
    let e = each-branch a i c.requires.i_bound c.requires.bound in
    ap (λ x. some x) c.length_in.ensures
    ∙ sym (here _ (list_at a i) (branches_at a i) c.loop-j.j (omega arith) (omega (arith, e)) (sym c.row_in.ensures ∙ c.if-row_in-row.true))
    ∙ c.loop-j.invariant.1

pub loop-j-preserved : goal.loop-j-preserved
loop-j-preserved c =
    let a = c.args.s.now in
    let i = c.args.i.0 in
    let e = each-branch a i c.requires.i_bound c.requires.bound in
    (omega arith, sym (further _ (list_at a i) (branches_at a i) c.loop-j.j (omega arith) (omega (arith, e)) (λ q. c.if-row_in-row.false (c.row_in.ensures ∙ q))) ∙ c.loop-j.invariant.1)

pub returns : goal.returns
unfolding branch_found
returns c = sym (nowhere _ (list_at c.args.s.now c.args.i.0) (branches_at c.args.s.now c.args.i.0) c.loop-j.j (omega arith)) ∙ c.loop-j.invariant.1
