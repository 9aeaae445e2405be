use native.Mathlib.Omega.{arith}
use mathlib.Core.Path.{refl, sym, ap, ◌∙◌}
use lib.Ieee.{of_bits}
use Rattle.trees.specs.Sums.{sums}
use Rattle.answers.specs.Answers.{sums_given}
use Rattle.answers.specs.AnswerLaws.{lengths-refused, lengths-given}
use Rattle.rows.specs.ReadLaws.{long}
use Rattle.table.specs.SplitLengths.{go_on}
use Rattle.table.specs.SplitLengthLaws.{none-met, tree-lacking, tree-absent, tree-given, trees-over}
use Rattle.table.proofs.branches.row_lengths.Goals as goal
use Rattle.table.proofs.branches.row_lengths.Goals.{in-Some+in-Some-x, in_default}

pub trees_held-trees-requires : goal.trees_held-trees-requires
trees_held-trees-requires c = long _ c.requires.s_value

pub loop-i-init : goal.loop-i-init
unfolding sums_given sums of_bits
loop-i-init c = (omega arith, none-met _)

pub branch_of-requires : goal.branch_of-requires
branch_of-requires c = record { s_value = c.requires.s_value; row_bound = c.requires.row_bound; bound = c.requires.bound; i_bound = omega arith }

pub returns-in_default-x : goal.returns-in_default-x
returns-in_default-x c =
    let a = c.args in
    lengths-refused _ _
    (sym c.loop-i.invariant.1
    ∙ tree-absent a.s.now a.row c.loop-i.i (omega arith) _ c.branch_of.ensures _ c.in-Some.is _ _ c.in_default-x.is)

pub loop-i-preserved : goal.loop-i-preserved
loop-i-preserved c =
    let a = c.args in
    let i = c.loop-i.i in
    let v = c.loop-i.invariant.1 in
    elim c.match-branch_of.branch [
      | in-Some+in-Some-x w ↦ (
        omega arith,
        rw (w.met-is, w.lengths-is, w.with_length-lengths.ensures)
            (sym (tree-given a.s.now a.row i (omega arith) _ c.branch_of.ensures _ w.in-Some.is _ _ _ w.in-Some-x.is) ∙ v),
      )
      | in_default w ↦ (
        omega arith,
        rw (w.met-is, w.lengths-is)
            (ap (go_on c.loop-i.met (sums_given c.loop-i.lengths)) (sym (tree-lacking a.s.now a.row i (omega arith) _ c.branch_of.ensures w.in_default.is)) ∙ v),
      )
    ]

pub returns : goal.returns
returns c =
    let a = c.args in
    lengths-given _ _ _ (sym c.loop-i.invariant.1 ∙ trees-over a.s.now a.row c.loop-i.i _ _ (omega arith)) refl
