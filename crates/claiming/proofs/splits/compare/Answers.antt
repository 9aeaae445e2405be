use mathlib.Core.Path.{sym, ◌∙◌}
use native.Mathlib.Omega.{arith}
use borrow.Author.Tests.{ltb-true, ltb-false}
use Rattle.answers.specs.AnswerLaws.{claim-same, claim-text, claim-majority}
use Rattle.layout.specs.WholeFacts.{whole-at-facts}
use Rattle.rows.specs.ReadLaws.{long}
use Rattle.consensus.specs.Chosen.{ReadSplit}
use Rattle.consensus.specs.ChooseLaws.{read_below}
use Rattle.claiming.specs.CompareLaws.{along-start, along-leaves, along-both, majority-behind, text-first, majority-first, text-behind, both_end}
use Rattle.claiming.proofs.splits.compare.Goals as goal
use Rattle.claiming.proofs.splits.compare.Goals.{then-least-count_at+else-i-k+else-comes_before+else-comes_before-2, else-least-count_at}

pub splits_held-held-requires : goal.splits_held-held-requires
splits_held-held-requires c = long _ c.requires.s_value

pub loop-j-init : goal.loop-j-init
loop-j-init c = (omega arith, omega arith, along-start _ _ c.requires.s_value _ _ c.requires.rising)

pub row_of-row-requires : goal.row_of-row-requires
row_of-row-requires c = record { head_at = (whole-at-facts _ c.requires.s_value).head; k_bound = omega arith }

pub count_at-requires : goal.count_at-requires
count_at-requires c = let w = c.requires.s_value in record { head_at = (whole-at-facts _ w).head; row_bound = read_below _ w (omega arith) c.row_of-row.ensures }

pub mask_at-ours-requires : goal.mask_at-ours-requires
mask_at-ours-requires c = let w = c.requires.s_value in record { head_at = (whole-at-facts _ w).head; row_bound = read_below _ w (omega arith) c.row_of-row.ensures }

pub returns-then-i-k : goal.returns-then-i-k
returns-then-i-k c =
    let q : ReadSplit c.args.s.now c.loop-j.j _ _ = record { held = omega arith; row_is = c.row_of-row.ensures; count-is = c.count_at.ensures } in
    claim-majority _ _ (majority-behind _ _ c.requires.s_value _ _ c.requires.rising c.loop-j.invariant.2 q (omega (arith, c.if-least-count_at.true)) c.mask_at-ours.ensures (omega arith))

pub mask_of-theirs-requires : goal.mask_of-theirs-requires
mask_of-theirs-requires c = omega (arith, c.requires.k_in_bounds)

pub returns-then-comes_before : goal.returns-then-comes_before
returns-then-comes_before c =
    let q : ReadSplit c.args.s.now c.loop-j.j _ _ = record { held = omega arith; row_is = c.row_of-row.ensures; count-is = c.count_at.ensures } in
    claim-text _ _
    (text-first _ _ c.requires.s_value _ _ c.requires.rising c.loop-j.invariant.2 q (omega (arith, c.if-least-count_at.true)) c.mask_at-ours.ensures (omega (arith, c.if-i-k.false)) c.mask_of-theirs.ensures
    (ltb-true _ _ (sym c.comes_before.ensures ∙ c.if-comes_before.true)))

pub returns-then-comes_before-2 : goal.returns-then-comes_before-2
returns-then-comes_before-2 c =
    let q : ReadSplit c.args.s.now c.loop-j.j _ _ = record { held = omega arith; row_is = c.row_of-row.ensures; count-is = c.count_at.ensures } in
    claim-majority _ _
    (majority-first _ _ c.requires.s_value _ _ c.requires.rising c.loop-j.invariant.2 q (omega (arith, c.if-least-count_at.true)) c.mask_at-ours.ensures (omega (arith, c.if-i-k.false)) c.mask_of-theirs.ensures
    (ltb-true _ _ (sym c.comes_before-then-least-count_at.ensures ∙ c.if-comes_before-2.true)))

pub loop-j-preserved : goal.loop-j-preserved
loop-j-preserved c =
    let q : ReadSplit c.args.s.now c.loop-j.j _ _ = record { held = omega arith; row_is = c.row_of-row.ensures; count-is = c.count_at.ensures } in
    elim c.if-least-count_at.branch [
      | then-least-count_at+else-i-k+else-comes_before+else-comes_before-2 w ↦
          let a = ltb-false w.mask_of-theirs.result w.mask_at-ours.result (sym w.comes_before.ensures ∙ w.if-comes_before.false) in
          let b = ltb-false w.mask_at-ours.result w.mask_of-theirs.result (sym w.comes_before-then-least-count_at.ensures ∙ w.if-comes_before-2.false) in
          rw w.i-is (
            omega (arith, w.if-i-k.false),
            omega arith,
            along-both _ _ c.requires.s_value _ _ c.requires.rising c.loop-j.invariant.2 q (omega (arith, w.if-least-count_at.true)) w.mask_at-ours.ensures (omega (arith, w.if-i-k.false)) w.mask_of-theirs.ensures (omega (arith, a, b)),
          )
      | else-least-count_at w ↦ rw w.i-is (c.loop-j.invariant.0, omega arith, along-leaves _ _ c.requires.s_value _ _ c.requires.rising c.loop-j.invariant.2 q (omega (arith, w.if-least-count_at.false)))
    ]

pub mask_of-requires : goal.mask_of-requires
mask_of-requires c = omega (arith, c.requires.k_in_bounds)

pub returns-then-i-k-2 : goal.returns-then-i-k-2
returns-then-i-k-2 c = claim-text _ _ (text-behind _ _ c.requires.s_value _ _ c.requires.rising c.loop-j.invariant.2 (omega arith) (omega arith) c.mask_of.ensures)

pub returns : goal.returns
returns c = claim-same _ (both_end _ _ c.requires.s_value _ _ c.requires.rising c.loop-j.invariant.2 (omega arith) (omega arith))
