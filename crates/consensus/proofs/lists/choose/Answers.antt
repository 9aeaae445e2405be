use Prim.Native.Nat.{◌≤◌}
use mathlib.Core.Path.{◌∙◌}
use native.Mathlib.Omega.{arith}
use lib.ListN.{length-set}
use Rattle.layout.specs.WholeFacts.{whole-at-facts}
use Rattle.rows.specs.ReadLaws.{long}
use Rattle.consensus.specs.Chosen.{ReadSplit}
use Rattle.consensus.specs.ChooseLaws.{read_below, choose-start, choose-end, choose-takes, choose-leaves, choose-room}
use Rattle.consensus.proofs.lists.choose.Goals as goal
use Rattle.consensus.proofs.lists.choose.Goals.{else-least-count_at, then-least-count_at}

pub splits_held-held-requires : goal.splits_held-held-requires
splits_held-held-requires c = long _ c.requires.s_value

pub loop-k-init : goal.loop-k-init
loop-k-init c = (omega arith, omega arith, c.requires.list_len, choose-start _ c.requires.s_value _ _)

pub row_of-row-requires : goal.row_of-row-requires
row_of-row-requires c = record { head_at = (whole-at-facts _ c.requires.s_value).head; k_bound = omega arith }

pub count_at-requires : goal.count_at-requires
count_at-requires c = let w = c.requires.s_value in record { head_at = (whole-at-facts _ w).head; row_bound = read_below _ w (omega arith) c.row_of-row.ensures }

pub mask_at-requires : goal.mask_at-requires
mask_at-requires c = let w = c.requires.s_value in record { head_at = (whole-at-facts _ w).head; row_bound = read_below _ w (omega arith) c.row_of-row.ensures }

pub bounds-list-n : goal.bounds-list-n
bounds-list-n c =
    let l = c.loop-k in
    let o = c.row_of-row.ensures in
    let r : ReadSplit c.args.s.now l.k _ _ =
    record { held = omega arith; row_is = o; count-is = c.count_at.ensures } in
    omega (arith, choose-room _ c.requires.s_value l.invariant.3 r (omega (arith, c.if-least-count_at.true)) (omega arith) (omega arith))

pub loop-k-preserved : goal.loop-k-preserved
loop-k-preserved c =
    let l = c.loop-k in
    let o = c.row_of-row.ensures in
    let r : ReadSplit c.args.s.now l.k _ _ =
    record { held = omega arith; row_is = o; count-is = c.count_at.ensures } in
    elim c.if-least-count_at.branch [
      | then-least-count_at w ↦
          let e : c.args.least ≤ c.count_at.result = omega (arith, w.if-least-count_at.true) in
          let n = choose-room _ c.requires.s_value l.invariant.3 r e (omega arith) (omega arith) in
          rw (w.list-is, w.n-is)
          (omega arith, omega (arith, n, l.invariant.2), length-set l.list _ _ ∙ l.invariant.2, choose-takes _ c.requires.s_value l.invariant.3 r e w.mask_at.ensures n)
      | else-least-count_at w ↦ rw (w.list-is, w.n-is) (omega arith, l.invariant.1, l.invariant.2, choose-leaves _ c.requires.s_value l.invariant.3 r (omega (arith, w.if-least-count_at.false)))
    ]

pub returns : goal.returns
returns c = let l = c.loop-k in record { list_after = choose-end _ c.requires.s_value l.invariant.3 (omega arith); upper_bound = omega arith }
