use Rattle.std.proofs.Common.{◌<◌, ◌∙◌, arith, length-set, sym}
use Rattle.splitfile.specs.ChoosingLaws.{choose-start, choose-end, choose-leaves, choose-takes, choose-full, choose-not}
use Rattle.splitfile.proofs.choosing.choose.Goals as goal
use Rattle.splitfile.proofs.choosing.choose.Goals.{then-least-count_of+else-k-eq64+else-not-agrees_with, else-least-count_of}

pub loop-i-init : goal.loop-i-init
loop-i-init c = (omega arith, omega arith, c.requires.list_len, choose-start _ _ _ _)

pub returns-then-k-eq64 : goal.returns-then-k-eq64
returns-then-k-eq64 c = let l = c.loop-i in record { chosen_as = choose-full _ _ _ l.invariant.3 (omega arith) (omega arith) (omega arith); list_len_2 = l.invariant.2 }

pub agrees_with-requires : goal.agrees_with-requires
agrees_with-requires c = let l = c.loop-i in record { list_len = l.invariant.2; k_bound = l.invariant.1 }

pub returns-then-not-agrees_with : goal.returns-then-not-agrees_with
returns-then-not-agrees_with c = let l = c.loop-i in record { chosen_as = choose-not _ _ _ l.invariant.3 (omega arith) (omega arith) _ c.mask_of-m.ensures (sym c.agrees_with.ensures ∙ c.if-not-agrees_with.true); list_len_2 = l.invariant.2 }

pub loop-i-preserved : goal.loop-i-preserved
loop-i-preserved c =
    let l = c.loop-i in
    elim c.if-least-count_of.branch [
      | then-least-count_of+else-k-eq64+else-not-agrees_with w ↦
          let n : l.k < 64 = omega (arith, w.if-k-eq64.false) in
          let v = choose-takes _ _ _ l.invariant.3 (omega arith) (omega (arith, w.if-least-count_of.true)) _ w.mask_of-m.ensures (omega arith) (sym w.agrees_with.ensures ∙ w.if-not-agrees_with.false) in
          rw (w.list-is, w.k-is) (omega arith, omega arith, length-set l.list _ _ ∙ l.invariant.2, v)
      | else-least-count_of w ↦ rw (w.list-is, w.k-is) (omega arith, l.invariant.1, l.invariant.2, choose-leaves _ _ _ l.invariant.3 (omega arith) (omega (arith, w.if-least-count_of.false)))
    ]

pub returns : goal.returns
returns c = let l = c.loop-i in record { chosen_as = choose-end _ _ _ l.invariant.3 (omega arith) (omega arith); list_len_2 = l.invariant.2 }
