use Rattle.std.proofs.Common.{◌≡◌, sym, ◌∙◌, zero-add, arith}
use Rattle.store.specs.SumLaws.{turn-less, turn-sum, turn_end}
use Rattle.store.proofs.sums.sum_over.Goals as goal

pub loop-b-init : goal.loop-b-init
loop-b-init c = (omega arith, omega arith, omega arith, λ cs s. rw zero-add)

pub loop-b-preserved : goal.loop-b-preserved
loop-b-preserved c =
    let l = c.loop-b in (
      omega arith,
      omega arith,
      turn-less _ _ (omega arith) l.invariant.2,
      λ cs s. turn-sum cs _ s l.b l.rest l.sum (omega arith) ∙ l.invariant.3 cs s,
    )

pub returns : goal.returns
returns c =
    let l = c.loop-b in
    let e : l.b ≡ 8 = omega arith in
    record { of = λ cs s. sym (turn_end _ l.rest _ (rw e at l.invariant.2) l.invariant.1) ∙ l.invariant.3 cs s }
