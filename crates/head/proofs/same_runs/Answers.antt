use Rattle.std.proofs.Common.{◌≡◌, ◌+◌, ◌*◌, ◌-◌, sym, ◌∙◌, arith}
use Rattle.head.specs.WordLaws.{runs-short, runs_other, runs-more, runs_last}
use Rattle.head.proofs.same_runs.Goals as goal

pub returns-then-z-a-lt8 : goal.returns-then-z-a-lt8
returns-then-z-a-lt8 c =
    let a = c.args in
    rw (c.first_word.ensures, c.first_word-then-z-a-lt8.ensures)
    (runs-short a.s.now a.text.now a.a a.z a.b a.e (omega arith) (omega arith) (omega arith) (omega arith)
    (λ i. omega (arith, c.type_inv.s i)) (λ i. omega (arith, c.type_inv.text i)) (omega arith))

pub loop-k-init : goal.loop-k-init
loop-k-init c = λ k h. absurd (omega arith)

pub returns-then-get64 : goal.returns-then-get64
returns-then-get64 c =
    let k = c.loop-k.k in
    let a = c.args in
    sym
    (runs_other a.s.now a.text.now a.a a.z a.b a.e (omega arith) (omega arith) (omega arith) (omega arith) (a.a + 8 * k) (a.b + 8 * k) (omega arith) (omega arith) (omega arith)
    (λ q. c.if-get64.true (c.get64.ensures ∙ q ∙ sym c.get64-in-loop-k.ensures)))

pub loop-k-preserved : goal.loop-k-preserved
loop-k-preserved c =
    let l = c.loop-k in
    let a = c.args in
    let next : a.a + 8 * (l.k + 1) ≡ a.a + 8 * l.k + 8 = omega arith in
    rw next (runs-more a.s.now a.text.now a.a a.z a.b a.e (omega arith) (omega arith) (omega arith) (omega arith)
    (λ i. omega (arith, c.type_inv.s i)) (λ i. omega (arith, c.type_inv.text i)) (a.a + 8 * l.k) (a.b + 8 * l.k) (a.a + 8 * l.k) l.invariant (omega arith) (omega arith) (omega arith)
    (sym c.get64.ensures ∙ c.if-get64.false ∙ c.get64-in-loop-k.ensures))

pub returns : goal.returns
returns c =
    let l = c.loop-k in
    let a = c.args in
    rw (c.get64-2.ensures, c.get64-3.ensures)
    (runs_last a.s.now a.text.now a.a a.z a.b a.e (omega arith) (omega arith) (omega arith) (omega arith)
    (λ i. omega (arith, c.type_inv.s i)) (λ i. omega (arith, c.type_inv.text i)) (a.z - 8) (a.a + 8 * l.k) l.invariant (omega arith) (omega arith) (omega arith))
