use Prim.Native.Nat.{ℕ, ◌+◌}
use mathlib.Core.Path.{◌≡◌, refl, sym, ap, ◌∙◌}
use native.Mathlib.Omega.{arith}
use lib.ListN.{length, get_or}
use Rattle.fields.specs.RunLaws.{copied_none, copied-end, copied-length}
use Rattle.putting.specs.WritingLaws.{word-put}
use Rattle.putting.proofs.put_word.Goals as goal

pub loop-i-init : goal.loop-i-init
loop-i-init c = sym (copied_none _ _ _ _)

pub loop-i-preserved : goal.loop-i-preserved
loop-i-preserved c =
    let l = c.loop-i in
    let a = c.args in
    let e : l.i ≡ 0 + l.i = omega arith in
    c.put_byte.ensures ∙ copied-end a.out.now a.at a.word.now 0 l.i l.invariant (ap (λ (k : ℕ). get_or a.word.now k 0) e) (omega arith)

pub shape_of-out : goal.shape_of-out
shape_of-out c = ap length c.loop-i.invariant ∙ copied-length _ _ _ _ _

pub returns : goal.returns
returns c =
    let l = c.loop-i in
    let a = c.args in
    let e : l.i ≡ length a.word.now = omega arith in
    word-put _ _ _ _ _ refl (rw e at l.invariant)
