use mathlib.Core.Path.{◌≡◌, refl}
use mathlib.Core.Logic.{inl}
use Prim.Native.Nat.{◌+◌, ◌-◌}
use native.Mathlib.Nat.{add-zero, sub-zero}
use native.Mathlib.Omega.{arith}
use lib.ListN.{length-set}
use Rattle.fields.specs.RunLaws.{copied_none, copied-front, copied-outside}
use Rattle.fields.proofs.copy_up.Goals as goal

pub loop-i-init : goal.loop-i-init
loop-i-init c =
    let e : c.args.n - c.args.n ≡ 0 = omega arith in
    (omega arith, refl, rw (e, copied_none))

pub loop-i-preserved : goal.loop-i-preserved
loop-i-preserved c =
    let v = c.loop-i.invariant in
    let a = c.args in
    let i = c.loop-i.i in
    let p : a.to + i ≡ a.to + (i - 1) + 1 = omega arith in
    let q : a.from + i ≡ a.from + (i - 1) + 1 = omega arith in
    let r : a.n - (i - 1) ≡ a.n - i + 1 = omega arith in (
      omega arith,
      simp length-set v.1,
      rw r (copied-front _ _ _ _ _
          (rw (p, q) at v.2)
          (rw v.2 (copied-outside _ _ _ _ _ _ (inl (omega arith))))
          (omega arith)),
    )

pub returns : goal.returns
returns c =
    let a = c.args in
    let e : c.loop-i.i ≡ 0 = omega arith in
    rw (e, add-zero a.to, add-zero a.from, sub-zero) at c.loop-i.invariant.2
