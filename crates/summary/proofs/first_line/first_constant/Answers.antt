-- `summary::first_line::first_constant` meets its contract. Assumes nothing.
use Prim.Native.Nat.{◌*◌, ◌≤◌}
use native.Mathlib.Nat.{mul-le-mul}
use native.Mathlib.Omega.{arith}
use mathlib.Core.Path.{refl}
use Rattle.summary.specs.Summary.{first_constant}
use Rattle.summary.proofs.first_line.first_constant.Goals as goal

pub overflow_mul-result : goal.overflow_mul-result
overflow_mul-result c =
    let i = c.args.i in
    let h : i ≤ 63 = omega arith in
    let m : i * i ≤ 63 * 63 = mul-le-mul h h in
    omega (arith, m)

pub overflow_mul-result-2 : goal.overflow_mul-result-2
overflow_mul-result-2 c =
    let i = c.args.i in
    let h : i ≤ 63 = omega arith in
    let m : i * i ≤ 63 * 63 = mul-le-mul h h in
    omega (arith, m)

pub returns : goal.returns
unfolding first_constant
returns c = refl
