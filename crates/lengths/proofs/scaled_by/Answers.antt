-- `lengths::scaled_by` meets its contract. Assumes nothing.
use native.Mathlib.Omega.{arith}
use mathlib.Core.Bool.{true}
use mathlib.Core.Path.{◌≡◌, sym}
use lib.IntN.{pos, ◌-ℤ◌}
use Rattle.trees.specs.Value.{with_sign}
use Rattle.theorems.specs.ValueLaws.{measured-far}
use Rattle.lengths.specs.NearLaws.{far-down, power-up, power_below, power-down}
use Rattle.lengths.specs.Answer.{value_given}
use Rattle.lengths.proofs.scaled_by.Goals as goal

pub returns-then-x-gt22 : goal.returns-then-x-gt22
unfolding value_given
returns-then-x-gt22 c =
    let a = c.args in
    rw c.if-down.true (sym (measured-far a.minus a.n (with_sign true a.x -ℤ pos a.d) (far-down a.x a.d c.if-x-gt22.true)))

pub returns-then-k-eq0 : goal.returns-then-k-eq0
returns-then-k-eq0 c =
    let a = c.args in
    let x : a.x ≡ 0 = omega arith in
    let d : a.d ≡ 0 = omega arith in
    rw (c.if-down.true, x, d) c.times.ensures

pub returns-then-down : goal.returns-then-down
returns-then-down c =
    let a = c.args in
    rw (c.if-down.true, power-down a.x a.d (omega arith)) c.divided.ensures

pub returns-then-d-x : goal.returns-then-d-x
returns-then-d-x c =
    let a = c.args in
    rw (c.if-down.false, power-up a.x a.d (omega arith)) c.times-then-d-x.ensures

pub returns : goal.returns
returns c =
    let a = c.args in
    rw (c.if-down.false, power_below a.x a.d (omega arith)) c.divided-2.ensures
