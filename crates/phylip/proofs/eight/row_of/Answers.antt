-- `phylip::eight::row_of` meets its contract. Assumes nothing.
use Prim.Native.Nat.{◌+◌, ◌*◌, ◌-◌, ◌%◌}
use mathlib.Core.Path.{◌≡◌}
use native.Mathlib.Omega.{arith}
use Rattle.phylip.proofs.eight.row_of.Goals as goal

pub returns : goal.returns
returns c =
    let a = c.args in
    let e : 1024 * (a.i % 8) + a.trees - 1024 * (a.i % 8) ≡ a.trees = omega arith in
    rw e
