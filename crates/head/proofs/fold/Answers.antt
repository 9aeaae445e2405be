-- `head::fold` meets its contract: a sum of three words may wrap twice. Assumes nothing.
use Rattle.std.proofs.Common.{◌+◌, ◌^◌, arith}
use native.Mathlib.Nat.{mod-add-mod}
use Rattle.head.proofs.fold.Goals as goal

pub returns : goal.returns
returns c =
    let a = c.args in
    (rw (mod-add-mod (a.first + a.middle) (2 ^ 64) a.last), omega arith)
