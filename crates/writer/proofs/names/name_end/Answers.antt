-- `writer::names::name_end` meets its contract: a byte is below 256. Assumes nothing.
use Prim.Native.Nat.{◌-◌}
use mathlib.Core.Path.{refl}
use native.Mathlib.Omega.{arith}
use Rattle.writer.proofs.names.name_end.Goals as goal

pub overflow_add-result : goal.overflow_add-result
overflow_add-result c = omega (arith, c.from.ensures, c.type_inv.head (c.args.b - 1))

pub returns : goal.returns
returns c = rw c.from.ensures (refl, omega (arith, c.type_inv.head (c.args.b - 1)))
