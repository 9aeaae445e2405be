-- `writer::names::put_quoted` meets its contract. Assumes nothing.
use Prim.Native.Nat.{◌+◌}
use native.Mathlib.Omega.{arith}
use mathlib.Core.Path.{◌≡◌}
use Rattle.putting.specs.PutLaws.{put_one, put_then}
use Rattle.writer.specs.NameLaws.{doubled-other, doubled-quote}
use Rattle.writer.proofs.names.put_quoted.Goals as goal

pub returns-then-b-ne39 : goal.returns-then-b-ne39
returns-then-b-ne39 c = record { put = rw (doubled-other c.args.b c.if-b-ne39.true) (put_one c.put_byte.ensures); upper_bound = omega arith }

pub returns : goal.returns
returns c =
    let a = c.args in
    let z : a.at + 2 ≡ a.at + 1 + 1 = omega arith in record { put = rw (doubled-quote a.b c.if-b-ne39.false, z) (put_then (put_one c.put_byte.ensures) (put_one c.put_byte-2.ensures)); upper_bound = omega arith }
