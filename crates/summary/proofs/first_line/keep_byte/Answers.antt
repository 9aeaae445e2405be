-- `summary::first_line::keep_byte` meets its contract. Assumes nothing.
use mathlib.Core.Path.{refl, sym}
use native.Mathlib.Omega.{arith}
use lib.Seq.{set_out}
use Rattle.summary.specs.FirstLineLaws.{used-full, used-more}
use Rattle.summary.proofs.first_line.keep_byte.Goals as goal

pub returns-then-out-used : goal.returns-then-out-used
returns-then-out-used c = record { value = used-full _ _ c.if-out-used.true; out_after = sym (set_out _ _ _ c.if-out-used.true) }

pub returns : goal.returns
returns c = record { value = used-more _ _ (omega arith); out_after = refl }
