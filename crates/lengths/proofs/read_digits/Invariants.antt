-- `lengths::read_digits` meets its contract. Assumes nothing.
use lib.ListN.{length}
use Rattle.lengths.specs.ReadLaws.{Got}
use Rattle.lengths.proofs.read_digits.Given as goal

abbrev pub invariant-loop-i : goal.invariant-loop-i
invariant-loop-i l = Got l.text l.from (length l.text) l.n l.m l.i
