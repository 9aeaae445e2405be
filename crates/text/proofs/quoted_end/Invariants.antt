-- `text::quoted_end` meets its contract. Assumes nothing.
use Prim.Native.Nat.{◌-◌}
use lib.ListN.{length}
use Rattle.text.proofs.QuotedLaws.{Quoted}
use Rattle.text.proofs.quoted_end.Given as goal

abbrev pub invariant-loop-q : goal.invariant-loop-q
invariant-loop-q l = Quoted l.text l.from l.end l.q

abbrev pub decreases-loop-q : goal.decreases-loop-q
decreases-loop-q l = length l.text - l.end
