-- `putting::put_word` meets its contract. The loop's invariant: the first i bytes of the word are stored. Assumes nothing.
use mathlib.Core.Path.{◌≡◌}
use Rattle.fields.specs.Run.{copied}
use Rattle.putting.proofs.put_word.Given as goal

abbrev pub invariant-loop-i : goal.invariant-loop-i
invariant-loop-i l = l.out ≡ copied l.initial.out l.at l.word 0 l.i
