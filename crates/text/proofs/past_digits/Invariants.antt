-- `text::past_digits` meets its contract. Assumes nothing.
use Rattle.text.proofs.NumberLaws.{Digits}
use Rattle.text.proofs.past_digits.Given as goal

abbrev pub invariant-loop-d : goal.invariant-loop-d
invariant-loop-d l = Digits l.text l.from l.d
