-- `words::decimal` meets its contract. The loop's invariant: what is left of the word, behind the number v, gives the whole. Assumes nothing.
use Rattle.std.proofs.Common.{◌≡◌, drop}
use Rattle.words.specs.Words.{decimal_from, decimal_of}
use Rattle.words.proofs.decimal.Given as goal

abbrev pub invariant-loop-b : goal.invariant-loop-b
invariant-loop-b l = decimal_of l.word ≡ decimal_from l.v (drop l.b-index l.word)
