-- What reading a matrix promises: its answer, and what it leaves in the lent memory.
--
--   trees_given x         how many trees a matrix that is read has
--   values_given x        its values, row by row
--   ReadAs x r old m     the answer x is given as r, and leaves the buffer `old` as m
use Rattle.std.specs.Prelude.{ℕ, ◌≡◌, List, Result}
use Rattle.trees.specs.Plain.{Answer, refused, gives}
use Rattle.trees.specs.Phylip.{Square}
use Rattle.answers.specs.Answers.{number_given}
use Rattle.answers.specs.Filled.{front}
use Rattle.answers.specs.declared.Refusal.{Refusal}

unfoldable pub trees_given : Answer Square → Answer ℕ
trees_given (refused k) = refused k
trees_given (gives q) = gives q.trees

unfoldable pub values_given : Answer Square → Answer (List ℕ)
values_given (refused k) = refused k
values_given (gives q) = gives q.values

abbrev pub ReadAs : Answer Square → Result ℕ Refusal → List ℕ → List ℕ → Type 0
ReadAs x r old m = (number_given r ≡ trees_given x) × (m ≡ front (values_given x) old)
