-- The lengths of one split, gone over tree by tree.
--
--   branch_found b         a split in a tree, as the code has it: none where the tree lacks it, else its length
--   in_tree m t xs         the same, of the split m in a tree with the splits t and the lengths xs
--   go_on met z xs         what is answered where the lengths xs are left; z has the three of those that were met
--   lengths_left s row i   the lengths of the split in a row, in the trees from i on that have it
--   row_lengths s row      what is answered of the split in a row
use Rattle.std.specs.Prelude.{ℕ, Bool, true, List, [], ◌∷◌, drop, if◌then◌else◌, None, Some, Option as CodeOption, Float}
use Rattle.std.proofs.Math.Option.{Option, none, some}
use Rattle.trees.specs.Plain.{member, Answer, refused, gives}
use Rattle.trees.specs.Value.{Length}
use Rattle.trees.specs.Sums.{Sums, sums}
use Rattle.trees.specs.Questions.{if_given, length_for, lengths_for}
use Rattle.doubles.specs.Stored.{branch_given}
use Rattle.weighing.specs.Summed.{with_length}
use Rattle.layout.specs.Store.{mask_at, held_at}

unfoldable pub branch_found : CodeOption (CodeOption Float) → Option Length
unfolding branch_given
branch_found None = none
branch_found (Some x) = some (branch_given x)

unfoldable pub in_tree : ℕ → List ℕ → List Length → Option Length
unfolding member length_for
in_tree m t xs = if member m t then some (length_for m t xs) else none

-- the first length that is met is the shortest and the longest so far; 18: "a length needed is absent"
unfoldable pub go_on : Bool → Sums → List Length → Answer Sums
unfolding with_length sums
go_on met z [] = gives z
go_on met z (none ∷ xs) = refused 18
go_on met z (some x ∷ xs) = go_on true (if met then with_length z x else sums (x ∷ [])) xs

abbrev pub lengths_left : List ℕ → ℕ → ℕ → List Length
lengths_left s row i = lengths_for (mask_at s row) (drop i (held_at s).trees) (drop i (held_at s).lengths)

abbrev pub row_lengths : List ℕ → ℕ → Answer Sums
row_lengths s row = if_given (lengths_for (mask_at s row) (held_at s).trees (held_at s).lengths) sums
