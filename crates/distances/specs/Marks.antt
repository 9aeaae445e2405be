-- Marks: a number for each row of a split, which says whether a list lacks that row.
--
--   marked v l m      the marks m with v put at each row of l
--   no_marks           4,096 marks that are all 1: no row is there
--   marks_of l         4,096 marks: 0 at each row of l, 1 elsewhere
--   mark_sum m l       the sum of the marks of the rows of l
use Rattle.std.specs.Prelude.{ℕ, ◌+◌, List, [], ◌∷◌, replicate, slice_index, slice_set}
use Rattle.trees.specs.Opening.{most_room}

unfoldable pub marked : ℕ → List ℕ → List ℕ → List ℕ
marked v [] m = m
marked v (k ∷ l) m = marked v l (slice_set m k v)

unfoldable pub no_marks : List ℕ
no_marks = replicate most_room 1

unfoldable pub marks_of : List ℕ → List ℕ
unfolding marked no_marks
marks_of l = marked 0 l no_marks

unfoldable pub mark_sum : List ℕ → List ℕ → ℕ
mark_sum m [] = 0
mark_sum m (k ∷ l) = slice_index m k + mark_sum m l
