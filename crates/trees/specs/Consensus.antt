-- The splits of many trees, and those of the consensus trees.
--
--   recorded ts       every split of the trees ts, in rising order, once: a split's number is its place here, from 0
--   count ts m        how many of the trees have the split m
--   strict ts         the splits that all trees have
--   majority ts       the splits that more than half of the trees have
use Rattle.std.specs.Prelude.{ℕ, ◌*◌, Bool, List, [], ◌∷◌, ltb, eqb, length}
use Rattle.trees.specs.Plain.{keep, member}
use Rattle.trees.specs.Splits.{insert}

-- the rising list l with every mask of a
unfoldable pub insert_all : List ℕ → List ℕ → List ℕ
unfolding insert
insert_all [] l = l
insert_all (m ∷ a) l = insert m (insert_all a l)

-- "A recorded split's number is its place, from 0, in the list by rising mask"
unfoldable pub recorded : List (List ℕ) → List ℕ
unfolding insert_all
recorded [] = []
recorded (t ∷ ts) = insert_all t (recorded ts)

-- "its count": the number of trees that have it
unfoldable pub count : List (List ℕ) → ℕ → ℕ
unfolding keep member
count ts m = length (keep (member m) ts)

-- "strict if all t trees have it"
unfoldable pub is_strict : List (List ℕ) → ℕ → Bool
unfolding count
is_strict ts m = eqb (count ts m) (length ts)

-- "majority if twice its count is more than t"
unfoldable pub is_majority : List (List ℕ) → ℕ → Bool
unfolding count
is_majority ts m = ltb (length ts) (2 * count ts m)

unfoldable pub strict : List (List ℕ) → List ℕ
unfolding keep recorded is_strict
strict ts = keep (is_strict ts) (recorded ts)

unfoldable pub majority : List (List ℕ) → List ℕ
unfolding keep recorded is_majority
majority ts = keep (is_majority ts) (recorded ts)
