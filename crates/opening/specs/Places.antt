-- Names in their places, as they lie in a head.
--
--   first_names n s         the names in the first n places of s
--   Lies s i w             the name w lies in place i of s
--   Placed s i w r t       t is s, where w was read into place i; r: it is short enough for a name
--   Reached list at i t    in t the names of the list that stand before its place at lie in the first i places
use Rattle.std.specs.Prelude.{ℕ, ◌+◌, ◌*◌, ◌≤◌, ◌<◌, ◌≡◌, ◌⊎◌, Bool, true, false, List, ◌++◌, length, get_or}
use Rattle.trees.specs.Names.{most_name, names_in}
use Rattle.head.specs.Head.{up_to, name_at}
use Rattle.opening.specs.Walk.{names_from}

abbrev pub first_names : ℕ → List ℕ → List (List ℕ)
first_names n s = up_to (name_at s) n

pub record Lies (s : List ℕ) (i : ℕ) (w : List ℕ) : Type 0 where
  pub size : get_or s (16 + 33 * i) 0 ≡ length w
  pub bytes : (j : ℕ) → j < length w → get_or s (17 + 33 * i + j) 0 ≡ get_or w j 0

pub record Placed (s : List ℕ) (i : ℕ) (w : List ℕ) (r : Bool) (t : List ℕ) : Type 0 where
  pub kept : (j : ℕ) → (j < 16 + 33 * i) ⊎ (49 + 33 * i ≤ j) → get_or t j 0 ≡ get_or s j 0
  pub short : r ≡ true → (length w ≤ most_name) × Lies t i w
  pub long : r ≡ false → most_name < length w

pub record Reached (list : List ℕ) (at i : ℕ) (t : List ℕ) : Type 0 where
  pub room : (j : ℕ) → j < i → get_or t (16 + 33 * j) 0 ≤ most_name
  pub names : first_names i t ++ names_from list at ≡ names_in list
