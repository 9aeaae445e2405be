-- Lists of rows without the splits that every tree has, and the table that they stand in.
--
--   Different l          the members of l are all different
--   Rows l               l can be the rows that a tree lists: few, each a split's, all different
--   is_missing s k        some tree does not list the split in row k: its count is not the number of trees
--   short_list s i        the rows of tree i that some tree does not list
--   rows_in short sizes i     the rows of tree i in a table that has 64 places for each tree, and in `sizes` how many it uses
--   Shortened s n short sizes     the short lists of the first n trees stand in the table
use Rattle.std.specs.Prelude.{◌≡◌, ℕ, ◌*◌, ◌<◌, ◌≤◌, Bool, not, List, [], ◌∷◌, length, take, drop, ◌==◌, slice_index}
use Rattle.trees.specs.Plain.{keep}
use Rattle.trees.specs.Opening.{most_room}
use Rattle.theorems.specs.ListLaws.{Mem}
use Rattle.layout.specs.Store.{trees_held_at, count_at, list_at, most_splits}

abbrev pub Different : List ℕ → Type 0
Different [] = Unit {0}
Different (x ∷ l) = (Mem x l → ⊥) × Different l

pub record Rows (l : List ℕ) : Type 0 where
  pub few : length l ≤ most_splits
  pub below : (k : ℕ) → Mem k l → k < most_room
  pub different : Different l

-- on a whole store a count is the number of trees that list the split
unfoldable pub is_missing : List ℕ → ℕ → Bool
is_missing s k = not (count_at s k == trees_held_at s)

unfoldable pub short_list : List ℕ → ℕ → List ℕ
unfolding keep is_missing
short_list s i = keep (is_missing s) (list_at s i)

unfoldable pub rows_in : List ℕ → List ℕ → ℕ → List ℕ
rows_in short sizes i = take (slice_index sizes i) (drop (64 * i) short)

pub record Shortened (s : List ℕ) (n : ℕ) (short sizes : List ℕ) : Type 0 where
  pub room : length short ≡ 65536
  pub trees : length sizes ≡ 1024
  pub sized : (i : ℕ) → i < n → slice_index sizes i ≡ length (short_list s i)
  pub listed : (i : ℕ) → i < n → rows_in short sizes i ≡ short_list s i
