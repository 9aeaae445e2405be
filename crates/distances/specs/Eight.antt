-- Marks of up to eight lists at once: a word for each row, which has a byte for each list, 1 where the list has the row, 0 where it lacks it.
--
--   has l k               1 where the list l has the row k, else 0
--   shared l r            how many of the rows r the list l has
--   word_of ls k           the word of row k, the byte of the first list lowest
--   shared_word ls r       a word that has so in its bytes how many of the rows r each list has
--   byte_one b             1 in byte b
--   byte_at w b            byte b of w
--   added v l m           the words m with v added to that of each row of l
--   SmallWords m          there is a word for each row, and each of its bytes is at most 1
--   Table n short sizes   the lists of the first n trees stand in the table
--   lists_in short sizes i n     the lists of n trees from tree i on
--   Words short sizes i n m     m are their words
--   Fits sizes i n j w          the bytes of w can be how many splits these trees share with tree j
--   Column sizes i n j w m m'   their distances from tree j, put into column j of rows of 1,024 places
--   Columns short sizes i n j m     the columns below j are put
--   Few n r               r is n, or 8 if that is less
--   Block s i m           the rows of tree i and of those that are counted with it by eights
use Rattle.std.specs.Prelude.{◌≡◌, ℕ, zero, suc, ◌+◌, ◌-◌, ◌*◌, ◌/◌, ◌%◌, ◌^◌, ◌<◌, ◌≤◌, List, [], ◌∷◌, length, ◌≢◌, slice_index, slice_index_or, slice_set, if◌then◌else◌}
use Rattle.trees.specs.Plain.{member}
use Rattle.trees.specs.Opening.{most_room}
use Rattle.trees.specs.Distance.{doubled}
use Rattle.layout.specs.Store.{trees_held_at, tree_at}
use Rattle.distances.specs.Short.{Rows, rows_in}

unfoldable pub has : List ℕ → ℕ → ℕ
unfolding member
has l k = if member k l then 1 else 0

unfoldable pub shared : List ℕ → List ℕ → ℕ
unfolding has
shared l [] = 0
shared l (k ∷ r) = has l k + shared l r

unfoldable pub word_of : List (List ℕ) → ℕ → ℕ
unfolding has
word_of [] k = 0
word_of (l ∷ ls) k = has l k + 256 * word_of ls k

unfoldable pub shared_word : List (List ℕ) → List ℕ → ℕ
unfolding shared
shared_word [] r = 0
shared_word (l ∷ ls) r = shared l r + 256 * shared_word ls r

unfoldable pub byte_one : ℕ → ℕ
byte_one zero = 1
byte_one (suc b) = 256 * byte_one b

unfoldable pub byte_at : ℕ → ℕ → ℕ
byte_at w zero = w % 256
byte_at w (suc b) = byte_at (w / 256) b

unfoldable pub added : ℕ → List ℕ → List ℕ → List ℕ
added v [] m = m
added v (k ∷ l) m = added v l (slice_set m k ((slice_index m k + v) % 2 ^ 64))

pub record SmallWords (m : List ℕ) : Type 0 where
  pub room : length m ≡ most_room
  pub small : (k : ℕ) → k < most_room → slice_index m k ≤ 72340172838076673

pub record Table (n : ℕ) (short sizes : List ℕ) : Type 0 where
  pub room : length short ≡ 65536
  pub trees : length sizes ≡ 1024
  pub few : n ≤ 1024
  pub rows : (j : ℕ) → j < n → Rows (rows_in short sizes j)
  pub sized : (j : ℕ) → j < n → slice_index sizes j ≡ length (rows_in short sizes j)

unfoldable pub lists_in : List ℕ → List ℕ → ℕ → ℕ → List (List ℕ)
unfolding rows_in
lists_in short sizes i zero = []
lists_in short sizes i (suc n) = rows_in short sizes i ∷ lists_in short sizes (suc i) n

pub record Words (short sizes : List ℕ) (i n : ℕ) (m : List ℕ) : Type 0 where
  pub room : length m ≡ most_room
  pub words : (k : ℕ) → k < most_room → slice_index m k ≡ word_of (lists_in short sizes i n) k

pub record Fits (sizes : List ℕ) (i n j w : ℕ) : Type 0 where
  pub trees : length sizes ≡ 1024
  pub few : n ≤ 8
  pub there : (i + n ≤ 1024) × (j < 1024)
  pub own-small : slice_index_or sizes j 0 ≤ 64
  pub small : (b : ℕ) → b < n → slice_index sizes (i + b) ≤ 64
  pub enough : (b : ℕ) → b < n → 2 * byte_at w b ≤ slice_index sizes (i + b) + slice_index sizes j

pub record Column (sizes : List ℕ) (i n j w : ℕ) (old new : List ℕ) : Type 0 where
  pub room : length new ≡ length old
  pub here : (b : ℕ) → b < n → slice_index new (1024 * b + j) ≡ slice_index sizes (i + b) + slice_index sizes j - 2 * byte_at w b
  pub there : (b a : ℕ) → a < 1024 → (a ≢ j) → slice_index new (1024 * b + a) ≡ slice_index old (1024 * b + a)

pub record Columns (short sizes : List ℕ) (i n j : ℕ) (m : List ℕ) : Type 0 where
  pub room : length m ≡ 8192
  pub put : (b a : ℕ) → b < n → a < j → slice_index m (1024 * b + a) ≡ doubled (rows_in short sizes (i + b)) (rows_in short sizes a)

pub record Few (n r : ℕ) : Type 0 where
  pub most : (r ≤ 8) × (r ≤ n)
  pub all : (k : ℕ) → k < 8 → k < n → k < r

pub record Block (s : List ℕ) (i : ℕ) (m : List ℕ) : Type 0 where
  pub room : length m ≡ 8192
  pub rows : (a j : ℕ) → a / 8 ≡ i / 8 → a < trees_held_at s → j < trees_held_at s → slice_index m (1024 * (a % 8) + j) ≡ doubled (tree_at s a) (tree_at s j)
