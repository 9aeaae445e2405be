-- A matrix by the places of its rows.
--
--   cell f at i j            the value j of the row that stands at place i of `at`
--   symmetric_at f t at       the t rows at these places are symmetric, and their diagonal zero
--   Agrees f t i at          row i, which stands before its own value i, has zero there, and behind it the values at the places of the rows behind it
--   Moved f k t old at       the places from k to t stand behind one value more than they did
--   AgreesAs f t i old r at  that is answered as r, and the places are moved
--   Agreed f i j p old at    the rows up to j agree with row i, which has been read up to p, and are moved
--   Settled f t i old at     the first i rows are settled, and the others stand behind i values
use Rattle.std.specs.Prelude.{ℕ, ◌+◌, ◌-◌, ◌≤◌, ◌<◌, ◌≡◌, Bool, true, false, ◌&&◌, List, eqb, length, get_or}
use Rattle.trees.specs.Plain.{every}
use Rattle.trees.specs.Phylip.{below}
use Rattle.phylip.specs.Walk.{rest, value, next, nexts}

unfoldable pub cell : List ℕ → List ℕ → ℕ → ℕ → ℕ
cell f at i j = value (nexts j (rest f (get_or at i 0)))

unfoldable pub symmetric_at : List ℕ → ℕ → List ℕ → Bool
symmetric_at f t at = every (λ i. eqb (cell f at i i) 0 && every (λ j. eqb (cell f at i j) (cell f at j i)) (below t)) (below t)

-- ---- one row

pub record Agrees (f : List ℕ) (t i : ℕ) (at : List ℕ) : Type 0 where
  pub zero : cell f at i 0 ≡ 0
  pub same : (j : ℕ) → i < j → j < t → cell f at i (j - i) ≡ cell f at j 0

unfoldable pub Moved : List ℕ → ℕ → ℕ → List ℕ → List ℕ → Type 0
Moved f k t old at = (j : ℕ) → k ≤ j → j < t → rest f (get_or at j 0) ≡ next (rest f (get_or old j 0))

pub record AgreesAs (f : List ℕ) (t i : ℕ) (old : List ℕ) (r : Bool) (at : List ℕ) : Type 0 where
  pub size : length at ≡ length old
  pub yes : r ≡ true → Agrees f t i old × Moved f (i + 1) t old at
  pub no : r ≡ false → Agrees f t i old → ⊥

pub record Agreed (f : List ℕ) (i j p : ℕ) (old at : List ℕ) : Type 0 where
  pub size : length at ≡ length old
  pub behind : rest f p ≡ nexts (j - i) (rest f (get_or old i 0))
  pub same : (k : ℕ) → i < k → k < j → cell f old i (k - i) ≡ cell f old k 0
  pub moved : Moved f (i + 1) j old at
  pub kept : (k : ℕ) → j ≤ k → get_or at k 0 ≡ get_or old k 0

-- ---- all rows

pub record Settled (f : List ℕ) (t i : ℕ) (old at : List ℕ) : Type 0 where
  pub size : length at ≡ length old
  pub behind : (j : ℕ) → i ≤ j → j < t → rest f (get_or at j 0) ≡ nexts i (rest f (get_or old j 0))
  pub zero : (k : ℕ) → k < i → cell f old k k ≡ 0
  pub same : (k : ℕ) → k < i → (j : ℕ) → k < j → j < t → cell f old k j ≡ cell f old j k
