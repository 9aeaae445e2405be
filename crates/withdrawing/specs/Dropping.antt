-- What the steps of taking rows out of a table ask and promise.
--
--   LeftIn p n m rows entries     the first m of the rows are those below n that stay, and the first n + 1 entries what each entry becomes
--   Becoming p es                 the entries es say what each entry of the parts p becomes
--   ListsNamed k es s t           the bytes t are s with the rows in the lists of the first k trees named anew
--   NamedAnew n es s t            so they are in all lists, and in the links of n rows and the chains' starts
--   counts_at s r                  the row r of the bytes s counts for a tree
--   Ordered s n es                the bytes s have an order of n rows, their counts before it, and the entries es name each row that counts
--   rows_kept n s                  those of its first n rows that count
--   OrderClosed n es s t          the bytes t are s with these in front of the order, named anew
--   RowsNamed s t                 the bytes t are s with every row named anew as the parts without rows name it, in lists, links, order and starts
--   Columned s rs                 the columns of the bytes s have the rows rs, none of them before its new place
--   ColumnsClosed rs s t          the bytes t are s with what stands in these rows in front of the columns of masks, identifiers, counts and links
use Rattle.std.specs.Prelude.{ℕ, suc, ◌+◌, ◌*◌, ◌≤◌, ◌<◌, ◌≡◌, ◌⊎◌, Bool, true, List, map, ltb, length, get_or, take}
use Rattle.trees.specs.Plain.{keep}
use Rattle.trees.specs.Opening.{head_bytes}
use Rattle.fields.specs.Field.{number}
use Rattle.head.specs.Head.{numbers_at}
use Rattle.layout.specs.Columns.{column_at}
use Rattle.layout.specs.Store.{tree_from, masks_from, identifiers_from, counts_from, links_from, order_from, places_from, branches_from, Parts, list_from, parts_at, splits_in, trees_held_at, splits_held_at, link_at, list_at}
use Rattle.layout.specs.KeptLaws.{Kept}
use Rattle.withdrawing.specs.Left.{stays, rows_left, new_row, entries_left, new_entry}
use Rattle.withdrawing.specs.Moved.{renamed}

-- ---- the rows that stay

pub record LeftIn (p : Parts) (n m : ℕ) (rows entries : List ℕ) : Type 0 where
  pub count : m ≡ new_row p n
  pub rows-left : take m rows ≡ rows_left p n
  pub entries-left : take (suc n) entries ≡ entries_left p n

abbrev pub Becoming : Parts → List ℕ → Type 0
Becoming p es = (e : ℕ) → e ≤ splits_in p → (e < length es) × (get_or es e 0 ≡ new_entry p e)

-- ---- names

pub record ListsNamed (k : ℕ) (es s t : List ℕ) : Type 0 where
  pub lists : (i : ℕ) → i < k → list_from t (tree_from (numbers_at s) i) ≡ map (renamed es 1) (list_from s (tree_from (numbers_at s) i))
  pub entries : (i : ℕ) → i < k → number 2 t (tree_from (numbers_at s) i) ≡ number 2 s (tree_from (numbers_at s) i)
  pub outside : (i : ℕ) → (i < tree_from (numbers_at s) 0) ⊎ (tree_from (numbers_at s) k ≤ i) → get_or t i 0 ≡ get_or s i 0
  pub size : length t ≡ length s

pub record NamedAnew (n : ℕ) (es s t : List ℕ) : Type 0 where
  pub lists : (i : ℕ) → i < trees_held_at s → list_from t (tree_from (numbers_at s) i) ≡ map (renamed es 1) (list_from s (tree_from (numbers_at s) i))
  pub entries : (i : ℕ) → i < trees_held_at s → number 2 t (tree_from (numbers_at s) i) ≡ number 2 s (tree_from (numbers_at s) i)
  pub links : column_at 2 (links_from (numbers_at s)) n t ≡ map (renamed es 0) (column_at 2 (links_from (numbers_at s)) n s)
  pub starts : column_at 2 (places_from (numbers_at s)) (numbers_at s).places t ≡ map (renamed es 0) (column_at 2 (places_from (numbers_at s)) (numbers_at s).places s)
  pub front : Kept s t 0 (tree_from (numbers_at s) 0)
  pub fields : Kept s t (masks_from (numbers_at s)) (links_from (numbers_at s))
  pub order : Kept s t (order_from (numbers_at s)) (places_from (numbers_at s))
  pub behind : (i : ℕ) → branches_from (numbers_at s) ≤ i → get_or t i 0 ≡ get_or s i 0
  pub size : length t ≡ length s

-- ---- the order

unfoldable pub counts_at : List ℕ → ℕ → Bool
counts_at s r = ltb 0 (number 4 s (counts_from (numbers_at s) + 4 * r))

pub record Ordered (s : List ℕ) (n : ℕ) (es : List ℕ) : Type 0 where
  pub head : head_bytes ≤ length s
  pub inside : order_from (numbers_at s) + 2 * n ≤ length s
  pub rows : (k : ℕ) → k < n → number 2 s (order_from (numbers_at s) + 2 * k) < n
  pub counts : counts_from (numbers_at s) + 4 * n ≤ order_from (numbers_at s)
  pub long : n < length es
  pub named : (r : ℕ) → r < n → counts_at s r ≡ true → 1 ≤ get_or es (r + 1) 0

unfoldable pub rows_kept : ℕ → List ℕ → List ℕ
unfolding keep counts_at
rows_kept n s = keep (counts_at s) (column_at 2 (order_from (numbers_at s)) n s)

pub record OrderClosed (n : ℕ) (es s t : List ℕ) : Type 0 where
  pub column : column_at 2 (order_from (numbers_at s)) (length (rows_kept n s)) t ≡ map (renamed es 1) (rows_kept n s)
  pub outside : (i : ℕ) → (i < order_from (numbers_at s)) ⊎ (order_from (numbers_at s) + 2 * length (rows_kept n s) ≤ i) → get_or t i 0 ≡ get_or s i 0
  pub size : length t ≡ length s

-- both steps: only the columns are not closed yet
pub record RowsNamed (s t : List ℕ) : Type 0 where
  pub lists : (i : ℕ) → i < trees_held_at s → list_from t (tree_from (numbers_at s) i) ≡ map (new_row (parts_at s)) (list_at s i)
  pub entries : (i : ℕ) → i < trees_held_at s → number 2 t (tree_from (numbers_at s) i) ≡ number 2 s (tree_from (numbers_at s) i)
  pub links : (r : ℕ) → r < splits_held_at s → number 2 t (links_from (numbers_at s) + 2 * r) ≡ new_entry (parts_at s) (link_at s r)
  pub order : column_at 2 (order_from (numbers_at s)) (new_row (parts_at s) (splits_held_at s)) t ≡ map (new_row (parts_at s)) (keep (stays (parts_at s)) (parts_at s).order)
  pub starts : column_at 2 (places_from (numbers_at s)) (numbers_at s).places t ≡ map (new_entry (parts_at s)) (parts_at s).starts
  pub front : Kept s t 0 (tree_from (numbers_at s) 0)
  pub fields : Kept s t (masks_from (numbers_at s)) (links_from (numbers_at s))
  pub behind : (i : ℕ) → branches_from (numbers_at s) ≤ i → get_or t i 0 ≡ get_or s i 0
  pub size : length t ≡ length s

-- ---- the columns

pub record Columned (s rs : List ℕ) : Type 0 where
  pub head : head_bytes ≤ length s
  pub reached : order_from (numbers_at s) ≤ length s
  pub few : length rs ≤ (numbers_at s).split_room
  pub rows : (j : ℕ) → j < length rs → (j ≤ get_or rs j 0) × (get_or rs j 0 < (numbers_at s).split_room)

pub record ColumnsClosed (rs s t : List ℕ) : Type 0 where
  pub masks : column_at 8 (masks_from (numbers_at s)) (length rs) t ≡ map (λ r. number 8 s (masks_from (numbers_at s) + 8 * r)) rs
  pub identifiers : column_at 8 (identifiers_from (numbers_at s)) (length rs) t ≡ map (λ r. number 8 s (identifiers_from (numbers_at s) + 8 * r)) rs
  pub counts : column_at 4 (counts_from (numbers_at s)) (length rs) t ≡ map (λ r. number 4 s (counts_from (numbers_at s) + 4 * r)) rs
  pub links : column_at 2 (links_from (numbers_at s)) (length rs) t ≡ map (λ r. number 2 s (links_from (numbers_at s) + 2 * r)) rs
  pub outside : (i : ℕ) → (i < masks_from (numbers_at s)) ⊎ (order_from (numbers_at s) ≤ i) → get_or t i 0 ≡ get_or s i 0
  pub size : length t ≡ length s
