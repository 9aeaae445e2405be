-- The laws of a buffer that is filled with values. Assumes nothing.
--
--   values_length, rows-length                 how many values there are
--   values-more, values-done                   values, one by one
--   are-first, are-more, value-most            they are values, and none is too large
--   are-row, row-values, row-at-end            rows that stand have a row at their front, its values, and LF behind them
--   filled-length, filled-are, filled_more     a row more is filled
--   fill_done                                  none is left
--   next_from, row_room                        where the next row begins, and room for one row less
--   front-filled                               the buffer at the end
use Rattle.std.specs.Prelude.{ℕ, zero, suc, ◌+◌, ◌-◌, ◌*◌, ◌≤◌, ◌<◌, ◌≡◌, refl, true, ◌&&◌, List, [], ◌∷◌, ◌++◌, leb, length, set, take, drop}
use Rattle.std.proofs.Common.{zero-add, add-one, arith, ap, ◌∙◌, length-append, leb-true}
use Rattle.std.proofs.lemmas.List.Edits.{sets, sets-eq}
use Rattle.std.proofs.Math.Seq.{length-sets}
use Rattle.trees.specs.Length.{is_digit}
use Rattle.trees.specs.Nexus.{behind_run, begins}
use Rattle.trees.specs.Phylip.{is_name, largest_value}
use Rattle.theorems.specs.ListLaws.{and_left, and_right}
use Rattle.phylip.specs.declared.values.Reached.{Reached}
use Rattle.phylip.specs.Walk.{rest, is_byte, value, next, is_value, values, nexts, are_values, ends_row, is_row, next_row, rows_read, are_rows}
use Rattle.phylip.specs.Places.{ValueAt}
use Rattle.phylip.specs.PlaceRowLaws.{less_one, rest_more, rest-next}
use Rattle.phylip.specs.Filling.{values_filled, rows_filled, RowFilled}

-- ---- values

pub values_length : (n : ℕ) (s : List ℕ) → length (values n s) ≡ n
unfolding values
values_length zero s = refl
values_length (suc n) s = ap suc (values_length n (next s))

values-filled-length : (out : List ℕ) (k n : ℕ) (s : List ℕ) → length (values_filled out k n s) ≡ length out
unfolding values_filled
values-filled-length out k n s = length-sets out k (values n s)

pub values-more : (f out : List ℕ) (at k n : ℕ) (r : Reached) → 0 < n → ValueAt f at r
    → values_filled out k n (rest f at) ≡ values_filled (set out k r.value) (k + 1) (n - 1) (rest f r.at)
unfolding values_filled values
values-more f out at k zero r l h = absurd (omega arith)
values-more f out at k (suc n) r l h = rw (h.is, h.behind, less_one n, add-one k)

pub values-done : (out : List ℕ) (k n : ℕ) (s : List ℕ) → n ≡ 0 → values_filled out k n s ≡ out
unfolding values_filled values
values-done out k n s e = rw e

pub are-first : (n : ℕ) (s : List ℕ) → 0 < n → are_values n s ≡ true → is_value s ≡ true
unfolding are_values
are-first zero s l e = absurd (omega arith)
are-first (suc n) s l e = and_left (is_value s) (are_values n (next s)) e

pub are-more : (n : ℕ) (s : List ℕ) → 0 < n → are_values n s ≡ true → are_values (n - 1) (next s) ≡ true
unfolding are_values
are-more zero s l e = absurd (omega arith)
are-more (suc n) s l e = rw (less_one n) (and_right (is_value s) (are_values n (next s)) e)

pub value-most : (s : List ℕ) → is_value s ≡ true → value s ≤ 65535
unfolding is_value
value-most s e =
    leb-true (value s) largest_value
    (and_right (begins is_digit (behind_run (is_byte 32) s)) (leb (value s) largest_value)
    (and_right (begins (is_byte 32) s) (begins is_digit (behind_run (is_byte 32) s) && leb (value s) largest_value) e))

-- ---- rows

pub rows-length : (k t : ℕ) (s : List ℕ) → length (rows_read k t s) ≡ k * t
unfolding rows_read
rows-length zero t s = omega arith
rows-length (suc k) t s =
    let a = length-append (values t (drop 10 s)) (rows_read k t (next_row t s)) in
    let b = values_length t (drop 10 s) in
    let c = rows-length k t (next_row t s) in
    omega arith

sets-append : (vs ws l : List ℕ) (i : ℕ) → sets l i (vs ++ ws) ≡ sets (sets l i vs) (i + length vs) ws
sets-append [] ws l i = let e : i + 0 ≡ i = omega arith in rw e
sets-append (v ∷ vs) ws l i = let e : i + suc (length vs) ≡ suc i + length vs = omega arith in rw e (sets-append vs ws (set l i v) (suc i))

fill_more : (out : List ℕ) (k m t : ℕ) (s : List ℕ) → 0 < m
    → rows_filled out k m t s ≡ rows_filled (values_filled out k t (drop 10 s)) (k + t) (m - 1) t (next_row t s)
unfolding rows_filled values_filled rows_read
fill_more out k zero t s l = absurd (omega arith)
fill_more out k (suc m) t s l =
    rw (less_one m)
    (rw (values_length t (drop 10 s)) at (sets-append (values t (drop 10 s)) (rows_read m t (next_row t s)) out k))

pub fill_done : (out : List ℕ) (k m t : ℕ) (s : List ℕ) → m ≡ 0 → rows_filled out k m t s ≡ out
unfolding rows_filled rows_read
fill_done out k m t s e = rw e

-- what rows that stand have at their front
pub are-row : (k t : ℕ) (s : List ℕ) → 0 < k → are_rows k t s ≡ true → is_row t s ≡ true
unfolding are_rows
are-row zero t s l e = absurd (omega arith)
are-row (suc k) t s l e = and_left (is_row t s) (are_rows k t (next_row t s)) e

are-rows-more : (k t : ℕ) (s : List ℕ) → 0 < k → are_rows k t s ≡ true → are_rows (k - 1) t (next_row t s) ≡ true
unfolding are_rows
are-rows-more zero t s l e = absurd (omega arith)
are-rows-more (suc k) t s l e = rw (less_one k) (and_right (is_row t s) (are_rows k t (next_row t s)) e)

module _ (f : List ℕ) (p t : ℕ) (h : is_row t (rest f p) ≡ true) where
  row-ended : ends_row t (drop 10 (rest f p)) ≡ true
  unfolding is_row
  row-ended = and_right (is_name (take 10 (rest f p))) (ends_row t (drop 10 (rest f p))) h

  pub row-values : are_values t (rest f (p + 10)) ≡ true
  unfolding ends_row
  row-values = rw (rest_more f p 10) (and_left (are_values t (drop 10 (rest f p))) (begins (is_byte 10) (nexts t (drop 10 (rest f p)))) row-ended)

  module _ (r : ℕ) (e : rest f r ≡ nexts t (rest f (p + 10))) where
    pub row-at-end : begins (is_byte 10) (rest f r) ≡ true
    unfolding ends_row
    row-at-end = rw (e, rest_more f p 10) (and_right (are_values t (drop 10 (rest f p))) (begins (is_byte 10) (nexts t (drop 10 (rest f p)))) row-ended)

    row-behind : rest f (r + 1) ≡ next_row t (rest f p)
    unfolding next_row
    row-behind = rest-next (is_byte 10) f r row-at-end ∙ rw (e, rest_more f p 10)

module _ (f out new : List ℕ) (k m t p r : ℕ) (l : 0 < m) (e : are_rows m t (rest f p) ≡ true) (h : RowFilled f (p + 10) t k r out new) where
  behind-row : rest f (r + 1) ≡ next_row t (rest f p)
  behind-row = row-behind f p t (are-row m t (rest f p) l e) r h.behind

  pub filled-length : length new ≡ length out
  filled-length = ap length h.filled ∙ values-filled-length out k t (rest f (p + 10))

  pub filled-are : are_rows (m - 1) t (rest f (r + 1)) ≡ true
  filled-are = rw behind-row (are-rows-more m t (rest f p) l e)

  pub filled_more : rows_filled out k m t (rest f p) ≡ rows_filled new (k + t) (m - 1) t (rest f (r + 1))
  filled_more = fill_more out k m t (rest f p) l ∙ rw (h.filled, rest_more f p 10, behind-row)

-- where the values of the next row begin
pub next_from : (t r : ℕ) → t * (r + 1) ≡ t * r + t
next_from t r = rw add-one (omega arith)

-- room for one row less
pub row_room : (k m t n : ℕ) → 0 < m → k + m * t ≤ n → (k + t ≤ n) × (k + t + (m - 1) * t ≤ n)
row_room k zero t n l h = absurd (omega arith)
row_room k (suc m) t n l h = rw (less_one m) (omega arith, omega arith)

-- ---- the buffer

pub front-filled : (out : List ℕ) (t : ℕ) (s : List ℕ) → t * t ≤ length out → rows_filled out 0 t t s ≡ rows_read t t s ++ drop (length (rows_read t t s)) out
unfolding rows_filled
front-filled out t s h =
    let l = rows-length t t s in
    rw zero-add at (sets-eq (rows_read t t s) out 0 (omega arith))
