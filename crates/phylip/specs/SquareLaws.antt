-- The walk from left to right reads the matrix that a text is. Assumes nothing.
--
--   square-in       what is read of the whole text is what `square_in` says
use Prim.Native.Nat.{ℕ, zero, suc, ◌≤◌}
use Rattle.std.proofs.Common.{arith, sym, ap, ◌∙◌, true≢false}
use Rattle.std.specs.Prelude.{◌≡◌, Bool, ◌&&◌, not, eqb, take, drop, if◌then◌else◌}
use Rattle.std.proofs.Math.Path.{refl}
use Rattle.std.proofs.Math.Bool.{true, false}
use mathlib.Core.List.{List, [], ◌∷◌, ◌++◌}
use Rattle.std.proofs.Math.Option.{Option, none, some}
use Rattle.std.proofs.Math.Dec.{leb}
use Rattle.std.proofs.lemmas.Bool.{not-true}
use Rattle.trees.specs.Plain.{every, byte}
use Rattle.trees.specs.Length.{is_digit, is_digits}
use Rattle.trees.specs.Value.{number_from}
use Rattle.trees.specs.Decimal.{number_in}
use Rattle.trees.specs.Nexus.{behind_run, begins}
use Rattle.trees.specs.Phylip.{between, most_trees, is_empty, is_name, row_in, with_row, rows_in, square_of, square_lines, square_in}
use Rattle.theorems.specs.ListLaws.{and_left, and_right}
use Rattle.theorems.specs.RunOfLaws.{run-of, behind-of}
use Rattle.phylip.specs.Walk.{is_byte, capped, number, values, nexts, are_values, ends_row, is_row, next_row, rows_read, are_rows, is_first, behind_first, is_square, square_read}
use Rattle.phylip.specs.CutLaws.{is_other, Cut, whole, parted, cut, between-whole, between-cut, between-some, behind-up-to, others-behind, others-drop, starts_other}
use Rattle.phylip.specs.ValueLaws.{capped-most, capped_small}
use Rattle.phylip.specs.RowLaws.{others-nexts, and_last, end-here, empty-is, row-in, row_next}

-- ---- rows

with-no-rows : (x : Option (List ℕ)) → with_row x none ≡ none
unfolding with_row
with-no-rows none = refl
with-no-rows (some v) = refl

empty-not : (w r : List ℕ) (x : ℕ) → is_empty (w ++ x ∷ r) ≡ false
unfolding is_empty
empty-not [] r x = refl
empty-not (b ∷ w) r x = refl

module _ (t : ℕ) where
  rows_none : (k : ℕ) → rows_in k t [] ≡ none
  unfolding rows_in
  rows_none zero = refl
  rows_none (suc k) = refl

  -- nothing behind the last line
  last-in : (s : List ℕ) → Cut (byte "\n") s → rows_in zero t (between (byte "\n") s) ≡ (if is_empty s then some [] else none)
  unfolding rows_in
  last-in s (whole h) = rw (between-whole (byte "\n") s h)
  last-in s (parted w r h q) =
      let x = between-some (byte "\n") r in
      rw (q, between-cut (byte "\n") w r h, x.2, empty-not w r (byte "\n"))

  -- a text without LF is no row
  row-unended : (s : List ℕ) → every (is_other (byte "\n")) s ≡ true → is_row t s ≡ false
  unfolding is_row ends_row
  row-unended s h = and_last (is_name (take 10 s)) (are_values t (drop 10 s)) (starts_other (byte "\n") (nexts t (drop 10 s)) (others-nexts t (drop 10 s) (others-drop (byte "\n") 10 s h)))

  -- what is read of k lines
  rows_of : ℕ → List ℕ → Option (List ℕ)
  rows_of k s = if are_rows k t s then some (rows_read k t s) else none

  row-unread : (k : ℕ) (s : List ℕ) → every (is_other (byte "\n")) s ≡ true → rows_in (suc k) t (between (byte "\n") s) ≡ rows_of (suc k) s
  unfolding rows_in rows_of are_rows
  row-unread k s h = rw (between-whole (byte "\n") s h, rows_none k, row-unended s h) (with-no-rows (row_in t s))

module _ (n k : ℕ) (w r : List ℕ) (h : every (is_other (byte "\n")) w ≡ true) (f : rows_in k (suc n) (between (byte "\n") r) ≡ rows_of (suc n) k r) where
  row_read : rows_in (suc k) (suc n) (between (byte "\n") (w ++ byte "\n" ∷ r)) ≡ rows_of (suc n) (suc k) (w ++ byte "\n" ∷ r)
  unfolding rows_in rows_of are_rows rows_read with_row
  row_read = rw (between-cut (byte "\n") w r h, f, row-in n w r h) (go (is_row (suc n) (w ++ byte "\n" ∷ r)) refl)
    where
      chosen : (v vs : List ℕ) (t : Bool) → with_row (some v) (if t then some vs else none) ≡ (if t then some (v ++ vs) else none)
      chosen v vs true = refl
      chosen v vs false = refl

      s : List ℕ
      s = w ++ byte "\n" ∷ r

      go : (t : Bool) → is_row (suc n) s ≡ t
          → with_row (if t then some (values (suc n) (drop 10 s)) else none) (if are_rows k (suc n) r then some (rows_read k (suc n) r) else none)
          ≡ (if t && are_rows k (suc n) (next_row (suc n) s) then some (values (suc n) (drop 10 s) ++ rows_read k (suc n) (next_row (suc n) s)) else none)
      go true e = rw (row_next (suc n) r w h e) (chosen (values (suc n) (drop 10 s)) (rows_read k (suc n) r) (are_rows k (suc n) r))
      go false e = refl

rows_in_lem : (k t : ℕ) → k ≤ t → (s : List ℕ) → rows_in k t (between (byte "\n") s) ≡ (if are_rows k t s then some (rows_read k t s) else none)
unfolding are_rows rows_read rows_of
rows_in_lem zero t l s = last-in t s (cut (byte "\n") s)
rows_in_lem (suc k) zero l s = absurd (omega arith)
rows_in_lem (suc k) (suc n) l s = go (cut (byte "\n") s) (λ r. rows_in_lem k (suc n) (omega arith) r)
  where
    go : Cut (byte "\n") s → ((r : List ℕ) → rows_in k (suc n) (between (byte "\n") r) ≡ rows_of (suc n) k r)
        → rows_in (suc k) (suc n) (between (byte "\n") s) ≡ rows_of (suc n) (suc k) s
    go (whole h) f = row-unread (suc n) k s h
    go (parted w r h q) f = rw q (row_read n k w r h (f r))

-- ---- the first line

-- a line with a byte that is no digit
first-stuck : (u z : List ℕ) → every (is_other (byte "\n")) u ≡ true → every is_digit u ≡ false → begins (is_byte (byte "\n")) (behind_run is_digit (u ++ z)) ≡ false
unfolding every behind_run is_other begins is_byte
first-stuck [] z o d = absurd (true≢false d)
first-stuck (b ∷ u) z o d = go (is_digit b) d (λ k. first-stuck u z (and_right (not (eqb b (byte "\n"))) (every (is_other (byte "\n")) u) o) k)
  where
    go : (t : Bool) → (t && every is_digit u) ≡ false → (every is_digit u ≡ false → begins (is_byte (byte "\n")) (behind_run is_digit (u ++ z)) ≡ false)
        → begins (is_byte (byte "\n")) (if t then behind_run is_digit (u ++ z) else b ∷ (u ++ z)) ≡ false
    go true k f = f k
    go false k f = not-true (eqb b (byte "\n")) (and_left (not (eqb b (byte "\n"))) (every (is_other (byte "\n")) u) o)

-- the number of trees that the first line of s gives
first_of : List ℕ → Option ℕ
first_of s = if is_first s then some (number s) else none

module _ (b : ℕ) (u r : List ℕ) where
  first-digits : every is_digit (b ∷ u) ≡ true → number_in most_trees (b ∷ u) ≡ first_of (b ∷ (u ++ byte "\n" ∷ r))
  unfolding number_in is_digits first_of is_first number begins is_digit is_byte
  first-digits d =
      rw (run-of is_digit (b ∷ u) (byte "\n" ∷ r) d refl, behind-of is_digit (b ∷ u) (byte "\n" ∷ r) d refl, d)
      (rw (and_left (is_digit b) (every is_digit u) d) (go (number_from 0 (b ∷ u)) (leb (number_from 0 (b ∷ u)) most_trees) refl))
    where
      go : (m : ℕ) (t : Bool) → leb m most_trees ≡ t → (if t then some m else none) ≡ (if leb (capped m) most_trees && true then some (capped m) else none)
      go m true e = rw (capped-most m most_trees (omega arith), e, capped_small m most_trees (omega arith) e)
      go m false e = rw (capped-most m most_trees (omega arith), e)

  first-other : every (is_other (byte "\n")) (b ∷ u) ≡ true → every is_digit (b ∷ u) ≡ false → number_in most_trees (b ∷ u) ≡ first_of (b ∷ (u ++ byte "\n" ∷ r))
  unfolding number_in is_digits first_of is_first
  first-other o d =
      let s = b ∷ (u ++ byte "\n" ∷ r) in
      rw (d, and_last (begins is_digit s) (leb (number s) most_trees) (first-stuck (b ∷ u) (byte "\n" ∷ r) o d))

first-in : (w r : List ℕ) → every (is_other (byte "\n")) w ≡ true → number_in most_trees w ≡ first_of (w ++ byte "\n" ∷ r)
unfolding number_in is_digits first_of is_first begins is_digit
first-in [] r o = refl
first-in (b ∷ u) r o = go (every is_digit (b ∷ u)) refl
  where
    go : (t : Bool) → every is_digit (b ∷ u) ≡ t → number_in most_trees (b ∷ u) ≡ first_of (b ∷ (u ++ byte "\n" ∷ r))
    go true d = first-digits b u r d
    go false d = first-other b u r o d

first_next : (w r : List ℕ) → every (is_other (byte "\n")) w ≡ true → is_first (w ++ byte "\n" ∷ r) ≡ true → behind_first (w ++ byte "\n" ∷ r) ≡ r
unfolding is_first behind_first is_digit
first_next w r o e =
    let s = w ++ byte "\n" ∷ r in
    let q = behind-up-to is_digit (byte "\n") refl r w in
    let k = and_right (begins is_digit s) (leb (number s) most_trees && begins (is_byte (byte "\n")) (behind_run is_digit s)) e in
    let g = and_right (leb (number s) most_trees) (begins (is_byte (byte "\n")) (behind_run is_digit s)) k in
    let z = sym (end-here r (behind_run is_digit w) (others-behind (byte "\n") is_digit w o)) ∙ (rw q at g) in
    rw (q, empty-is (behind_run is_digit w) z)

-- ---- the whole text

no_lines : (x : Option ℕ) → square_lines x [] ≡ none
unfolding square_lines square_of
no_lines none = refl
no_lines (some t) = ap (square_of t) (rows_none t t)

first-unended : (s : List ℕ) → every (is_other (byte "\n")) s ≡ true → is_square s ≡ false
unfolding is_square is_first
first-unended s h = rw (and_last (begins is_digit s) (leb (number s) most_trees) (starts_other (byte "\n") (behind_run is_digit s) (others-behind (byte "\n") is_digit s h)))

square-lines : (w r : List ℕ) → every (is_other (byte "\n")) w ≡ true
    → square_lines (number_in most_trees w) (between (byte "\n") r) ≡ (if is_square (w ++ byte "\n" ∷ r) then some (square_read (w ++ byte "\n" ∷ r)) else none)
unfolding square_lines square_of is_square square_read first_of
square-lines w r o = rw (first-in w r o) (go (is_first s) refl)
  where
    s : List ℕ
    s = w ++ byte "\n" ∷ r

    chosen : (n : ℕ) (vs : List ℕ) (t : Bool) → square_of n (if t then some vs else none) ≡ (if t then some (record { trees = n; values = vs }) else none)
    chosen n vs true = refl
    chosen n vs false = refl

    go : (t : Bool) → is_first s ≡ t
        → square_lines (if t then some (number s) else none) (between (byte "\n") r)
        ≡ (if t && are_rows (number s) (number s) (behind_first s) then some (record { trees = number s; values = rows_read (number s) (number s) (behind_first s) }) else none)
    go true e =
        rw (first_next w r o e, rows_in_lem (number s) (number s) (omega arith) r) (chosen (number s) (rows_read (number s) (number s) r) (are_rows (number s) (number s) r))
    go false e = refl

square-of : (f l : List ℕ) (ls : List (List ℕ)) → between (byte "\n") f ≡ l ∷ ls → square_in f ≡ square_lines (number_in most_trees l) ls
unfolding square_in
square-of f l ls e = rw (e, square_in)

pub square-in : (f : List ℕ) → square_in f ≡ (if is_square f then some (square_read f) else none)
square-in f = go (cut (byte "\n") f)
  where
    go : Cut (byte "\n") f → square_in f ≡ (if is_square f then some (square_read f) else none)
    go (whole h) = square-of f f [] (between-whole (byte "\n") f h) ∙ no_lines (number_in most_trees f) ∙ rw (first-unended f h)
    go (parted w r h q) = rw q (square-of (w ++ byte "\n" ∷ r) w (between (byte "\n") r) (between-cut (byte "\n") w r h) ∙ square-lines w r h)
