-- The laws of rows at places of a text. Assumes nothing.
--
--   at_place, no_place, place_at, place_none     a place that is found, and one that is not
--   less_one                                     one less than the next number
--   named n s, name-is, named_more, named-stops, named_none     a name, byte by byte
--   plain-within, plain-below, plain-from, plain-above       the byte of a name
--   name-within, row_within                      a name stands inside the text
--   value-unspaced, value-undigit, value-large, value_found     a value
--   ends_more, ends-stops, ends-done, nexts-more, nexts-none    values, one by one, and LF
--   rest-next, rest_more                         what stands behind a byte, behind n bytes
--   row-unnamed, row_ends                        a row
--   rows_next, rows_more, rows-stop, rows-done   rows, one by one
--   stands-none, stands-more                     the places of their first values
use Rattle.std.specs.Prelude.{ℕ, zero, suc, ◌+◌, ◌-◌, ◌≤◌, ◌<◌, ◌⊎◌, ◌≡◌, Bool, ◌&&◌, eqb, length, get_or, set, take, drop, Option, None, Some}
use Rattle.std.proofs.Common.{add-one, arith, inl, inr, sym, ◌∙◌, length-take, length-drop, drop_of_length-le, drop-cons, drop-drop, get_or-set_same, get_or-set_other}
use Rattle.std.proofs.Math.Path.{refl, ap}
use Rattle.std.proofs.Math.Bool.{true, false}
use mathlib.Core.List.{List, [], ◌∷◌}
use Rattle.std.proofs.Math.Dec.{leb}
use borrow.Author.Tests.{eqb-true, eq-eqb, ne_eqb, le-leb, lt-leb}
use Rattle.trees.specs.Plain.{every}
use Rattle.trees.specs.Length.{is_digit}
use Rattle.trees.specs.Nexus.{behind_run, begins}
use Rattle.trees.specs.Phylip.{is_empty, is_name}
use Rattle.theorems.specs.ListLaws.{less-or-not, equal_or_not, same_bool, and_left}
use Rattle.phylip.specs.declared.values.Reached.{Reached}
use Rattle.phylip.specs.Walk.{rest, is_byte, number, value, next, is_value, nexts, are_values, ends_row, is_row, next_row, next_rows, are_rows}
use Rattle.phylip.specs.Places.{NumberAt}
use Rattle.phylip.specs.PlaceLaws.{begins-first}
use Rattle.phylip.specs.RowLaws.{and_last}
use Rattle.phylip.specs.Rows.{is_plain, PlaceAs, Stands}

-- ---- places

module _ (f s : List ℕ) (good : Bool) where
  pub at_place : (e : ℕ) → good ≡ true → rest f e ≡ s → PlaceAs f good s (Some e)
  unfolding PlaceAs
  at_place e g q = (g, q)

  pub no_place : good ≡ false → PlaceAs f good s None
  unfolding PlaceAs
  no_place g = g

  module _ (r : Option ℕ) (h : PlaceAs f good s r) where
    pub place_at : (e : ℕ) → r ≡ Some e → (good ≡ true) × (rest f e ≡ s)
    unfolding PlaceAs
    place_at e q = rw q at h

    pub place_none : r ≡ None → good ≡ false
    unfolding PlaceAs
    place_none q = rw q at h

-- ---- a name

pub less_one : (n : ℕ) → suc n - 1 ≡ n
less_one n = omega arith

-- the first n bytes of s are bytes of a name
unfoldable pub named : ℕ → List ℕ → Bool
named zero s = true
named (suc n) [] = false
named (suc n) (b ∷ s) = is_plain b && named n s

eqb-suc : (a b : ℕ) → eqb (suc a) (suc b) ≡ eqb a b
eqb-suc a b =
    same_bool (eqb (suc a) (suc b)) (eqb a b)
    (λ e. let q = eqb-true (suc a) (suc b) e in eq-eqb a b (omega arith))
    (λ e. eq-eqb (suc a) (suc b) (ap suc (eqb-true a b e)))

named-all : (n : ℕ) (s : List ℕ) → (eqb (length (take n s)) n && every is_plain (take n s)) ≡ named n s
unfolding named every
named-all zero s = refl
named-all (suc n) [] = rw (ne_eqb 0 (suc n) (λ e. omega arith))
named-all (suc n) (b ∷ s) = rw (eqb-suc (length (take n s)) n) (go (eqb (length (take n s)) n) (is_plain b) (every is_plain (take n s)) (named-all n s))
  where
    go : (a p e : Bool) → (a && e) ≡ named n s → (a && (p && e)) ≡ (p && named n s)
    go true true e q = q
    go true false e q = refl
    go false true e q = q
    go false false e q = refl

pub name-is : (s : List ℕ) → is_name (take 10 s) ≡ named 10 s
unfolding is_name is_plain
name-is s = named-all 10 s

pub named_more : (f : List ℕ) (i n : ℕ) → 0 < n → begins is_plain (rest f i) ≡ true → named n (rest f i) ≡ named (n - 1) (rest f (i + 1))
unfolding named
named_more f i zero l e = absurd (omega arith)
named_more f i (suc n) l e = let h = begins-first is_plain f i e in rw (h.1, h.0, less_one n)

pub named-stops : (s : List ℕ) (n : ℕ) → 0 < n → begins is_plain s ≡ false → named n s ≡ false
unfolding named begins
named-stops s zero l e = absurd (omega arith)
named-stops [] (suc n) l e = refl
named-stops (b ∷ s) (suc n) l e = rw e

pub named_none : (s : List ℕ) (n : ℕ) → n ≡ 0 → named n s ≡ true
unfolding named
named_none s n e = rw e

pub plain-within : (b : ℕ) → 32 ≤ b → b ≤ 126 → is_plain b ≡ true
unfolding is_plain
plain-within b h k = rw (le-leb 32 b h, le-leb b 126 k)

pub plain-below : (b : ℕ) → b < 32 → is_plain b ≡ false
unfolding is_plain
plain-below b h = rw (lt-leb 32 b h)

pub plain-from : (b : ℕ) → 32 ≤ b → is_plain b ≡ leb b 126
unfolding is_plain
plain-from b h = rw (le-leb 32 b h)

pub plain-above : (b : ℕ) → 126 < b → is_plain b ≡ false
unfolding is_plain
plain-above b h = rw (le-leb 32 b (omega arith), lt-leb b 126 h)

pub name-within : (f : List ℕ) (i : ℕ) → is_name (take 10 (rest f i)) ≡ true → i + 10 ≤ length f
unfolding is_name rest
name-within f i e =
    let w = take 10 (drop i f) in
    let q = eqb-true (length w) 10 (and_left (eqb (length w) 10) (every (λ b. leb 32 b && leb b 126) w) e) in
    omega (arith, length-take 10 (drop i f), length-drop i f)

-- ---- a value

module _ (s : List ℕ) where
  pub value-unspaced : begins (is_byte 32) s ≡ false → is_value s ≡ false
  unfolding is_value
  value-unspaced e = rw e

  pub value-undigit : (d : List ℕ) → d ≡ behind_run (is_byte 32) s → begins is_digit d ≡ false → is_value s ≡ false
  unfolding is_value
  value-undigit d q e = go (begins (is_byte 32) s)
    where
      go : (t : Bool) → (t && (begins is_digit (behind_run (is_byte 32) s) && leb (value s) 65535)) ≡ false
      go true = rw (← q, e)
      go false = refl

module _ (f : List ℕ) (i j : ℕ) (r : Reached) (e : rest f j ≡ behind_run (is_byte 32) (rest f i)) (h : NumberAt f j r) where
  pub value-large : 65535 < r.value → is_value (rest f i) ≡ false
  unfolding is_value value
  value-large l = and_last (begins (is_byte 32) (rest f i)) (begins is_digit (behind_run (is_byte 32) (rest f i))) (ap (λ (s : List ℕ). leb (number s) 65535) (sym e) ∙ ap (λ (n : ℕ). leb n 65535) (sym h.is) ∙ lt-leb r.value 65535 l)

  pub value_found : begins (is_byte 32) (rest f i) ≡ true → begins is_digit (rest f j) ≡ true → r.value ≤ 65535
      → PlaceAs f (is_value (rest f i)) (next (rest f i)) (Some r.at)
  unfolding is_value value next
  value_found s d l = at_place f (next (rest f i)) (is_value (rest f i)) r.at (rw (s, ← e, d, ← h.is) (le-leb r.value 65535 l)) (h.behind ∙ ap (behind_run is_digit) e)

-- ---- values and LF

pub ends_more : (s : List ℕ) (n : ℕ) → 0 < n → is_value s ≡ true → ends_row n s ≡ ends_row (n - 1) (next s)
unfolding ends_row are_values nexts
ends_more s zero l e = absurd (omega arith)
ends_more s (suc n) l e = rw (e, less_one n)

pub ends-stops : (s : List ℕ) (n : ℕ) → 0 < n → is_value s ≡ false → ends_row n s ≡ false
unfolding ends_row are_values
ends-stops s zero l e = absurd (omega arith)
ends-stops s (suc n) l e = rw e

pub nexts-more : (s : List ℕ) (n : ℕ) → 0 < n → nexts n s ≡ nexts (n - 1) (next s)
unfolding nexts
nexts-more s zero l = absurd (omega arith)
nexts-more s (suc n) l = rw (less_one n)

pub ends-done : (s : List ℕ) (n : ℕ) → n ≡ 0 → ends_row n s ≡ begins (is_byte 10) s
unfolding ends_row are_values nexts
ends-done s n e = rw e

pub nexts-none : (s : List ℕ) (n : ℕ) → n ≡ 0 → nexts n s ≡ s
unfolding nexts
nexts-none s n e = rw e

-- what stands behind the byte at i
pub rest-next : (p : ℕ → Bool) (f : List ℕ) (i : ℕ) → begins p (rest f i) ≡ true → rest f (i + 1) ≡ drop 1 (rest f i)
rest-next p f i e = rw (begins-first p f i e).1

-- ---- a row

pub row-unnamed : (t : ℕ) (s : List ℕ) → is_name (take 10 s) ≡ false → is_row t s ≡ false
unfolding is_row
row-unnamed t s e = rw e

pub rest_more : (f : List ℕ) (i n : ℕ) → rest f (i + n) ≡ drop n (rest f i)
unfolding rest
rest_more f i n = sym (drop-drop n i f)

pub row_ends : (f : List ℕ) (i t : ℕ) (r : Option ℕ) → is_name (take 10 (rest f i)) ≡ true
    → PlaceAs f (ends_row t (rest f (i + 10))) (drop 1 (nexts t (rest f (i + 10)))) r → PlaceAs f (is_row t (rest f i)) (next_row t (rest f i)) r
unfolding is_row next_row
row_ends f i t r e h = rw (e, ← rest_more f i 10) h

pub row_within : (f : List ℕ) (i t : ℕ) → is_row t (rest f i) ≡ true → i + 10 ≤ length f
unfolding is_row
row_within f i t e = name-within f i (and_left (is_name (take 10 (rest f i))) (ends_row t (drop 10 (rest f i))) e)

-- ---- rows

pub rows_next : (k t : ℕ) (s : List ℕ) → next_rows (k + 1) t s ≡ next_row t (next_rows k t s)
unfolding next_rows
rows_next k t s = ap (λ (n : ℕ). next_rows n t s) (add-one k) ∙ go k s
  where
    go : (n : ℕ) (u : List ℕ) → next_rows (suc n) t u ≡ next_row t (next_rows n t u)
    go zero u = refl
    go (suc n) u = go n (next_row t u)

pub rows_more : (k t : ℕ) (s : List ℕ) → 0 < k → is_row t s ≡ true → are_rows k t s ≡ are_rows (k - 1) t (next_row t s)
unfolding are_rows
rows_more zero t s l e = absurd (omega arith)
rows_more (suc k) t s l e = rw (e, less_one k)

pub rows-stop : (k t : ℕ) (s : List ℕ) → 0 < k → is_row t s ≡ false → are_rows k t s ≡ false
unfolding are_rows
rows-stop zero t s l e = absurd (omega arith)
rows-stop (suc k) t s l e = rw e

pub rows-done : (f : List ℕ) (k t i : ℕ) → k ≡ 0 → are_rows k t (rest f i) ≡ leb (length f) i
unfolding are_rows rest is_empty
rows-done f k t i e = rw e (go (less-or-not i (length f)))
  where
    go : (i < length f) ⊎ (length f ≤ i) → is_empty (drop i f) ≡ leb (length f) i
    go (inl h) = rw (drop-cons f i 0 h, lt-leb (length f) i h)
    go (inr h) = rw (drop_of_length-le f h, le-leb (length f) i h)

pub stands-none : (f s : List ℕ) (t : ℕ) (at : List ℕ) → Stands f s t 0 at
unfolding Stands
stands-none f s t at j l = absurd (omega arith)

pub stands-more : (f s : List ℕ) (t k p : ℕ) (at : List ℕ) → Stands f s t k at → k < length at → rest f p ≡ next_rows k t s → Stands f s t (k + 1) (set at k (p + 10))
unfolding Stands
stands-more f s t k p at h l e j m = go (equal_or_not j k)
  where
    below_other : (a b : ℕ) → a < b + 1 → (a ≡ b → ⊥) → a < b
    below_other a b x y = omega arith

    go : (j ≡ k) ⊎ (j ≡ k → ⊥) → rest f (get_or (set at k (p + 10)) j 0) ≡ drop 10 (next_rows j t s)
    go (inl q) = rw (q, get_or-set_same at k (p + 10) 0 l, rest_more f p 10, e)
    go (inr n) = rw (get_or-set_other at k j (p + 10) 0 n) (h j (below_other j k m n))
