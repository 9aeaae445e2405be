-- The values of a line, read from left to right. Assumes nothing.
--
--   capped-most, capped_small     a capped number against one below 65,536
--   line_read n w                  the n values of the line w, read from left to right, and nothing behind them
--   line-values                   they are the values that `values_in` says
use Rattle.std.specs.Prelude.{ℕ, zero, suc, ◌<◌, Bool, ◌&&◌, not, List, [], ◌∷◌, ◌++◌, ltb, eqb, length, if◌then◌else◌}
use Rattle.std.proofs.Common.{arith, sym, ap, ◌∙◌, true≢false, append-nil, ltb-false, leb-true, lt-ltb, eqb-true, eq-eqb, ne_eqb}
use Rattle.std.proofs.Math.Path.{◌≡◌, refl}
use Rattle.std.proofs.Math.Bool.{true, false}
use Rattle.std.proofs.Math.Option.{Option, none, some}
use Rattle.std.proofs.Math.Dec.{leb}
use Rattle.std.proofs.lemmas.Bool.{lt-leb, eqb-false, not-true}
use Rattle.trees.specs.Plain.{every, keep, byte}
use Rattle.trees.specs.Text.{with_byte}
use Rattle.trees.specs.Length.{is_digit, is_digits}
use Rattle.trees.specs.Value.{number_from}
use Rattle.trees.specs.Decimal.{number_in}
use Rattle.trees.specs.Nexus.{behind_run, begins}
use Rattle.trees.specs.Phylip.{between, largest_value, is_empty, ends_empty, with_value, numbers_in, values_in, exactly}
use Rattle.theorems.specs.ListLaws.{and_left, and_right}
use Rattle.theorems.specs.RunOfLaws.{run-of, behind-of, behind-stops}
use Rattle.phylip.specs.Walk.{is_byte, capped, number, value, next, is_value, values, nexts, are_values}
use Rattle.phylip.specs.CutLaws.{is_other, Cut, whole, parted, cut, between-whole, between-cut, between-some}

-- ---- capped numbers

pub capped_small : (n m : ℕ) → m < 65536 → leb n m ≡ true → capped n ≡ n
unfolding capped
capped_small n m l e = let h = leb-true n m e in rw (lt-ltb n 65536 (omega arith))

pub capped-most : (n m : ℕ) → m < 65536 → leb (capped n) m ≡ leb n m
unfolding capped
capped-most n m l = go (ltb n 65536) refl
  where
    go : (t : Bool) → ltb n 65536 ≡ t → leb (if t then n else 65536) m ≡ leb n m
    go true e = refl
    go false e = let h = ltb-false n 65536 e in lt-leb 65536 m (omega arith) ∙ sym (lt-leb n m (omega arith))

-- ---- the parts between spaces

-- the values of the parts
unfoldable tokens : List (List ℕ) → Option (List ℕ)
unfolding ends_empty numbers_in keep is_empty
tokens ws = if not (ends_empty ws) then numbers_in (keep (λ w. not (is_empty w)) ws) else none

-- the values of r, none of them where r is empty
unfoldable others : List ℕ → Option (List ℕ)
unfolding values_in
others [] = some []
others (b ∷ r) = values_in (b ∷ r)

values-space : (b : ℕ) (s : List ℕ) → eqb b (byte " ") ≡ true → values_in (b ∷ s) ≡ tokens (between (byte " ") s)
unfolding values_in tokens
values-space b s e = rw e

values_other : (b : ℕ) (s : List ℕ) → eqb b (byte " ") ≡ false → values_in (b ∷ s) ≡ none
unfolding values_in
values_other b s e = rw e

with_none : (x : Option ℕ) → with_value x none ≡ none
unfolding with_value
with_none none = refl
with_none (some v) = refl

tokens-skip : (s : List ℕ) → tokens ([] ∷ between (byte " ") s) ≡ tokens (between (byte " ") s)
unfolding tokens ends_empty keep is_empty
tokens-skip s = let x = between-some (byte " ") s in rw x.2

tokens-more : (b : ℕ) (u s : List ℕ) → tokens ((b ∷ u) ∷ between (byte " ") s) ≡ with_value (number_in largest_value (b ∷ u)) (tokens (between (byte " ") s))
unfolding tokens ends_empty keep is_empty numbers_in
tokens-more b u s = let x = between-some (byte " ") s in rw x.2 (go (x.0 ∷ x.1) (ends_empty (x.0 ∷ x.1)))
  where
    go : (ws : List (List ℕ)) (t : Bool)
        → (if not t then with_value (number_in largest_value (b ∷ u)) (numbers_in (keep (λ w. not (is_empty w)) ws)) else none)
        ≡ with_value (number_in largest_value (b ∷ u)) (if not t then numbers_in (keep (λ w. not (is_empty w)) ws) else none)
    go ws true = sym (with_none (number_in largest_value (b ∷ u)))
    go ws false = refl

spaces-skipped : (s : List ℕ) → tokens (between (byte " ") s) ≡ tokens (between (byte " ") (behind_run (is_byte (byte " ")) s))
unfolding between behind_run is_byte
spaces-skipped [] = refl
spaces-skipped (b ∷ s) = go (eqb b (byte " ")) refl (spaces-skipped s)
  where
    go : (t : Bool) → eqb b (byte " ") ≡ t → tokens (between (byte " ") s) ≡ tokens (between (byte " ") (behind_run (is_byte (byte " ")) s))
        → tokens (if t then [] ∷ between (byte " ") s else with_byte b (between (byte " ") s))
        ≡ tokens (between (byte " ") (if t then behind_run (is_byte (byte " ")) s else b ∷ s))
    go true e f = tokens-skip s ∙ f
    go false e f = rw e

-- ---- the first value

-- a part with a byte that is no digit
stuck : (u z : List ℕ) → every (is_other (byte " ")) u ≡ true → every is_digit u ≡ false → others (behind_run is_digit (u ++ z)) ≡ none
unfolding every behind_run is_other others
stuck [] z o d = absurd (true≢false d)
stuck (b ∷ u) z o d = go (is_digit b) d (λ k. stuck u z (and_right (not (eqb b (byte " "))) (every (is_other (byte " ")) u) o) k)
  where
    go : (t : Bool) → (t && every is_digit u) ≡ false → (every is_digit u ≡ false → others (behind_run is_digit (u ++ z)) ≡ none)
        → others (if t then behind_run is_digit (u ++ z) else b ∷ (u ++ z)) ≡ none
    go true k f = f k
    go false k f = values_other b (u ++ z) (not-true (eqb b (byte " ")) (and_left (not (eqb b (byte " "))) (every (is_other (byte " ")) u) o))

-- the values of s, which does not begin with a space
unfoldable first_read : List ℕ → Option (List ℕ)
unfolding begins number with_value behind_run others
first_read s = if begins is_digit s && leb (number s) largest_value then with_value (some (number s)) (others (behind_run is_digit s)) else none

module _ (b : ℕ) (u z : List ℕ) where
  first-digits : every is_digit (b ∷ u) ≡ true → begins is_digit z ≡ false → with_value (number_in largest_value (b ∷ u)) (others z) ≡ first_read (b ∷ (u ++ z))
  unfolding number_in is_digits first_read number begins with_value
  first-digits d n =
      rw (run-of is_digit (b ∷ u) z d n, behind-of is_digit (b ∷ u) z d n, d)
      (rw (and_left (is_digit b) (every is_digit u) d) (go (number_from 0 (b ∷ u)) (leb (number_from 0 (b ∷ u)) largest_value) refl))
    where
      go : (m : ℕ) (t : Bool) → leb m largest_value ≡ t
          → with_value (if t then some m else none) (others z) ≡ (if leb (capped m) largest_value then with_value (some (capped m)) (others z) else none)
      go m true e = rw (capped-most m largest_value (omega arith), e, capped_small m largest_value (omega arith) e)
      go m false e = rw (capped-most m largest_value (omega arith), e)

  first-stuck : every (is_other (byte " ")) (b ∷ u) ≡ true → every is_digit (b ∷ u) ≡ false → with_value (number_in largest_value (b ∷ u)) (others z) ≡ first_read (b ∷ (u ++ z))
  unfolding number_in is_digits first_read with_value
  first-stuck o d = rw (stuck (b ∷ u) z o d, d) (go (begins is_digit (b ∷ (u ++ z)) && leb (number (b ∷ (u ++ z))) largest_value))
    where
      go : (t : Bool) → ◌≡◌ {A = Option (List ℕ)} none (if t then none else none)
      go true = refl
      go false = refl

  first_part : every (is_other (byte " ")) (b ∷ u) ≡ true → begins is_digit z ≡ false → with_value (number_in largest_value (b ∷ u)) (others z) ≡ first_read (b ∷ (u ++ z))
  first_part o n = go (every is_digit (b ∷ u)) refl
    where
      go : (t : Bool) → every is_digit (b ∷ u) ≡ t → with_value (number_in largest_value (b ∷ u)) (others z) ≡ first_read (b ∷ (u ++ z))
      go true d = first-digits d n
      go false d = first-stuck o d

first-cut : (w r : List ℕ) → every (is_other (byte " ")) w ≡ true → begins (is_byte (byte " ")) (w ++ byte " " ∷ r) ≡ false
    → tokens (between (byte " ") (w ++ byte " " ∷ r)) ≡ first_read (w ++ byte " " ∷ r)
unfolding begins is_byte is_digit others
first-cut [] r h n = absurd (true≢false n)
first-cut (b ∷ u) r h n =
    ap tokens (between-cut (byte " ") (b ∷ u) r h) ∙ tokens-more b u r
    ∙ ap (with_value (number_in largest_value (b ∷ u))) (sym (values-space (byte " ") r refl))
    ∙ first_part b u (byte " " ∷ r) h refl

first-value : (s : List ℕ) → Cut (byte " ") s → begins (is_byte (byte " ")) s ≡ false → tokens (between (byte " ") s) ≡ first_read s
unfolding tokens ends_empty keep is_empty numbers_in between first_read begins others
first-value [] (whole h) n = refl
first-value (b ∷ u) (whole h) n = rw (between-whole (byte " ") (b ∷ u) h) (rw append-nil at (first_part b u [] h refl))
first-value s (parted w r h q) n = rw q (first-cut w r h (rw q at n))

-- the values of a line, by the first of them
values-step : (w : List ℕ) → values_in w ≡ (if is_value w then with_value (some (value w)) (others (next w)) else none)
unfolding values_in is_value value next begins behind_run is_byte first_read
values-step [] = refl
values-step (b ∷ s) = go (eqb b (byte " ")) refl
  where
    go : (t : Bool) → eqb b (byte " ") ≡ t → values_in (b ∷ s) ≡ (if is_value (b ∷ s) then with_value (some (value (b ∷ s))) (others (next (b ∷ s))) else none)
    go true e =
        values-space b s e ∙ spaces-skipped s
        ∙ first-value (behind_run (is_byte (byte " ")) s) (cut (byte " ") (behind_run (is_byte (byte " ")) s)) (behind-stops (is_byte (byte " ")) s)
        ∙ rw e
    go false e = values_other b s e ∙ rw e

-- ---- n values

unfoldable pub line_read : ℕ → List ℕ → Option (List ℕ)
unfolding are_values is_empty nexts values
line_read n w = if are_values n w && is_empty (nexts n w) then some (values n w) else none

exactly-more : (n v : ℕ) (x : Option (List ℕ)) → exactly (suc n) (with_value (some v) x) ≡ with_value (some v) (exactly n x)
unfolding exactly with_value
exactly-more n v none = refl
exactly-more n v (some vs) = go (eqb (length vs) n) refl
  where
    go : (t : Bool) → eqb (length vs) n ≡ t → (if eqb (suc (length vs)) (suc n) then some (v ∷ vs) else none) ≡ with_value (some v) (if t then some vs else none)
    go true e = rw (eq-eqb (suc (length vs)) (suc n) (ap suc (eqb-true (length vs) n e)))
    go false e = let f = eqb-false (length vs) n e in rw (ne_eqb (suc (length vs)) (suc n) (λ q. f (omega arith)))

exactly-none : (v : ℕ) (x : Option (List ℕ)) → exactly 0 (with_value (some v) x) ≡ none
unfolding exactly with_value
exactly-none v none = refl
exactly-none v (some vs) = rw (ne_eqb (suc (length vs)) 0 (λ q. omega arith))

with-chosen : (v : ℕ) (vs : List ℕ) (t : Bool) → with_value (some v) (if t then some vs else none) ≡ (if t then some (v ∷ vs) else none)
unfolding with_value
with-chosen v vs true = refl
with-chosen v vs false = refl

others-read : (n : ℕ) (r : List ℕ) → exactly n (others r) ≡ line_read n r
unfolding others line_read are_values nexts values is_empty exactly is_value begins
others-read zero [] = refl
others-read zero (b ∷ r) = ap (exactly 0) (values-step (b ∷ r)) ∙ go (is_value (b ∷ r))
  where
    go : (t : Bool) → exactly 0 (if t then with_value (some (value (b ∷ r))) (others (next (b ∷ r))) else none) ≡ none
    go true = exactly-none (value (b ∷ r)) (others (next (b ∷ r)))
    go false = refl
others-read (suc n) [] = rw (ne_eqb 0 (suc n) (λ q. omega arith))
others-read (suc n) (b ∷ r) = ap (exactly (suc n)) (values-step (b ∷ r)) ∙ go (value (b ∷ r)) (next (b ∷ r)) (is_value (b ∷ r)) (others-read n (next (b ∷ r)))
  where
    go : (v : ℕ) (m : List ℕ) (g : Bool) → exactly n (others m) ≡ line_read n m
        → exactly (suc n) (if g then with_value (some v) (others m) else none) ≡ (if (g && are_values n m) && is_empty (nexts n m) then some (v ∷ values n m) else none)
    go v m true f = exactly-more n v (others m) ∙ ap (with_value (some v)) f ∙ with-chosen v (values n m) (are_values n m && is_empty (nexts n m))
    go v m false f = refl

pub line-values : (n : ℕ) (w : List ℕ) → exactly (suc n) (values_in w) ≡ line_read (suc n) w
unfolding values_in exactly line_read are_values is_value begins others
line-values n [] = refl
line-values n (b ∷ w) = others-read (suc n) (b ∷ w)
