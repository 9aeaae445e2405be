-- The laws of what stands at a place of a text. Assumes nothing.
--
--   begins-at, begins-here, begins-past, begins-within     a byte stands at a place exactly where the text has not ended
--   begins-first           a text that begins with a byte of a kind, taken apart
--   behind-next            a run, one byte on
--   number_behind v s       the number v, with the digits at the front of s behind it
--   capped-large, capped_same, capped-least, capped-top      a capped number
--   number-start, number_more, number-done     a number in digits: at its start, one digit on, and at its end
--   ascii-digit, digit-below, digit-from, digit_low  the byte of a digit
--   value-place            a value, behind the spaces
use Rattle.std.specs.Prelude.{leb, ℕ, ◌+◌, ◌-◌, ◌*◌, ◌≤◌, ◌<◌, ◌⊎◌, ◌≡◌, refl, Bool, true, false, List, [], ◌∷◌, ltb, length, min, if◌then◌else◌}
use Rattle.std.specs.Char.{is_ascii_digit}
use Rattle.std.proofs.Common.{add-one, arith, inl, inr, sym, ◌∙◌, true≢false, drop_of_length-le, ltb-true, ltb-false, le-ltb, leb-true, le-leb}
use Rattle.std.proofs.Math.Path.{ap}
use Rattle.std.proofs.Math.ListN.{get_or, drop}
use Rattle.std.proofs.Math.Seq.{drop-cons}
use Rattle.std.proofs.lemmas.Bool.{lt-leb}
use Rattle.trees.specs.Length.{is_digit}
use Rattle.trees.specs.Value.{number_from}
use Rattle.trees.specs.Nexus.{run_of, behind_run, begins}
use Rattle.theorems.specs.ListLaws.{less-or-not, and_left}
use Rattle.theorems.specs.RunOfLaws.{run-here, run-over, behind-here}
use Rattle.phylip.specs.declared.values.Reached.{Reached}
use Rattle.phylip.specs.Walk.{rest, is_byte, capped, number, value, next}
use Rattle.phylip.specs.Places.{NumberAt, ValueAt}

-- ---- a byte at a place

-- nothing stands past the end
pub rest_past : (f : List ℕ) (i j : ℕ) → length f ≤ i → length f ≤ j → rest f i ≡ rest f j
unfolding rest
rest_past f i j h k = drop_of_length-le f h ∙ sym (drop_of_length-le f k)

module _ (p : ℕ → Bool) (f : List ℕ) (i : ℕ) where
  pub begins-at : i < length f → begins p (rest f i) ≡ p (get_or f i 0)
  unfolding begins rest
  begins-at h = rw (drop-cons f i 0 h)

  pub begins-past : length f ≤ i → begins p (rest f i) ≡ false
  unfolding begins rest
  begins-past h = rw (drop_of_length-le f h)

  pub begins-here : i < length f → (b : Bool) → p (get_or f i 0) ≡ b → begins p (rest f i) ≡ b
  begins-here h b e = begins-at h ∙ e

  pub begins-within : begins p (rest f i) ≡ true → i < length f
  begins-within e = go (less-or-not i (length f))
    where
      go : (i < length f) ⊎ (length f ≤ i) → i < length f
      go (inl h) = h
      go (inr h) = absurd (true≢false (sym e ∙ begins-past h))

  pub begins-first : begins p (rest f i) ≡ true → (p (get_or f i 0) ≡ true) × (rest f i ≡ get_or f i 0 ∷ rest f (i + 1))
  unfolding rest
  begins-first e =
      let h = begins-within e in
      (sym (begins-at h) ∙ e, drop-cons f i 0 h ∙ ap (λ (n : ℕ). get_or f i 0 ∷ drop n f) (sym (add-one i)))

  pub behind-next : begins p (rest f i) ≡ true → behind_run p (rest f i) ≡ behind_run p (rest f (i + 1))
  behind-next e =
      let h = begins-first e in
      ap (behind_run p) h.1 ∙ behind-here p (get_or f i 0) (rest f (i + 1)) h.0

  run-next : begins p (rest f i) ≡ true → run_of p (rest f i) ≡ get_or f i 0 ∷ run_of p (rest f (i + 1))
  run-next e =
      let h = begins-first e in
      ap (run_of p) h.1 ∙ run-here p (get_or f i 0) (rest f (i + 1)) h.0

-- ---- a number in digits

-- the number v, with the digits at the front of s behind it
unfoldable pub number_behind : ℕ → List ℕ → ℕ
number_behind v s = capped (number_from v (run_of is_digit s))

from-least : (w : List ℕ) (m : ℕ) → m ≤ number_from m w
unfolding number_from
from-least [] m = omega arith
from-least (b ∷ w) m = let h = from-least w (10 * m + (b - 48)) in omega arith

pub capped-large : (n : ℕ) → 65536 ≤ n → capped n ≡ 65536
unfolding capped
capped-large n h = rw (le-ltb n 65536 h)

pub capped-least : (n : ℕ) → min 65536 n ≡ capped n
unfolding capped
capped-least n = go (ltb n 65536) refl
  where
    go : (t : Bool) → ltb n 65536 ≡ t → min 65536 n ≡ (if t then n else 65536)
    go true e = let k = ltb-true n 65536 e in omega arith
    go false e = let k = ltb-false n 65536 e in omega arith

pub capped_same : (n : ℕ) → n ≤ 65536 → capped n ≡ n
unfolding capped
capped_same n h = go (ltb n 65536) refl
  where
    go : (t : Bool) → ltb n 65536 ≡ t → (if t then n else 65536) ≡ n
    go true e = refl
    go false e = let k = ltb-false n 65536 e in omega arith

pub capped-top : (n : ℕ) → capped n ≤ 65536
unfolding capped
capped-top n = go (ltb n 65536) refl
  where
    go : (t : Bool) → ltb n 65536 ≡ t → (if t then n else 65536) ≤ 65536
    go true e = let k = ltb-true n 65536 e in omega arith
    go false e = omega arith

capped-from : (m : ℕ) (w : List ℕ) → capped (number_from m w) ≡ capped (number_from (capped m) w)
capped-from m w = go (less-or-not m 65536)
  where
    go : (m < 65536) ⊎ (65536 ≤ m) → capped (number_from m w) ≡ capped (number_from (capped m) w)
    go (inl h) = rw (capped_same m (omega arith))
    go (inr h) =
        let a = from-least w m in
        let b = from-least w 65536 in
        rw (capped-large m h, capped-large (number_from m w) (omega arith), capped-large (number_from 65536 w) (omega arith))

pub number-start : (s : List ℕ) → number s ≡ number_behind 0 s
unfolding number number_behind
number-start s = refl

module _ (f : List ℕ) (i v : ℕ) where
  pub number_more : begins is_digit (rest f i) ≡ true → number_behind v (rest f i) ≡ number_behind (capped (10 * v + (get_or f i 0 - 48))) (rest f (i + 1))
  unfolding number_behind number_from
  number_more e = rw (run-next is_digit f i e) (capped-from (10 * v + (get_or f i 0 - 48)) (run_of is_digit (rest f (i + 1))))

  pub number-done : begins is_digit (rest f i) ≡ false → v ≤ 65536 → number_behind v (rest f i) ≡ v
  unfolding number_behind number_from
  number-done e h = rw (run-over is_digit (rest f i) e) (capped_same v h)

pub ascii-digit : (b : ℕ) → is_ascii_digit b ≡ is_digit b
unfolding is_digit
ascii-digit b = refl

pub digit-below : (b : ℕ) → b < 48 → is_digit b ≡ false
unfolding is_digit
digit-below b h = rw (lt-leb 48 b h)

pub digit-from : (b : ℕ) → 48 ≤ b → is_digit b ≡ leb b 57
unfolding is_digit
digit-from b h = rw (le-leb 48 b h)

pub digit_low : (f : List ℕ) (i : ℕ) → begins is_digit (rest f i) ≡ true → 48 ≤ get_or f i 0
unfolding is_digit
digit_low f i e = leb-true 48 (get_or f i 0) (and_left _ _ (begins-first is_digit f i e).0)

-- ---- a value

pub value-place : (f : List ℕ) (i j : ℕ) (r : Reached) → rest f j ≡ behind_run (is_byte 32) (rest f i) → NumberAt f j r → ValueAt f i r
unfolding value next
value-place f i j r e n = record { is = n.is ∙ ap number e; behind = n.behind ∙ ap (behind_run is_digit) e }
