-- Laws of tokens and keywords. Assumes nothing.
--
--   blank-no-label     a blank is no label byte
--   word_some          a keyword has a byte
--   word-label         it has label bytes alone
--   word-other         it is no other keyword
--   token-label        a token has label bytes alone
--   first-stands       what the function finds is the first token, and what stands behind it
--   Found s w r        the function finds the token w at the front of s, and r behind it
--   first_found        the first token is found
--   TwoOk s p          the two tokens p, if they are any, are what s is
--   two-sound, two-complete     two tokens are found exactly where they stand
use Rattle.std.specs.Prelude.{ℕ, ◌-◌, ◌≤◌, ◌≡◌, refl, Bool, true, false, ◌&&◌, not, leb, ltb, length, if◌then◌else◌}
use Prim.Native.String.{String}
use Rattle.std.proofs.Common.{arith, ap₂, sym, ◌∙◌, true≢false, leb-true, le-leb, ltb-true}
use Rattle.std.proofs.Math.Path.{ap}
use mathlib.Core.List.{List, [], ◌∷◌, ◌++◌, map}
use Rattle.std.proofs.Math.Option.{Option, none, some}
use Rattle.trees.specs.Plain.{every, same_bytes, bytes}
use Rattle.trees.specs.Text.{is_blank, is_label_byte}
use Rattle.trees.specs.Nexus.{run_of, behind_run, capital, is_word, is_token, First, is-first, Two, are-two, Pair}
use Rattle.trees.specs.NexusReading.{first_token, behind_first, two_tokens}
use Rattle.theorems.specs.ListLaws.{if-true, and_left, and_right, and-true, Mem, member-not, every-at}
use Rattle.theorems.specs.NameLaws.{mark_bytes, label-no-blank, test-fails, same_true}
use Rattle.theorems.specs.RunOfLaws.{run_join, run-every, behind-stops, run-of, behind-of, begins-apart}

-- ---- blanks and label bytes

pub blank-no-label : (b : ℕ) → is_blank b ≡ true → is_label_byte b ≡ false
blank-no-label b e = test-fails (is_label_byte b) (λ f. true≢false (sym e ∙ label-no-blank b f))

-- every mark is below the small letters
marks-below : (b : ℕ) → 97 ≤ b → Mem b mark_bytes → ⊥
unfolding every
marks-below b h m = omega (arith, ltb-true b 97 (every-at (λ c. ltb c 97) mark_bytes refl b m))

letter-label : (b : ℕ) → 97 ≤ b → b ≤ 122 → is_label_byte b ≡ true
unfolding is_label_byte
letter-label b h k = and-true (le-leb 33 b (omega arith)) (and-true (le-leb b 126 (omega arith)) (ap not (member-not b mark_bytes (marks-below b h))))

-- ---- keywords

capital-label : (b : ℕ) → is_label_byte (capital b) ≡ true → is_label_byte b ≡ true
unfolding capital
capital-label b = go (leb 97 b && leb b 122) refl
  where
    go : (t : Bool) → (leb 97 b && leb b 122) ≡ t → is_label_byte (if t then b - 32 else b) ≡ true → is_label_byte b ≡ true
    go true e f = letter-label b (leb-true 97 b (and_left (leb 97 b) (leb b 122) e)) (leb-true b 122 (and_right (leb 97 b) (leb b 122) e))
    go false e f = f

capitals-label : (w : List ℕ) → every is_label_byte (map capital w) ≡ true → every is_label_byte w ≡ true
unfolding every
capitals-label [] e = refl
capitals-label (b ∷ w) e =
    and-true (capital-label b (and_left (is_label_byte (capital b)) _ e)) (capitals-label w (and_right (is_label_byte (capital b)) _ e))

module _ (k : String) (w : List ℕ) (e : is_word k w ≡ true) where
  word_bytes : map capital w ≡ bytes k
  unfolding is_word
  word_bytes = same_true (map capital w) (bytes k) e

  pub word_some : 1 ≤ length (bytes k) → 1 ≤ length w
  word_some h = go w word_bytes
    where
      go : (v : List ℕ) → map capital v ≡ bytes k → 1 ≤ length v
      go [] f = absurd (omega (arith, ap length f))
      go (b ∷ v) f = omega arith

  pub word-label : every is_label_byte (bytes k) ≡ true → every is_label_byte w ≡ true
  word-label f = capitals-label w (ap (every is_label_byte) word_bytes ∙ f)

  pub word-other : (j : String) → same_bytes (bytes k) (bytes j) ≡ false → is_word j w ≡ false
  unfolding is_word
  word-other j f = ap (λ (v : List ℕ). same_bytes v (bytes j)) word_bytes ∙ f

-- ---- the first token

token-some : (w : List ℕ) → is_token w ≡ true → 1 ≤ length w
unfolding is_token
token-some w e = leb-true 1 (length w) (and_left (leb 1 (length w)) (every is_label_byte w) e)

pub token-label : (w : List ℕ) → is_token w ≡ true → every is_label_byte w ≡ true
unfolding is_token
token-label w e = and_right (leb 1 (length w)) (every is_label_byte w) e

pub first-stands : (s : List ℕ) → 1 ≤ length (first_token s) → First s (first_token s) (behind_first s)
unfolding first_token behind_first is_token
first-stands s h =
    is-first (run_of is_blank s)
    (sym (ap (λ (r : List ℕ). run_of is_blank s ++ r) (run_join is_label_byte (behind_run is_blank s)) ∙ run_join is_blank s))
    (run-every is_blank s) (and-true (le-leb 1 _ h) (run-every is_label_byte (behind_run is_blank s))) (behind-stops is_label_byte (behind_run is_blank s))

pub record Found (s w r : List ℕ) : Type 0 where
  pub token-found : first_token s ≡ w
  pub rest-found : behind_first s ≡ r
  pub some-found : 1 ≤ length w

pub first_found : {s w r : List ℕ} → First s w r → Found s w r
unfolding first_token behind_first
first_found {s} {w} {r} (is-first a e blank tok stop) =
    let front : behind_run is_blank s ≡ w ++ r
    = ap (behind_run is_blank) e ∙ behind-of is_blank a (w ++ r) blank (begins-apart is_label_byte is_blank label-no-blank w r (token-some w tok) (token-label w tok)) in
    record {
      token-found = ap (run_of is_label_byte) front ∙ run-of is_label_byte w r (token-label w tok) stop;
      rest-found = ap (behind_run is_label_byte) front ∙ behind-of is_label_byte w r (token-label w tok) stop;
      some-found = token-some w tok;
    }

-- ---- two tokens

abbrev pub TwoOk : List ℕ → Option Pair → Type 0
TwoOk s none = Unit {0}
TwoOk s (some p) = Two s p.0 p.1

pub two-sound : (s : List ℕ) → TwoOk s (two_tokens s)
unfolding two_tokens
two-sound s = go (leb 1 (length (first_token s))) (leb 1 (length (first_token (behind_first s)))) (every is_blank (behind_first (behind_first s))) refl refl refl
  where
    go : (a b c : Bool) → leb 1 (length (first_token s)) ≡ a → leb 1 (length (first_token (behind_first s))) ≡ b → every is_blank (behind_first (behind_first s)) ≡ c
        → TwoOk s (if a && (b && c) then some (first_token s, first_token (behind_first s)) else none)
    go true true true e f g = are-two (first-stands s (leb-true 1 _ e)) (first-stands (behind_first s) (leb-true 1 _ f)) g
    go true true false e f g = tt
    go true false c e f g = tt
    go false b c e f g = tt

pub two-complete : {s k n : List ℕ} → Two s k n → two_tokens s ≡ some (k, n)
unfolding two_tokens
two-complete {s} {k} {n} (are-two {r = r} {e = e} f g blank) =
    let a = first_found f in
    let b = first_found g in
    let c : first_token (behind_first s) ≡ n = ap first_token a.rest-found ∙ b.token-found in
    let d : behind_first (behind_first s) ≡ e = ap behind_first a.rest-found ∙ b.rest-found in
    if-true _ _ (and-true (ap (λ (w : List ℕ). leb 1 (length w)) a.token-found ∙ le-leb 1 (length k) a.some-found) (and-true (ap (λ (w : List ℕ). leb 1 (length w)) c ∙ le-leb 1 (length n) b.some-found) (ap (every is_blank) d ∙ blank)))
    ∙ ap₂ (λ (v w : List ℕ). some (v, w)) a.token-found c
