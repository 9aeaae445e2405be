-- The laws of a store's head. Assumes nothing.
--
--   up_to-length, up_to-at, up_to-same     a list made by `up_to`
--   names-length, first-length, second-length     each list has an element for each taxon
--   names-at, first-at, second_at_lem       the element of taxon i
--   run-slice, name-slice               a run of bytes is a slice of them, and so is a name
--   name-most                           it has no more bytes than the byte before it says
--   numbers-same, names_same, first-same, second-same, head-same     the opening lies in the first 4,096 bytes
use Rattle.std.specs.Prelude.{◌≡◌, ℕ, zero, suc, ◌+◌, ◌*◌, ◌<◌, ◌≤◌, List, [], ◌∷◌, length, take, drop, slice_index, slice_index_or}
use Rattle.std.proofs.Math.Path.{refl, ap, ap₂}
use Rattle.std.proofs.Common.{sym, ◌∙◌, zero-add, suc-add, length-take, length-drop, length-take-le, get_or-take, get_or-drop, ext_get_or}
use Rattle.std.proofs.Math.Nat.{add-zero}
use native.Mathlib.Omega.{arith}
use Rattle.std.proofs.Math.Seq.{slice, take-nil, drop-nil}
use Rattle.trees.specs.Opening.{head_bytes}
use Rattle.fields.specs.Field.{number}
use Rattle.fields.specs.FieldLaws.{number_same}
use Rattle.head.specs.Head.{from_to, up_to, numbers_at, name_at, names_at, first_at, second_at, opening_at}

-- ---- the list of a function's values

module _ {A : Type 0} where
  from-length : (f : ℕ → A) (k n : ℕ) → length (from_to f k n) ≡ n
  unfolding from_to
  from-length f k zero = refl
  from-length f k (suc n) = ap suc (from-length f (suc k) n)

  from_at : (f : ℕ → A) (k n i : ℕ) (d : A) → i < n → slice_index_or (from_to f k n) i d ≡ f (k + i)
  unfolding from_to
  from_at f k zero i d h = absurd (omega arith)
  from_at f k (suc n) zero d h = rw add-zero
  from_at f k (suc n) (suc i) d h =
      let e : suc k + i ≡ k + suc i = omega arith in
      from_at f (suc k) n i d (omega arith) ∙ ap f e

  from-same : (f g : ℕ → A) (k n : ℕ) → ((i : ℕ) → i < k + n → f i ≡ g i) → from_to f k n ≡ from_to g k n
  unfolding from_to
  from-same f g k zero h = refl
  from-same f g k (suc n) h =
      ap₂ (λ (x : A) (l : List A). x ∷ l) (h k (omega arith)) (from-same f g (suc k) n (λ i l. h i (omega arith)))

  pub up_to-length : (f : ℕ → A) (n : ℕ) → length (up_to f n) ≡ n
  unfolding up_to
  up_to-length f n = from-length f 0 n

  pub up_to-at : (f : ℕ → A) (n i : ℕ) (d : A) → i < n → slice_index_or (up_to f n) i d ≡ f i
  unfolding up_to
  up_to-at f n i d h = from_at f 0 n i d h ∙ ap f (zero-add i)

  pub up_to-same : (f g : ℕ → A) (n : ℕ) → ((i : ℕ) → i < n → f i ≡ g i) → up_to f n ≡ up_to g n
  unfolding up_to
  up_to-same f g n h = from-same f g 0 n (λ i l. h i (omega arith))

-- ---- the element of each taxon

module _ (s : List ℕ) where
  pub names-length : length (names_at s) ≡ (numbers_at s).taxa
  unfolding names_at numbers_at
  names-length = up_to-length (name_at s) (number 2 s 0)

  pub first-length : length (first_at s) ≡ (numbers_at s).taxa
  unfolding first_at numbers_at
  first-length = up_to-length (λ i. number 2 s (2128 + 2 * i)) (number 2 s 0)

  pub second-length : length (second_at s) ≡ (numbers_at s).taxa
  unfolding second_at numbers_at
  second-length = up_to-length (λ i. number 8 s (2256 + 8 * i)) (number 2 s 0)

  pub names-at : (i : ℕ) → i < (numbers_at s).taxa → slice_index_or (names_at s) i [] ≡ name_at s i
  unfolding names_at numbers_at
  names-at i h = up_to-at (name_at s) (number 2 s 0) i [] h

  pub first-at : (i : ℕ) → i < (numbers_at s).taxa → slice_index (first_at s) i ≡ number 2 s (2128 + 2 * i)
  unfolding first_at numbers_at
  first-at i h = up_to-at (λ j. number 2 s (2128 + 2 * j)) (number 2 s 0) i 0 h

  pub second_at_lem : (i : ℕ) → i < (numbers_at s).taxa → slice_index (second_at s) i ≡ number 8 s (2256 + 8 * i)
  unfolding second_at numbers_at
  second_at_lem i h = up_to-at (λ j. number 8 s (2256 + 8 * j)) (number 2 s 0) i 0 h

-- ---- a name, as the code reads it

pub run-slice : (b n : ℕ) (s : List ℕ) → take n (drop b s) ≡ slice b (b + n) s
run-slice zero n s = rw zero-add
run-slice (suc b) n [] = rw (take-nil, take-nil, drop-nil)
run-slice (suc b) n (x ∷ s) = rw suc-add (run-slice b n s)

pub name-slice : (s : List ℕ) (i : ℕ) → name_at s i ≡ slice (17 + 33 * i) (17 + 33 * i + slice_index s (16 + 33 * i)) s
unfolding name_at
name-slice s i = run-slice (17 + 33 * i) (slice_index s (16 + 33 * i)) s

pub name-most : (s : List ℕ) (i : ℕ) → length (name_at s i) ≤ slice_index s (16 + 33 * i)
unfolding name_at
name-most s i = rw length-take (omega arith)

-- ---- what the opening depends on

run-same : (s t : List ℕ) (b n : ℕ) → b + n ≤ length s → b + n ≤ length t → ((i : ℕ) → i < b + n → slice_index s i ≡ slice_index t i)
    → take n (drop b s) ≡ take n (drop b t)
run-same s t b n f g h =
    let p = length-drop b s in
    let q = length-drop b t in
    let u : length (take n (drop b s)) ≡ n = length-take-le n (drop b s) (omega arith) in
    let v : length (take n (drop b t)) ≡ n = length-take-le n (drop b t) (omega arith) in
    ext_get_or 0 _ _ (u ∙ sym v) (λ i l.
    let k : i < n = omega arith in
    rw (get_or-take, get_or-take, get_or-drop, get_or-drop) (h (b + i) (omega arith)))

-- with at most 64 taxa, and bytes below 256, so that a name of any length ends inside
module _ (s t : List ℕ) (h : (i : ℕ) → i < head_bytes → slice_index s i ≡ slice_index t i) where
  fields-same : (k a : ℕ) → a + k ≤ head_bytes → number k s a ≡ number k t a
  fields-same k a l = number_same k s t a a (λ i m. h (a + i) (omega arith))

  pub numbers-same : numbers_at s ≡ numbers_at t
  unfolding numbers_at
  numbers-same =
      rw (
        fields-same 2 0 (omega arith),
        fields-same 2 2 (omega arith),
        fields-same 2 4 (omega arith),
        fields-same 2 6 (omega arith),
        fields-same 2 8 (omega arith),
        fields-same 2 14 (omega arith),
      )

  module _ (f : head_bytes ≤ length s) (g : head_bytes ≤ length t) (bytes : (i : ℕ) → slice_index s i < 256) where
    pub name-same : (i : ℕ) → i < 64 → name_at s i ≡ name_at t i
    unfolding name_at
    name-same i l =
        let b = bytes (16 + 33 * i) in
        rw (← h (16 + 33 * i) (omega arith))
        (run-same s t (17 + 33 * i) (slice_index s (16 + 33 * i)) (omega arith) (omega arith) (λ j m. h j (omega arith)))

    module _ (few : (numbers_at s).taxa ≤ 64) where
      count_same : number 2 s 0 ≡ number 2 t 0
      count_same = fields-same 2 0 (omega arith)

      pub names_same : names_at s ≡ names_at t
      unfolding names_at numbers_at
      names_same =
          rw (← count_same)
          (up_to-same (name_at s) (name_at t) (number 2 s 0) (λ i l. name-same i (omega arith)))

      pub first-same : first_at s ≡ first_at t
      unfolding first_at numbers_at
      first-same =
          rw (← count_same)
          (up_to-same _ (λ i. number 2 t (2128 + 2 * i)) (number 2 s 0) (λ i l. fields-same 2 (2128 + 2 * i) (omega arith)))

      pub second-same : second_at s ≡ second_at t
      unfolding second_at numbers_at
      second-same =
          rw (← count_same)
          (up_to-same _ (λ i. number 8 t (2256 + 8 * i)) (number 2 s 0) (λ i l. fields-same 8 (2256 + 8 * i) (omega arith)))

      pub head-same : opening_at s ≡ opening_at t
      unfolding opening_at
      head-same = rw (numbers-same, names_same, first-same, second-same)
