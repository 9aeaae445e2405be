-- The laws of words: 8 bytes read as one number. Assumes nothing.
--
--   shift-some                                a number of whole bytes fits a word
--   word-inside, word-lowest, word_copied     the words of a run of bytes, as the code reads them
--   key-short, key-long                       a key, from its words
--   runs-short                                short runs are compared by one word
--   runs_other, runs-more, runs_last          long runs a word at a time, the last from their end
use Rattle.std.specs.Prelude.{◌≡◌, ℕ, zero, suc, ◌+◌, ◌-◌, ◌*◌, ◌/◌, ◌%◌, ◌^◌, ◌<◌, ◌≤◌, true, false, List, length, replicate, ◌==◌, ◌≢◌, slice_index, refl}
use Rattle.std.proofs.Common.{zero-add, pow-suc, one-mul, sym, ap, ◌∙◌, inr, ⊎_elim, pow_pos, pow-add, shl_exact, get_or-take, get_or-drop, ext_get_or, eq-eqb, ne_eqb}
use native.Mathlib.Omega.{arith}
use Rattle.std.proofs.lemmas.List.{get_or-replicate}
use Rattle.std.proofs.Math.ListN.{get_or-eq_default}
use Rattle.std.proofs.Math.Seq.{slice, length-slice}
use Rattle.trees.specs.Plain.{same_bytes}
use Rattle.fields.specs.Field.{number}
use Rattle.fields.specs.FieldLaws.{number_same, number-zero, number-parts, number-lowest, number-bytes}
use Rattle.fields.specs.Run.{copied}
use Rattle.fields.specs.RunLaws.{copied-inside, copied-outside}
use Rattle.theorems.specs.ListLaws.{less-or-not, equal_or_not}
use Rattle.theorems.specs.NameLaws.{same_self}
use Rattle.head.specs.Index.{key}
use Rattle.head.specs.IndexLaws.{same_not}

-- ---- a one, n bytes up

power_bytes : (n : ℕ) → 2 ^ (8 * n) ≡ 256 ^ n
power_bytes zero = refl
power_bytes (suc n) =
    let p : 8 * suc n ≡ 8 * n + 8 = omega arith in
    rw (p, pow-add 2 (8 * n) 8, power_bytes n, pow-suc 256 n)

shift-exact : (n : ℕ) → n < 8 → 1 * 2 ^ (8 * n) % 2 ^ 64 ≡ 2 ^ (8 * n)
shift-exact n h = shl_exact 1 (8 * n) 64 (omega arith) (omega arith) ∙ one-mul (2 ^ (8 * n))

pub shift-some : (n : ℕ) → n < 8 → 0 < 1 * 2 ^ (8 * n) % 2 ^ 64
shift-some n h = rw (shift-exact n h) (pow_pos (8 * n))

-- ---- the words of a run

module _ (s : List ℕ) (b e : ℕ) where
  slice_at : (i : ℕ) → b + i < e → slice_index (slice b e s) i ≡ slice_index s (b + i)
  slice_at i h = rw (get_or-drop, get_or-take)

  pub word-inside : (j : ℕ) → b + j + 8 ≤ e → number 8 (slice b e s) j ≡ number 8 s (b + j)
  word-inside j h =
      number_same 8 (slice b e s) s j (b + j) (λ i l.
      let p : b + (j + i) ≡ b + j + i = omega arith in
      slice_at (j + i) (omega arith) ∙ rw p)

  module _ (f : e ≤ length s) where
    slice-past : (i : ℕ) → e - b ≤ i → slice_index (slice b e s) i ≡ 0
    slice-past i h = let l = length-slice b e s f in get_or-eq_default (slice b e s) 0 (omega arith)

    slice-below : ((i : ℕ) → slice_index s i < 256) → (i : ℕ) → slice_index (slice b e s) i < 256
    slice-below h i =
        ⊎_elim
        (λ (l : b + i < e). rw (slice_at i l) (h (b + i)))
        (λ (l : e ≤ b + i). rw (slice-past i (omega arith)) (omega arith))
        (less-or-not (b + i) e)

    -- a run of n bytes and 8 - n zeros behind them
    word-short : (n : ℕ) → b + n ≡ e → n ≤ 8 → number 8 (slice b e s) 0 ≡ number n s b
    word-short n h l =
        let p : 8 ≡ n + (8 - n) = omega arith in
        let q : number n (slice b e s) 0 ≡ number n s b = number_same n (slice b e s) s 0 b (λ i m. rw zero-add (slice_at i (omega arith))) in
        let z : number (8 - n) (slice b e s) (0 + n) ≡ 0 =
        number-zero (8 - n) (slice b e s) (0 + n) (λ i m. slice-past (0 + n + i) (omega arith)) in
        ap (λ k. number k (slice b e s) 0) p ∙ number-parts n (8 - n) (slice b e s) 0 ∙ rw (q, z) (omega arith)

    pub word-lowest : (n : ℕ) → b + n ≡ e → n < 8 → ((i : ℕ) → slice_index s i < 256)
        → number 8 s b % (1 * 2 ^ (8 * n) % 2 ^ 64) ≡ number 8 (slice b e s) 0
    word-lowest n h l k =
        let p : 1 * 2 ^ (8 * n) % 2 ^ 64 ≡ 256 ^ n = shift-exact n l ∙ power_bytes n in
        let q : 8 ≡ n + (8 - n) = omega arith in
        rw p (ap (λ j. number j s b % 256 ^ n) q ∙ number-lowest n (8 - n) s b k ∙ sym (word-short n h (omega arith)))

    pub word_copied : (n : ℕ) → b + n ≡ e → n ≤ 8 → number 8 (copied (replicate 8 0) 0 s b n) 0 ≡ number 8 (slice b e s) 0
    word_copied n h l =
        number_same 8 (copied (replicate 8 0) 0 s b n) (slice b e s) 0 0 (λ i m. rw zero-add (⊎_elim (λ (o : i < n). inside i o) (λ (o : n ≤ i). outside i m o) (less-or-not i n)))
      where
        inside : (i : ℕ) → i < n → slice_index (copied (replicate 8 0) 0 s b n) i ≡ slice_index (slice b e s) i
        inside i o = copied-inside (replicate 8 0) 0 s b n i (b + i) (omega arith) (omega arith) (omega arith) (omega arith) (omega arith) ∙ sym (slice_at i (omega arith))

        outside : (i : ℕ) → i < 8 → n ≤ i → slice_index (copied (replicate 8 0) 0 s b n) i ≡ slice_index (slice b e s) i
        outside i m o = copied-outside (replicate 8 0) 0 s b n i (inr (omega arith)) ∙ get_or-replicate 8 i 0 0 m ∙ sym (slice-past i (omega arith))

    -- ---- the key

    pub key-short : e - b ≤ 8
        → (number 8 (slice b e s) 0 + number 8 (slice b e s) 0 + number 8 (slice b e s) 0) % 2 ^ 64 % 113 ≡ key (slice b e s)
    unfolding key
    key-short h =
        let l = length-slice b e s f in
        let y : length (slice b e s) / 2 - 4 ≡ 0 = omega arith in
        let z : length (slice b e s) - 8 ≡ 0 = omega arith in
        rw (y, z)

    pub key-long : 8 < e - b
        → (number 8 (slice b e s) 0 + number 8 s (b + ((e - b) / 2 - 4)) + number 8 s (e - 8)) % 2 ^ 64 % 113 ≡ key (slice b e s)
    unfolding key
    key-long h =
        let l = length-slice b e s f in
        let p : b + (length (slice b e s) - 8) ≡ e - 8 = omega arith in
        let q : number 8 (slice b e s) (length (slice b e s) / 2 - 4) ≡ number 8 s (b + ((e - b) / 2 - 4)) =
        rw l (word-inside ((e - b) / 2 - 4) (omega arith)) in
        rw (q, word-inside (length (slice b e s) - 8) (omega arith), p)

-- ---- runs compared

short-same : (v w : List ℕ) → length v ≡ length w → length v ≤ 8 → ((i : ℕ) → slice_index v i < 256) → ((i : ℕ) → slice_index w i < 256)
    → (number 8 v 0 == number 8 w 0) ≡ same_bytes v w
short-same v w l h f g = ⊎_elim equal differ (equal_or_not (number 8 v 0) (number 8 w 0))
  where
    equal : number 8 v 0 ≡ number 8 w 0 → (number 8 v 0 == number 8 w 0) ≡ same_bytes v w
    equal q =
        let p : v ≡ w = ext_get_or 0 v w l (λ i m. rw zero-add at (number-bytes 8 v w 0 0 f g q i (omega arith))) in
        eq-eqb _ _ q ∙ sym (ap (λ u. same_bytes v u) (sym p) ∙ same_self v)

    differ : (number 8 v 0 ≢ number 8 w 0) → (number 8 v 0 == number 8 w 0) ≡ same_bytes v w
    differ q = ne_eqb _ _ q ∙ sym (same_not v w (λ e. q (ap (λ u. number 8 u 0) e)))

-- the bytes of s from a up to n are those of t from b on
abbrev pub SameUpTo : List ℕ → List ℕ → ℕ → ℕ → ℕ → Type 0
SameUpTo s t a b n = (k : ℕ) → a + k < n → slice_index s (a + k) ≡ slice_index t (b + k)

-- two runs of as many bytes
module _ (s t : List ℕ) (a z b e : ℕ) (h : a ≤ z) (f : z ≤ length s) (g : e ≤ length t) (d : b + z ≡ e + a) where
  runs_same : SameUpTo s t a b z → same_bytes (slice a z s) (slice b e t) ≡ true
  runs_same q =
      let l = length-slice a z s f in
      let m = length-slice b e t g in
      let p : slice a z s ≡ slice b e t =
      ext_get_or 0 (slice a z s) (slice b e t) (omega arith) (λ i o. slice_at s a z i (omega arith) ∙ q i (omega arith) ∙ sym (slice_at t b e i (omega arith))) in
      ap (λ u. same_bytes (slice a z s) u) (sym p) ∙ same_self (slice a z s)

  -- a word that differs, i and j being places of the two runs that match
  pub runs_other : (i j : ℕ) → a ≤ i → i + 8 ≤ z → j + a ≡ b + i → (number 8 s i ≢ number 8 t j)
      → same_bytes (slice a z s) (slice b e t) ≡ false
  runs_other i j l m p q =
      let u : a + (i - a) ≡ i = omega arith in
      let v : b + (i - a) ≡ j = omega arith in
      same_not (slice a z s) (slice b e t) (λ r.
      let x : number 8 (slice a z s) (i - a) ≡ number 8 s i = word-inside s a z (i - a) (omega arith) ∙ rw u in
      let y : number 8 (slice b e t) (i - a) ≡ number 8 t j = word-inside t b e (i - a) (omega arith) ∙ rw v in
      q (sym x ∙ ap (λ w. number 8 w (i - a)) r ∙ y))

  module _ (bs : (i : ℕ) → slice_index s i < 256) (bt : (i : ℕ) → slice_index t i < 256) where
    -- a word that is the same
    pub runs-more : (i j n : ℕ) → SameUpTo s t a b n → a ≤ i → i ≤ n → j + a ≡ b + i → number 8 s i ≡ number 8 t j → SameUpTo s t a b (i + 8)
    runs-more i j n q l m p w k o = ⊎_elim (λ (r : a + k < n). q k r) (λ (r : n ≤ a + k). word r) (less-or-not (a + k) n)
      where
        word : n ≤ a + k → slice_index s (a + k) ≡ slice_index t (b + k)
        word r =
            let u : i + (a + k - i) ≡ a + k = omega arith in
            let v : j + (a + k - i) ≡ b + k = omega arith in
            rw (u, v) at (number-bytes 8 s t i j bs bt w (a + k - i) (omega arith))

    -- the last word, from the end
    pub runs_last : (i n : ℕ) → SameUpTo s t a b n → i + 8 ≡ z → a ≤ i → i ≤ n
        → (number 8 s i == number 8 t (e - 8)) ≡ same_bytes (slice a z s) (slice b e t)
    runs_last i n q l m o = ⊎_elim equal differ (equal_or_not (number 8 s i) (number 8 t (e - 8)))
      where
        equal : number 8 s i ≡ number 8 t (e - 8) → (number 8 s i == number 8 t (e - 8)) ≡ same_bytes (slice a z s) (slice b e t)
        equal w = eq-eqb _ _ w ∙ sym (runs_same (rw l at (runs-more i (e - 8) n q m o (omega arith) w)))

        differ : (number 8 s i ≢ number 8 t (e - 8)) → (number 8 s i == number 8 t (e - 8)) ≡ same_bytes (slice a z s) (slice b e t)
        differ w = ne_eqb _ _ w ∙ sym (runs_other i (e - 8) m (omega arith) (omega arith) w)

    -- runs that are short
    pub runs-short : z - a ≤ 8 → (number 8 (slice a z s) 0 == number 8 (slice b e t) 0) ≡ same_bytes (slice a z s) (slice b e t)
    runs-short l =
        let m = length-slice a z s f in
        let n = length-slice b e t g in
        short-same (slice a z s) (slice b e t) (omega arith) (omega arith) (slice-below s a z f bs) (slice-below t b e g bt)
