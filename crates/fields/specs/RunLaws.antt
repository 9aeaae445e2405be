-- The laws of `copied` and `cleared`, and what a number is after them. Assumes nothing.
use Rattle.std.specs.Prelude.{◌≡◌, refl, ◌⊎◌, List, [], ◌∷◌, ◌++◌, get_or, set, take, drop}
use Rattle.std.proofs.Common.{ap, zero-add, take_all, ◌∙◌, inl, inr, add-zero, length-set, length-take-le, get_or-set_same, get_or-set_other, get_or-take, get_or-drop}
use Prim.Native.Nat.{ℕ, zero, suc, ◌+◌, ◌-◌, ◌≤◌, ◌<◌}
use Rattle.std.proofs.Math.Numerals.{add-one}
use native.Mathlib.Omega.{arith}
use Rattle.std.proofs.Math.ListN.{length, replicate, length-take, length-drop, get_or-replicate, replicate-append-replicate}
use Rattle.std.proofs.lemmas.List.{length-replicate, set_comm}
use Rattle.std.proofs.lemmas.List.Edits.{sets, sets-eq}
use Rattle.std.proofs.Math.Seq.{length-sets, take-suc, drop-cons}
use Rattle.fields.specs.Field.{number}
use Rattle.fields.specs.FieldLaws.{number_same, number-zero}
use Rattle.fields.specs.Run.{copied, cleared}

-- ---- a list of bytes stored one after another

-- a byte before or behind is kept
sets-outside : (vs s : List ℕ) (at i : ℕ) → (i < at) ⊎ (at + length vs ≤ i) → get_or (sets s at vs) i 0 ≡ get_or s i 0
sets-outside [] s at i h = refl
sets-outside (v ∷ vs) s at i (inl h) =
    sets-outside vs (set s at v) (suc at) i (inl (omega arith)) ∙ get_or-set_other s at i v 0 (λ e. omega arith)
sets-outside (v ∷ vs) s at i (inr h) =
    sets-outside vs (set s at v) (suc at) i (inr (omega arith)) ∙ get_or-set_other s at i v 0 (λ e. omega arith)

-- byte i from at on is byte i of those stored
sets-inside : (vs s : List ℕ) (at i : ℕ) → at + length vs ≤ length s → i < length vs
    → get_or (sets s at vs) (at + i) 0 ≡ get_or vs i 0
sets-inside [] s at i f h = absurd (omega arith)
sets-inside (v ∷ vs) s at zero f h =
    rw add-zero (sets-outside vs (set s at v) (suc at) at (inl (omega arith)) ∙ get_or-set_same s at v 0 (omega arith))
sets-inside (v ∷ vs) s at (suc i) f h =
    let n = length-set s at v in
    let e : at + suc i ≡ suc at + i = omega arith in
    rw e (sets-inside vs (set s at v) (suc at) i (omega arith) (omega arith))

-- one byte more at the end
sets_end : (vs s : List ℕ) (at v : ℕ) → sets s at (vs ++ (v ∷ [])) ≡ set (sets s at vs) (at + length vs) v
sets_end [] s at v = rw add-zero
sets_end (w ∷ vs) s at v =
    let e : suc at + length vs ≡ at + suc (length vs) = omega arith in
    sets_end vs (set s at w) (suc at) v ∙ rw e

-- one byte more at the front
sets-front : (vs s : List ℕ) (at j v : ℕ) → j < at → set (sets s at vs) j v ≡ sets (set s j v) at vs
sets-front [] s at j v h = refl
sets-front (w ∷ vs) s at j v h =
    sets-front vs (set s at w) (suc at) j v (omega arith)
    ∙ ap (λ (l : List ℕ). sets l (suc at) vs) (set_comm s at j w v (λ e. omega arith))

-- ---- a run that is copied

-- the bytes that are copied number n
pub run_length : (t : List ℕ) (from n : ℕ) → from + n ≤ length t → length (take n (drop from t)) ≡ n
run_length t from n h = let e = length-drop from t in length-take-le n (drop from t) (omega arith)

module _ (s : List ℕ) (to : ℕ) (t : List ℕ) (from n : ℕ) where
  -- the length is kept
  pub copied-length : length (copied s to t from n) ≡ length s
  unfolding copied
  copied-length = length-sets s to (take n (drop from t))

  -- byte i of the run is the source's byte j, where i lies as far behind `to` as j behind `from`
  pub copied-inside : (i j : ℕ) → to + n ≤ length s → from + n ≤ length t → to ≤ i → i < to + n → i + from ≡ j + to
      → get_or (copied s to t from n) i 0 ≡ get_or t j 0
  unfolding copied
  copied-inside i j f g a b d =
      let l = run_length t from n g in
      let p : i ≡ to + (i - to) = omega arith in
      let q : j ≡ from + (i - to) = omega arith in
      let h : i - to < n = omega arith in
      rw (p, q) (sets-inside (take n (drop from t)) s to (i - to) (omega arith) (omega arith) ∙ rw (get_or-take, get_or-drop))

  -- a byte before or behind the run is kept
  pub copied-outside : (i : ℕ) → (i < to) ⊎ (to + n ≤ i) → get_or (copied s to t from n) i 0 ≡ get_or s i 0
  unfolding copied
  copied-outside i (inl h) = sets-outside (take n (drop from t)) s to i (inl h)
  copied-outside i (inr h) =
      let e = length-take n (drop from t) in
      sets-outside (take n (drop from t)) s to i (inr (omega arith))

  -- ---- a copy as the loops make it

  -- one byte more at the end
  pub copied-end : {u : List ℕ} {v : ℕ} → u ≡ copied s to t from n → v ≡ get_or t (from + n) 0 → from + n < length t
      → set u (to + n) v ≡ copied s to t from (n + 1)
  unfolding copied
  copied-end {u} {v} p q h =
      let d = length-drop from t in
      let e = run_length t from n (omega arith) in
      let l : n < length (drop from t) = omega arith in
      rw (p, q, add-one, take-suc (drop from t) n 0, sets_end, e, get_or-drop)

  -- one byte more at the front
  pub copied-front : {u : List ℕ} {v : ℕ} → u ≡ copied s (to + 1) t (from + 1) n → v ≡ get_or t from 0 → from < length t
      → set u to v ≡ copied s to t from (n + 1)
  unfolding copied
  copied-front {u} {v} p q h =
      rw (p, q, add-one n, drop-cons t from 0, add-one to, add-one from)
      (sets-front (take n (drop (suc from) t)) s (suc to) to (get_or t from 0) (omega arith))

-- no byte
pub copied_none : (s : List ℕ) (to : ℕ) (t : List ℕ) (from : ℕ) → copied s to t from 0 ≡ s
unfolding copied
copied_none s to t from = refl

-- ---- a run that is cleared

module _ (s : List ℕ) (at n : ℕ) where
  -- the bytes that are put number n
  zeros-length : length {A = ℕ} (replicate n 0) ≡ n
  zeros-length = length-replicate n 0

  -- the length is kept
  pub cleared-length : length (cleared s at n) ≡ length s
  unfolding cleared
  cleared-length = length-sets s at (replicate n 0)

  -- a byte of the run is 0
  pub cleared-inside : (i : ℕ) → at + n ≤ length s → at ≤ i → i < at + n → get_or (cleared s at n) i 0 ≡ 0
  unfolding cleared
  cleared-inside i f a b =
      let l = zeros-length in
      let p : i ≡ at + (i - at) = omega arith in
      rw p (sets-inside (replicate n 0) s at (i - at) (omega arith) (omega arith) ∙ get_or-replicate n (i - at) 0 0 (omega arith))

  -- a byte before or behind the run is kept
  pub cleared-outside : (i : ℕ) → (i < at) ⊎ (at + n ≤ i) → get_or (cleared s at n) i 0 ≡ get_or s i 0
  unfolding cleared
  cleared-outside i h = sets-outside (replicate n 0) s at i (rw zeros-length h)

  -- ---- a number after the clearing

  -- a number inside the run is 0
  pub number-cleared-inside : (k a : ℕ) → at + n ≤ length s → at ≤ a → a + k ≤ at + n → number k (cleared s at n) a ≡ 0
  number-cleared-inside k a f g h =
      number-zero k _ a (λ i l. cleared-inside (a + i) f (omega arith) (omega arith))

  -- a number before or behind the run is kept
  pub number-cleared-outside : (k a : ℕ) → (a + k ≤ at) ⊎ (at + n ≤ a) → number k (cleared s at n) a ≡ number k s a
  number-cleared-outside k a (inl h) = number_same k _ _ a a (λ i l. cleared-outside (a + i) (inl (omega arith)))
  number-cleared-outside k a (inr h) = number_same k _ _ a a (λ i l. cleared-outside (a + i) (inr (omega arith)))

  -- ---- a clearing as the loop makes it

  -- one byte more at the end
  pub cleared-end : {u : List ℕ} → u ≡ cleared s at n → set u (at + n) 0 ≡ cleared s at (n + 1)
  unfolding cleared
  cleared-end {u} p =
      let o : ℕ = 0 in
      let z : replicate n o ++ (o ∷ []) ≡ replicate (n + 1) o = replicate-append-replicate n 1 0 in
      rw (p, ← z, sets_end, zeros-length)

-- no byte
pub cleared-none : (s : List ℕ) (at : ℕ) → cleared s at 0 ≡ s
unfolding cleared
cleared-none s at = refl

-- a whole list that is copied to the front
pub copied-whole : (out text after : List ℕ) → length text ≤ length out → after ≡ copied out 0 text 0 (length text) → after ≡ text ++ drop (length text) out
unfolding copied
copied-whole out text after h e = e ∙ rw (take_all (length text) text (omega arith)) (sets-eq text out 0 (omega arith) ∙ rw zero-add)
