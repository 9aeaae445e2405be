-- Laws of the weighted distance of trees whose lengths are finite and not minus zero.
--
--   weighted-plus     it is plus zero or above it: no NaN, and an infinity only where a sum is too large for a double
--   weighted-sym      it is the same both ways round
--   weighted-self     it is plus zero for a tree and itself: the same masks and the same lengths
use Rattle.std.specs.Prelude.{ℕ, ◌≡◌, true, eqb, Float}
use Rattle.std.proofs.Math.Path.{refl, ap}
use Rattle.std.proofs.Common.{◌∙◌, inl, inr}
use mathlib.Core.List.{List, [], ◌∷◌, map}
use Rattle.std.specs.Float.{binary64}
use Rattle.std.specs.Float.Ieee.{add}
use Rattle.trees.specs.Plain.{every}
use Rattle.trees.specs.Value.{proper}
use Rattle.trees.specs.Sums.{plus_zero, added}
use Rattle.trees.specs.Weighted.{either, length_in, gap_at, weighted}
use Rattle.theorems.specs.ListLaws.{by-test, and_left, and_right, Mem}
use Rattle.theorems.specs.RisingLaws.{recorded-rising, recorded-mem, mem-recorded, rising-same}
use Rattle.theorems.specs.Size.{plus}
use Rattle.theorems.specs.SizeLaws.{add-plus}
use Rattle.theorems.specs.GapLaws.{gap-plus, gap-sym, gap-self}

pub length_in-proper : (m : ℕ) (av : List ℕ) (xs : List Float) → every proper xs ≡ true → proper (length_in m av xs) ≡ true
unfolding length_in every
length_in-proper m [] xs h = unfold proper in refl
length_in-proper m (a ∷ av) [] h = unfold proper in refl
length_in-proper m (a ∷ av) (x ∷ xs) h =
    by-test (λ (z : Float). proper z ≡ true) (eqb m a) (λ e. and_left (proper x) (every proper xs) h) (λ e. length_in-proper m av xs (and_right (proper x) (every proper xs) h))

-- ---- sums of gaps

added-plus : (t : Float) (f : ℕ → Float) (ms : List ℕ) → plus t ≡ true → ((m : ℕ) → plus (f m) ≡ true) → plus (added t (map f ms)) ≡ true
unfolding added
added-plus t f [] h k = h
added-plus t f (m ∷ ms) h k = added-plus (add binary64 t (f m)) f ms (add-plus t (f m) h (k m)) k

pub added-same : (t : Float) (f g : ℕ → Float) (ms : List ℕ) → ((m : ℕ) → Mem m ms → f m ≡ g m) → added t (map f ms) ≡ added t (map g ms)
unfolding added
added-same t f g [] h = refl
added-same t f g (m ∷ ms) h =
    ap (λ (x : Float). added (add binary64 t x) (map f ms)) (h m (inl refl)) ∙ added-same (add binary64 t (g m)) f g ms (λ k q. h k (inr q))

added-zeros : (f : ℕ → Float) (ms : List ℕ) → ((m : ℕ) → f m ≡ plus_zero) → added plus_zero (map f ms) ≡ plus_zero
unfolding added
added-zeros f [] h = refl
added-zeros f (m ∷ ms) h = ap (λ (x : Float). added (add binary64 plus_zero x) (map f ms)) (h m) ∙ added-zeros f ms h

-- ---- the masks of either tree

either-within : (av bv : List ℕ) (m : ℕ) → Mem m (either av bv) → Mem m (either bv av)
unfolding either
either-within av bv m h = let r = recorded-mem (av ∷ bv ∷ []) m h in mem-recorded (bv ∷ av ∷ []) r.0 m (other r.0 r.1) r.2
  where
    other : (t : List ℕ) → Mem t (av ∷ bv ∷ []) → Mem t (bv ∷ av ∷ [])
    other t (inr (inr x'')) = elim x'' [ ]
    other t (inl e) = inr (inl e)
    other t (inr (inl e)) = inl e

pub either-sym : (av bv : List ℕ) → either av bv ≡ either bv av
either-sym av bv = rising-same (either av bv) (either bv av) (unfold either in recorded-rising (av ∷ bv ∷ [])) (unfold either in recorded-rising (bv ∷ av ∷ [])) (either-within av bv) (either-within bv av)

-- ---- the theorems

module _ (av : List ℕ) (xs : List Float) (p : every proper xs ≡ true) where
  pub weighted-self : weighted av xs av xs ≡ plus_zero
  unfolding weighted gap_at
  weighted-self = added-zeros (gap_at av xs av xs) (either av av) (λ m. gap-self (length_in m av xs) (length_in-proper m av xs p))

  module _ (bv : List ℕ) (ys : List Float) (q : every proper ys ≡ true) where
    pub weighted-plus : plus (weighted av xs bv ys) ≡ true
    unfolding weighted gap_at
    weighted-plus =
        added-plus plus_zero (gap_at av xs bv ys) (either av bv) (unfold plus in refl) (λ m. gap-plus (length_in m av xs) (length_in m bv ys) (length_in-proper m av xs p) (length_in-proper m bv ys q))

    pub weighted-sym : weighted av xs bv ys ≡ weighted bv ys av xs
    unfolding weighted gap_at
    weighted-sym =
        added-same plus_zero (gap_at av xs bv ys) (gap_at bv ys av xs) (either av bv) (λ m h. gap-sym (length_in m av xs) (length_in m bv ys) (length_in-proper m av xs p) (length_in-proper m bv ys q))
        ∙ ap (λ (ms : List ℕ). added plus_zero (map (gap_at bv ys av xs) ms)) (either-sym av bv)
