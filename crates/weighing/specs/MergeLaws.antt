-- One step of the walk over the masks of two trees.
--
--   from t av xs bv ys      the weighted distance of what is left, added to t
--   from-none               nothing is left
--   from_first, from_second, from-both     the smallest mask stands in the first list, in the second, in both
use Rattle.std.specs.Prelude.{ℕ, ◌<◌, ◌≡◌, refl, Float}
use Rattle.std.proofs.Common.{arith, ◌∙◌, inl, inr, lt-ltb, le-ltb, eq-eqb, ne_eqb}
use Rattle.std.proofs.Math.Path.{ap, ap₂}
use Rattle.std.proofs.Math.Logic.{⊎_elim}
use mathlib.Core.List.{List, [], ◌∷◌, map}
use Rattle.std.specs.Float.{binary64}
use Rattle.std.specs.Float.Ieee.{add}
use Rattle.trees.specs.Splits.{insert}
use Rattle.trees.specs.Consensus.{insert_all, recorded}
use Rattle.trees.specs.Sums.{plus_zero, added}
use Rattle.trees.specs.Weighted.{either, length_in, gap, gap_at, weighted}
use Rattle.theorems.specs.ListLaws.{Mem}
use Rattle.theorems.specs.RisingLaws.{Above, insert_all-mem}
use Rattle.theorems.specs.WeightedLaws.{added-same}

-- ---- the masks of either list

insert-front : (m : ℕ) (l : List ℕ) → Above m l → insert m l ≡ m ∷ l
unfolding insert
insert-front m [] h = refl
insert-front m (x ∷ l) h = rw (lt-ltb m x (h x (inl refl)))

insert-behind : (m x : ℕ) (l : List ℕ) → x < m → insert m (x ∷ l) ≡ x ∷ insert m l
unfolding insert
insert-behind m x l h = rw (le-ltb m x (omega arith), ne_eqb m x (λ e. omega arith))

insert-same : (m : ℕ) (l : List ℕ) → insert m (m ∷ l) ≡ m ∷ l
unfolding insert
insert-same m l = rw (le-ltb m m (omega arith), eq-eqb m m refl)

module _ (m : ℕ) (b : List ℕ) (k : Above m b) where
  own-above : Above m (insert_all b [])
  own-above y h = ⊎_elim (k y) (λ q. absurd q) (insert_all-mem b [] y h)

  either-above : (a : List ℕ) → Above m a → Above m (either a b)
  unfolding either recorded
  either-above a h y q = ⊎_elim (h y) (own-above y) (insert_all-mem a (insert_all b []) y q)

  either_first : (a : List ℕ) → Above m a → either (m ∷ a) b ≡ m ∷ either a b
  unfolding either recorded insert_all
  either_first a h = insert-front m (either a b) (either-above a h)

  either_second : (a : List ℕ) → Above m a → either a (m ∷ b) ≡ m ∷ either a b
  unfolding either recorded insert_all
  either_second [] h = insert-front m (insert_all b []) own-above
  either_second (x ∷ a) h = ap (insert x) (either_second a (λ y q. h y (inr q))) ∙ insert-behind x m (either a b) (h x (inl refl))

  either-both : (a : List ℕ) → Above m a → either (m ∷ a) (m ∷ b) ≡ m ∷ either a b
  unfolding either recorded insert_all
  either-both a h = ap (insert m) (either_second a h) ∙ insert-same m (either a b)

-- ---- the length of a split

length-first : (m : ℕ) (av : List ℕ) (x : Float) (xs : List Float) → length_in m (m ∷ av) (x ∷ xs) ≡ x
unfolding length_in
length-first m av x xs = rw (eq-eqb m m refl)

length-other : (k m : ℕ) (av : List ℕ) (x : Float) (xs : List Float) → (k ≡ m → ⊥) → length_in k (m ∷ av) (x ∷ xs) ≡ length_in k av xs
unfolding length_in
length-other k m av x xs h = rw (ne_eqb k m h)

length-lacking : (m : ℕ) (av : List ℕ) (xs : List Float) → Above m av → length_in m av xs ≡ plus_zero
unfolding length_in
length-lacking m [] xs h = refl
length-lacking m (a ∷ av) [] h = refl
length-lacking m (a ∷ av) (x ∷ xs) h = length-other m a av x xs (λ e. omega (arith, h a (inl refl))) ∙ length-lacking m av xs (λ y q. h y (inr q))

-- ---- one step

abbrev pub from : Float → List ℕ → List Float → List ℕ → List Float → Float
from t av xs bv ys = added t (map (gap_at av xs bv ys) (either av bv))

pub from_all : (av : List ℕ) (xs : List Float) (bv : List ℕ) (ys : List Float) → from plus_zero av xs bv ys ≡ weighted av xs bv ys
unfolding weighted
from_all av xs bv ys = refl

pub from-none : (t : Float) (xs ys : List Float) → from t [] xs [] ys ≡ t
unfolding either recorded insert_all added
from-none t xs ys = refl

step : (t : Float) (f g : ℕ → Float) (m : ℕ) (ms ns : List ℕ) → ms ≡ m ∷ ns → ((k : ℕ) → Mem k ns → f k ≡ g k) → added t (map f ms) ≡ added (add binary64 t (f m)) (map g ns)
unfolding added
step t f g m ms ns e h = ap (λ (l : List ℕ). added t (map f l)) e ∙ added-same (add binary64 t (f m)) f g ns h

module _ (t : Float) (m : ℕ) (av : List ℕ) (xs : List Float) (bv : List ℕ) (ys : List Float) (h : Above m av) (q : Above m bv) where
  later : (k : ℕ) → Mem k (either av bv) → k ≡ m → ⊥
  later k r e = omega (arith, either-above m bv q av h k r)

  pub from_first : (x : Float) → from t (m ∷ av) (x ∷ xs) bv ys ≡ from (add binary64 t (gap x plus_zero)) av xs bv ys
  unfolding gap_at
  from_first x =
      step t (gap_at (m ∷ av) (x ∷ xs) bv ys) (gap_at av xs bv ys) m (either (m ∷ av) bv) (either av bv) (either_first m bv q av h) (λ k r. ap (λ (z : Float). gap z (length_in k bv ys)) (length-other k m av x xs (later k r)))
      ∙ rw (length-first m av x xs, length-lacking m bv ys q)

  pub from_second : (y : Float) → from t av xs (m ∷ bv) (y ∷ ys) ≡ from (add binary64 t (gap plus_zero y)) av xs bv ys
  unfolding gap_at
  from_second y =
      step t (gap_at av xs (m ∷ bv) (y ∷ ys)) (gap_at av xs bv ys) m (either av (m ∷ bv)) (either av bv) (either_second m bv q av h) (λ k r. ap (gap (length_in k av xs)) (length-other k m bv y ys (later k r)))
      ∙ rw (length-first m bv y ys, length-lacking m av xs h)

  pub from-both : (x y : Float) → from t (m ∷ av) (x ∷ xs) (m ∷ bv) (y ∷ ys) ≡ from (add binary64 t (gap x y)) av xs bv ys
  unfolding gap_at
  from-both x y =
      step t (gap_at (m ∷ av) (x ∷ xs) (m ∷ bv) (y ∷ ys)) (gap_at av xs bv ys) m (either (m ∷ av) (m ∷ bv)) (either av bv) (either-both m bv q av h) (λ k r. ap₂ gap (length-other k m av x xs (later k r)) (length-other k m bv y ys (later k r)))
      ∙ rw (length-first m av x xs, length-first m bv y ys)
