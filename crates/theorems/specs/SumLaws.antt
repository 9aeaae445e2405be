-- Laws of the shortest, longest and summed length.
--
--   shortest-append, longest-append, added-append     lengths behind others
--   shortest-given        the shortest is one of the lengths
--   none-shorter          no length is below it
--   longest-given, none-longer     likewise the longest
--   sum_number            the sum is no NaN
use Rattle.std.specs.Prelude.{◌<◌, ◌≡◌, Bool, true, false, not, T, length, if◌then◌else◌}
use Rattle.std.proofs.Common.{arith, sym, inr}
use Rattle.std.proofs.Math.Path.{refl, subst}
use Rattle.std.proofs.Math.Logic.{inl}
use mathlib.Core.List.{List, [], ◌∷◌, ◌++◌}
use Rattle.std.specs.Float.Ieee.{Float, add, lt, is_nan}
use Rattle.std.specs.Float.{binary64}
use Rattle.std.specs.Float.Ieee.Scale.{finite}
use Rattle.trees.specs.Plain.{every}
use Rattle.trees.specs.Value.{proper}
use Rattle.trees.specs.Sums.{plus_zero, shortest, longest, added, sums}
use Rattle.theorems.specs.ListLaws.{by-test, and_left, and_right, Mem, every-at}
use Rattle.theorems.specs.SizeLaws.{add-number}
use Rattle.theorems.specs.OrderLaws.{lt_irrefl, lt-asym, lt-not-trans}
use Rattle.theorems.specs.GapLaws.{proper-finite}

-- ---- lengths behind others

pub shortest-append : (x : Float) (xs ys : List Float) → shortest x (xs ++ ys) ≡ shortest (shortest x xs) ys
unfolding shortest
shortest-append x [] ys = refl
shortest-append x (z ∷ xs) ys = shortest-append (if lt z x then z else x) xs ys

pub longest-append : (x : Float) (xs ys : List Float) → longest x (xs ++ ys) ≡ longest (longest x xs) ys
unfolding longest
longest-append x [] ys = refl
longest-append x (z ∷ xs) ys = longest-append (if lt x z then z else x) xs ys

pub added-append : (t : Float) (xs ys : List Float) → added t (xs ++ ys) ≡ added (added t xs) ys
unfolding added
added-append t [] ys = refl
added-append t (x ∷ xs) ys = added-append (add binary64 t x) xs ys

-- ---- the foremost of some lengths: the shortest, or the longest

pick-mem : (b : Bool) (x y z : Float) (ys : List Float) → Mem z ((if b then y else x) ∷ ys) → Mem z (x ∷ y ∷ ys)
pick-mem true x y z ys h = inr h
pick-mem false x y z ys (inl e) = inl e
pick-mem false x y z ys (inr h) = inr (inr h)

AllFinite : List Float → Type 0
AllFinite xs = (x : Float) → Mem x xs → T (finite x)

module _ (before : Float → Float → Bool) where
  -- the first one that no other comes before
  foremost : Float → List Float → Float
  foremost x [] = x
  foremost x (y ∷ ys) = foremost (if before y x then y else x) ys

  foremost-mem : (x : Float) (xs : List Float) → Mem (foremost x xs) (x ∷ xs)
  unfolding foremost
  foremost-mem x [] = inl refl
  foremost-mem x (y ∷ ys) = pick-mem (before y x) x y _ ys (foremost-mem (if before y x then y else x) ys)

  NoneBefore : Float → List Float → Type 0
  NoneBefore x ys = (y : Float) → Mem y ys → before y x ≡ false

  record Order : Type 0 where
    irrefl : (x : Float) → T (finite x) → before x x ≡ false
    asym : (x y : Float) → T (finite x) → T (finite y) → before x y ≡ true → before y x ≡ false
    trans : (x y z : Float) → T (finite x) → T (finite y) → T (finite z) → before y x ≡ false → before z y ≡ false → before z x ≡ false

  module _ (o : Order) where
    pick-none : (x y : Float) → T (finite x) → T (finite y) → (before x (if before y x then y else x) ≡ false) × (before y (if before y x then y else x) ≡ false)
    pick-none x y f g =
        by-test (λ (m : Float). (before x m ≡ false) × (before y m ≡ false)) (before y x) (λ h. (o.asym y x g f h, o.irrefl y g)) (λ h. (o.irrefl x f, h))

    foremost-none : (x : Float) (xs : List Float) → AllFinite (x ∷ xs) → NoneBefore (foremost x xs) (x ∷ xs)
    unfolding foremost AllFinite NoneBefore
    foremost-none x [] f y (inr x5) = elim x5 [ ]
    foremost-none x [] f y (inl e) = subst (λ (z : Float). before z x ≡ false) (sym e) (o.irrefl x (f x (inl refl)))
    foremost-none x (y ∷ ys) f z h =
        let m = if before y x then y else x in
        go (λ w k. f w (pick-mem (before y x) x y w ys k)) (pick-none x y (f x (inl refl)) (f y (inr (inl refl)))) (foremost-none m ys (λ w k. f w (pick-mem (before y x) x y w ys k))) h
      where
        m : Float
        m = if before y x then y else x

        r : Float
        r = foremost m ys

        go : AllFinite (m ∷ ys) → (before x m ≡ false) × (before y m ≡ false) → NoneBefore r (m ∷ ys) → Mem z (x ∷ y ∷ ys) → before z r ≡ false
        go g p q (inl e) = subst (λ (w : Float). before w r ≡ false) (sym e) (o.trans r m x (g r (foremost-mem m ys)) (g m (inl refl)) (f x (inl refl)) (q m (inl refl)) p.0)
        go g p q (inr (inl e)) = subst (λ (w : Float). before w r ≡ false) (sym e) (o.trans r m y (g r (foremost-mem m ys)) (g m (inl refl)) (f y (inr (inl refl))) (q m (inl refl)) p.1)
        go g p q (inr (inr k)) = q z (inr k)

by_value : Order lt
by_value = record { irrefl = lt_irrefl; asym = lt-asym; trans = lt-not-trans }

above : Float → Float → Bool
above x y = lt y x

from-above : Order above
unfolding above
from-above = record { irrefl = lt_irrefl; asym = λ x y f g h. lt-asym y x g f h; trans = λ x y z f g h p q. lt-not-trans z y x h g f q p }

shortest-is : (x : Float) (xs : List Float) → foremost lt x xs ≡ shortest x xs
unfolding foremost shortest
shortest-is x [] = refl
shortest-is x (y ∷ ys) = shortest-is (if lt y x then y else x) ys

longest-is : (x : Float) (xs : List Float) → foremost above x xs ≡ longest x xs
unfolding foremost longest above
longest-is x [] = refl
longest-is x (y ∷ ys) = longest-is (if lt x y then y else x) ys

-- ---- the theorems

pub shortest-given : (xs : List Float) → 0 < length xs → Mem (sums xs).shortest xs
unfolding sums
shortest-given [] h = absurd (omega arith)
shortest-given (x ∷ xs) h = subst (λ (z : Float). Mem z (x ∷ xs)) (shortest-is x xs) (foremost-mem lt x xs)

pub longest-given : (xs : List Float) → 0 < length xs → Mem (sums xs).longest xs
unfolding sums
longest-given [] h = absurd (omega arith)
longest-given (x ∷ xs) h = subst (λ (z : Float). Mem z (x ∷ xs)) (longest-is x xs) (foremost-mem above x xs)

all-finite : (xs : List Float) → every proper xs ≡ true → AllFinite xs
unfolding AllFinite
all-finite xs p x h = proper-finite x (every-at proper xs p x h)

pub none-shorter : (xs : List Float) → every proper xs ≡ true → (y : Float) → Mem y xs → lt y (sums xs).shortest ≡ false
unfolding sums NoneBefore
none-shorter [] p y h = elim h [ ]
none-shorter (x ∷ xs) p y h = subst (λ (z : Float). lt y z ≡ false) (shortest-is x xs) (foremost-none lt by_value x xs (all-finite (x ∷ xs) p) y h)

pub none-longer : (xs : List Float) → every proper xs ≡ true → (y : Float) → Mem y xs → lt (sums xs).longest y ≡ false
unfolding sums NoneBefore above
none-longer [] p y h = elim h [ ]
none-longer (x ∷ xs) p y h = subst (λ (z : Float). lt z y ≡ false) (longest-is x xs) (foremost-none above from-above x xs (all-finite (x ∷ xs) p) y h)

added-number : (t : Float) (xs : List Float) → T (not (is_nan t)) → every proper xs ≡ true → T (not (is_nan (added t xs)))
unfolding added every
added-number t [] h p = h
added-number t (x ∷ xs) h p =
    added-number (add binary64 t x) xs (add-number t x h (proper-finite x (and_left (proper x) (every proper xs) p))) (and_right (proper x) (every proper xs) p)

pub sum_number : (xs : List Float) → every proper xs ≡ true → T (not (is_nan (sums xs).sum))
unfolding sums
sum_number [] p = unfold is_nan in tt
sum_number (x ∷ xs) p = added-number plus_zero (x ∷ xs) (unfold is_nan in tt) p
