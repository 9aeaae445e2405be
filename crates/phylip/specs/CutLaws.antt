-- A text and the first byte x in it: the parts between such bytes, and the runs before one. Assumes nothing.
--
--   is_other x b                        the byte b is not x
--   Cut x s, cut                       s has no x, or stands as w, which has none, x and r
--   between-whole, between-cut         the parts of such a text
--   between-some                       there is a first part
--   run-up-to, behind-up-to, begins-up-to     a run of bytes that x does not pass ends before it
--   others-behind, others-drop         the end of a text without x has no x
--   starts_other                       nor does it begin with one
use Prim.Native.Nat.{ℕ, zero, suc}
use Rattle.std.specs.Prelude.{◌≡◌, Bool, ◌&&◌, not, eqb, drop, if◌then◌else◌}
use Rattle.std.proofs.Math.Path.{refl}
use Rattle.std.proofs.Common.{ap}
use Rattle.std.proofs.Math.Bool.{true, false}
use mathlib.Core.List.{List, [], ◌∷◌, ◌++◌}
use borrow.Author.Tests.{eqb-true, eq-eqb, not-true}
use Rattle.trees.specs.Plain.{every}
use Rattle.trees.specs.Text.{with_byte}
use Rattle.trees.specs.Nexus.{run_of, behind_run, begins}
use Rattle.trees.specs.Phylip.{between}
use Rattle.theorems.specs.ListLaws.{and_left, and_right}
use Rattle.phylip.specs.Walk.{is_byte}

unfoldable pub is_other : ℕ → ℕ → Bool
is_other x b = not (eqb b x)

pub data Cut (x : ℕ) (s : List ℕ) : Type 0 where
  whole : every (is_other x) s ≡ true → Cut x s
  parted : (w r : List ℕ) → every (is_other x) w ≡ true → s ≡ w ++ x ∷ r → Cut x s

pub cut : (x : ℕ) (s : List ℕ) → Cut x s
unfolding every is_other
cut x [] = whole refl
cut x (b ∷ s) = go (eqb b x) refl (cut x s)
  where
    go : (t : Bool) → eqb b x ≡ t → Cut x s → Cut x (b ∷ s)
    go true e c = parted [] s refl (ap (λ (a : ℕ). a ∷ s) (eqb-true b x e))
    go false e (whole h) = whole (rw e h)
    go false e (parted w r h q) = parted (b ∷ w) r (rw e h) (ap (λ (l : List ℕ). b ∷ l) q)

-- ---- the parts between

module _ (x : ℕ) where
  pub between-whole : (w : List ℕ) → every (is_other x) w ≡ true → between x w ≡ w ∷ []
  unfolding between with_byte every is_other
  between-whole [] h = refl
  between-whole (b ∷ w) h = rw (not-true (eqb b x) (and_left (not (eqb b x)) (every (is_other x) w) h), between-whole w (and_right (not (eqb b x)) (every (is_other x) w) h))

  pub between-cut : (w r : List ℕ) → every (is_other x) w ≡ true → between x (w ++ x ∷ r) ≡ w ∷ between x r
  unfolding between with_byte every is_other
  between-cut [] r h = rw (eq-eqb x x refl)
  between-cut (b ∷ w) r h = rw (not-true (eqb b x) (and_left (not (eqb b x)) (every (is_other x) w) h), between-cut w r (and_right (not (eqb b x)) (every (is_other x) w) h))

  pub between-some : (s : List ℕ) → (w : List ℕ) × (ws : List (List ℕ)) × (between x s ≡ w ∷ ws)
  between-some s = go (cut x s)
    where
      go : Cut x s → (w : List ℕ) × (ws : List (List ℕ)) × (between x s ≡ w ∷ ws)
      go (whole h) = (s, [], between-whole s h)
      go (parted w r h q) = (w, between x r, rw q (between-cut w r h))

-- ---- runs before x

module _ (p : ℕ → Bool) (x : ℕ) (n : p x ≡ false) (r : List ℕ) where
  pub run-up-to : (w : List ℕ) → run_of p (w ++ x ∷ r) ≡ run_of p w
  unfolding run_of
  run-up-to [] = rw n
  run-up-to (b ∷ w) = rw (run-up-to w)

  pub behind-up-to : (w : List ℕ) → behind_run p (w ++ x ∷ r) ≡ behind_run p w ++ x ∷ r
  unfolding behind_run
  behind-up-to [] = rw n
  behind-up-to (b ∷ w) = go (p b) (behind-up-to w)
    where
      go : (t : Bool) → behind_run p (w ++ x ∷ r) ≡ behind_run p w ++ x ∷ r
          → (if t then behind_run p (w ++ x ∷ r) else b ∷ (w ++ x ∷ r)) ≡ (if t then behind_run p w else b ∷ w) ++ x ∷ r
      go true f = f
      go false f = refl

  pub begins-up-to : (w : List ℕ) → begins p (w ++ x ∷ r) ≡ begins p w
  unfolding begins
  begins-up-to [] = n
  begins-up-to (b ∷ w) = refl

-- ---- a text without x

module _ (x : ℕ) where
  pub others-behind : (p : ℕ → Bool) (s : List ℕ) → every (is_other x) s ≡ true → every (is_other x) (behind_run p s) ≡ true
  unfolding every behind_run
  others-behind p [] h = refl
  others-behind p (b ∷ s) h = go (p b) h (λ k. others-behind p s k)
    where
      go : (t : Bool) → (is_other x b && every (is_other x) s) ≡ true → (every (is_other x) s ≡ true → every (is_other x) (behind_run p s) ≡ true)
          → every (is_other x) (if t then behind_run p s else b ∷ s) ≡ true
      go true k f = f (and_right (is_other x b) (every (is_other x) s) k)
      go false k f = k

  pub others-drop : (n : ℕ) (s : List ℕ) → every (is_other x) s ≡ true → every (is_other x) (drop n s) ≡ true
  unfolding every
  others-drop zero s h = h
  others-drop (suc n) [] h = h
  others-drop (suc n) (b ∷ s) h = others-drop n s (and_right (is_other x b) (every (is_other x) s) h)

  pub starts_other : (s : List ℕ) → every (is_other x) s ≡ true → begins (is_byte x) s ≡ false
  unfolding every is_other is_byte begins
  starts_other [] h = refl
  starts_other (b ∷ s) h = not-true (eqb b x) (and_left (not (eqb b x)) (every (is_other x) s) h)
