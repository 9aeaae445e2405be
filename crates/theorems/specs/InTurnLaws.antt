-- Lists in which each member stands in a relation to every later one: so a list rises, or has no member twice.
--
--   InTurn R l      each member of l stands in the relation R to every later one
--   turn-append     two such lists one behind the other, where each of the first stands so to each of the second
--   turn-keep       the members that pass a test
--   turn_by         another relation that follows from the first
use Rattle.std.specs.Prelude.{ℕ, refl, ◌⊎◌, Bool}
use Rattle.std.proofs.Common.{inl, inr}
use mathlib.Core.List.{List, [], ◌∷◌, ◌++◌}
use Rattle.trees.specs.Plain.{keep}
use Rattle.theorems.specs.ListLaws.{by-test, Mem, mem-cases, keep-mem}

abbrev pub InTurn : (ℕ → ℕ → Type 0) → List ℕ → Type 0
InTurn R [] = Unit {0}
InTurn R (x ∷ l) = ((y : ℕ) → Mem y l → R x y) × InTurn R l

module _ (R : ℕ → ℕ → Type 0) where
  pub turn-append : (l k : List ℕ) → InTurn R l → InTurn R k → ((x y : ℕ) → Mem x l → Mem y k → R x y) → InTurn R (l ++ k)
  turn-append [] k a b f = b
  turn-append (x ∷ l) k a b f = (λ y h. go y (mem-cases y l k h), turn-append l k a.1 b (λ u v p q. f u v (inr p) q))
    where
      go : (y : ℕ) → Mem y l ⊎ Mem y k → R x y
      go y (inl h) = a.0 y h
      go y (inr h) = f x y (inl refl) h

  pub turn-keep : (p : ℕ → Bool) (l : List ℕ) → InTurn R l → InTurn R (keep p l)
  unfolding keep
  turn-keep p [] a = tt
  turn-keep p (x ∷ l) a = by-test (InTurn R) (p x) (λ e. ((λ y k. a.0 y (keep-mem p l y k).0), turn-keep p l a.1)) (λ e. turn-keep p l a.1)

  pub turn_by : (S : ℕ → ℕ → Type 0) (l : List ℕ) → ((x y : ℕ) → Mem x l → Mem y l → R x y → S x y) → InTurn R l → InTurn S l
  turn_by S [] f a = tt
  turn_by S (x ∷ l) f a = (λ y h. f x y (inl refl) (inr h) (a.0 y h), turn_by S l (λ u v p q. f u v (inr p) (inr q)) a.1)
