-- The stand-ins of a taxon: every other taxon, once, and the one that is farther from it first.
--
--   Ahead n i ms j k      the group of taxon j with taxon i is larger than that of taxon k; or it is as large, and j is the lower number
--   stand-ins-exactly     the stand-ins of a taxon are exactly the other taxa
--   stand-ins-in-order    each is ahead of every later one
--   stand-ins-once        so none comes twice
--   StrangersFirst ..     of a list of taxa, those for which no group is named with taxon i come before all others
--   strangers-first       so it is in the stand-ins
use Prim.Native.Nat.{ℕ, zero, suc, ◌≤◌, ◌<◌}
use Rattle.std.proofs.Math.Nat.{le_of_eq}
use Rattle.std.proofs.Common.{arith, ap, sym, ◌∙◌, inr}
use Rattle.std.specs.Prelude.{◌≡◌, ◌⊎◌, ◌↔◌, true, ◌&&◌, List, ◌++◌}
use Rattle.std.proofs.Math.Path.{refl}
use Rattle.std.proofs.Math.Logic.{inl}
use Rattle.std.proofs.Math.Bool.{not}
use Rattle.std.proofs.Math.Dec.{eqb}
use borrow.Author.Tests.{eqb-true, eqb-false, eq-eqb, ne_eqb, not-true}
use Rattle.trees.specs.Plain.{every}
use Rattle.trees.specs.Mask.{ones_below, proper}
use Rattle.trees.specs.Groups.{up_to, nearest, group_of, sharing, sharing_from, stand_ins}
use Rattle.theorems.specs.ListLaws.{equal_or_not, and_left, and_right, and-true, Mem, mem-left, mem-right, mem-cases, keep-mem, mem-keep}
use Rattle.theorems.specs.InTurnLaws.{InTurn, turn-append, turn-keep, turn_by}
use Rattle.theorems.specs.TaxaInLaws.{up-to-below, mem-up-to, up-to-rising}
use Rattle.theorems.specs.GroupLaws.{Sized, group-size}

-- ---- the stand-ins

-- a larger group is farther off; as large ones come by rising number
abbrev pub Ahead : ℕ → ℕ → List ℕ → ℕ → ℕ → Type 0
Ahead n i ms j k =
    (ones_below n (group_of n i k ms) < ones_below n (group_of n i j ms)) ⊎ ((ones_below n (group_of n i j ms) ≡ ones_below n (group_of n i k ms)) × (j < k))

-- "those that share no majority group with it first": the list ks in two parts
abbrev pub StrangersFirst : ℕ → ℕ → List ℕ → List ℕ → Type 0
StrangersFirst n i ms ks =
    (a b : List ℕ) × (ks ≡ a ++ b) × ((j : ℕ) → Mem j a → nearest n i j ms ≡ 0) × ((j : ℕ) → Mem j b → nearest n i j ms ≡ 0 → ⊥)

module _ (n : ℕ) (ms : List ℕ) (good : every (proper n) ms ≡ true) (i : ℕ) (l : i < n) where
  abbrev size : ℕ → ℕ
  size j = ones_below n (group_of n i j ms)

  size-range : (j : ℕ) → (0 < size j) × (size j ≤ n)
  size-range j = go (group-size n ms good i j)
    where
      go : Sized n i j ms → (0 < size j) × (size j ≤ n)
      go (inl e) = (omega (arith, e.1, l), le_of_eq e.1)
      go (inr e) = (omega (arith, e.1), omega (arith, e.2))

  sharing-mem : (k j : ℕ) → Mem j (sharing n i ms k) → (j < n) × (j ≡ i → ⊥) × (size j ≡ k)
  unfolding sharing
  sharing-mem k j h =
      let r = keep-mem (λ (x : ℕ). not (eqb x i) && eqb (size x) k) (up_to n) j h in
      (up-to-below n j r.0, eqb-false j i (not-true (eqb j i) (and_left (not (eqb j i)) _ r.1)), eqb-true (size j) k (and_right (not (eqb j i)) _ r.1))

  mem-sharing : (k j : ℕ) → j < n → (j ≡ i → ⊥) → size j ≡ k → Mem j (sharing n i ms k)
  unfolding sharing
  mem-sharing k j a b c = mem-keep (λ (x : ℕ). not (eqb x i) && eqb (size x) k) (up_to n) j (mem-up-to n j a) (and-true (ap not (ne_eqb j i b)) (eq-eqb (size j) k c))

  from-mem : (k j : ℕ) → Mem j (sharing_from n i ms k) → (j < n) × (j ≡ i → ⊥) × (size j ≤ k)
  unfolding sharing_from
  from-mem zero j h = elim h [ ]
  from-mem (suc k) j h = go (mem-cases j (sharing n i ms (suc k)) (sharing_from n i ms k) h) (from-mem k j)
    where
      go : Mem j (sharing n i ms (suc k)) ⊎ Mem j (sharing_from n i ms k) → (Mem j (sharing_from n i ms k) → (j < n) × (j ≡ i → ⊥) × (size j ≤ k)) → (j < n) × (j ≡ i → ⊥) × (size j ≤ suc k)
      go (inl m) f = let r = sharing-mem (suc k) j m in (r.0, r.1, le_of_eq r.2)
      go (inr m) f = let r = f m in (r.0, r.1, omega (arith, r.2))

  mem-from : (k j : ℕ) → j < n → (j ≡ i → ⊥) → 0 < size j → size j ≤ k → Mem j (sharing_from n i ms k)
  unfolding sharing_from
  mem-from zero j a b p q = absurd (omega arith)
  mem-from (suc k) j a b p q = go (equal_or_not (size j) (suc k)) (mem-from k j a b p)
    where
      go : (size j ≡ suc k) ⊎ (size j ≡ suc k → ⊥) → (size j ≤ k → Mem j (sharing_from n i ms k)) → Mem j (sharing n i ms (suc k) ++ sharing_from n i ms k)
      go (inl e) f = mem-left j (sharing n i ms (suc k)) (sharing_from n i ms k) (mem-sharing (suc k) j a b e)
      go (inr d) f = mem-right j (sharing n i ms (suc k)) (sharing_from n i ms k) (f (omega (arith, d)))

  -- "every other strain"
  pub stand-ins-exactly : (j : ℕ) → Mem j (stand_ins n i ms) ↔ ((j < n) × (j ≡ i → ⊥))
  unfolding stand_ins
  stand-ins-exactly j = (λ h. let r = from-mem n j h in (r.0, r.1), λ r. mem-from n j r.0 r.1 (size-range j).0 (size-range j).1)

  -- ---- their order

  sharing-rising : (k : ℕ) → InTurn (λ x y. x < y) (sharing n i ms k)
  unfolding sharing
  sharing-rising k = turn-keep (λ x y. x < y) (λ (x : ℕ). not (eqb x i) && eqb (size x) k) (up_to n) (up-to-rising n)

  sharing-order : (k : ℕ) → InTurn (Ahead n i ms) (sharing n i ms k)
  sharing-order k = turn_by (λ x y. x < y) (Ahead n i ms) (sharing n i ms k) (λ x y p q h. inr ((sharing-mem k x p).2 ∙ sym (sharing-mem k y q).2, h)) (sharing-rising k)

  from-order : (k : ℕ) → InTurn (Ahead n i ms) (sharing_from n i ms k)
  unfolding sharing_from
  from-order zero = tt
  from-order (suc k) =
      turn-append (Ahead n i ms) (sharing n i ms (suc k)) (sharing_from n i ms k) (sharing-order (suc k)) (from-order k)
      (λ x y p q. inl (omega (arith, (sharing-mem (suc k) x p).2, (from-mem k y q).2)))

  pub stand-ins-in-order : InTurn (Ahead n i ms) (stand_ins n i ms)
  unfolding stand_ins
  stand-ins-in-order = from-order n

  pub stand-ins-once : InTurn (λ j k. j ≡ k → ⊥) (stand_ins n i ms)
  stand-ins-once = turn_by (Ahead n i ms) (λ j k. j ≡ k → ⊥) (stand_ins n i ms) (λ j k p q a. other j k a) stand-ins-in-order
    where
      other : (j k : ℕ) → Ahead n i ms j k → j ≡ k → ⊥
      other j k (inl h) e = omega (arith, ap size e)
      other j k (inr h) e = omega (arith, h.1)

  -- ---- those that share no group

  stranger : (j : ℕ) → size j ≡ n → nearest n i j ms ≡ 0
  stranger j e = go (group-size n ms good i j)
    where
      go : Sized n i j ms → nearest n i j ms ≡ 0
      go (inl r) = r.0
      go (inr r) = absurd (omega (arith, r.2))

  stranger-size : (j : ℕ) → nearest n i j ms ≡ 0 → size j ≡ n
  stranger-size j z = go (group-size n ms good i j)
    where
      go : Sized n i j ms → size j ≡ n
      go (inl r) = r.1
      go (inr r) = absurd (r.0 z)

  pub strangers-first : StrangersFirst n i ms (stand_ins n i ms)
  unfolding stand_ins
  strangers-first = go n refl
    where
      go : (k : ℕ) → k ≡ n → StrangersFirst n i ms (sharing_from n i ms k)
      go zero e = absurd (omega (arith, l))
      go (suc k) e = unfold sharing_from in
          (sharing n i ms (suc k), sharing_from n i ms k, refl, λ j h. stranger j ((sharing-mem (suc k) j h).2 ∙ e), λ j h z. omega (arith, e, (from-mem k j h).2, stranger-size j z))
