-- The places of the rows, as they are noted along the chains. Assumes nothing.
--
--   head_at, held-most             a whole store's head is in order; it has at most 4,096 splits
--   highest-has, highest-over      the highest row of a place has it, and none above
--   placed-none, placed-all        no place is noted; every place is
--   part-starts, part-more, part-ends     one place: its start, a row along it, its end
use Prim.Native.Nat.{ℕ, zero, suc, ◌+◌, ◌≤◌, ◌<◌}
use native.Mathlib.Omega.{arith}
use Rattle.std.specs.Prelude.{◌≡◌, ◌⊎◌, Bool, List, get_or, set, replicate, if◌then◌else◌}
use Rattle.std.proofs.Math.Path.{refl}
use Rattle.std.proofs.Common.{sym, ap, ◌∙◌, inl, inr, length-set, get_or-set_same, get_or-set_other}
use Rattle.std.proofs.Math.Bool.{true, false}
use Rattle.std.proofs.Math.Dec.{eqb}
use Rattle.std.proofs.lemmas.List.{length-replicate}
use borrow.Author.Tests.{eqb-true, eqb-false}
use Rattle.trees.specs.Opening.{most_room}
use Rattle.theorems.specs.ListLaws.{less-or-not, equal_or_not}
use Rattle.head.specs.Head.{numbers_at}
use Rattle.layout.specs.Store.{splits_held_at, mask_at, link_at, start_at}
use Rattle.layout.specs.WholeStore.{highest_below, whole_at, highest_in, place_in}
use Rattle.layout.specs.WholeFacts.{ChainsAt, whole-at-facts, HeadAt}
use Rattle.layout.specs.InsideLaws.{splits-few}
use Rattle.store.specs.ChainLaws.{highest-most, place-below}
use Rattle.colliding.specs.Collisions.{Placed, PlacedPart}

-- ---- a whole store

module _ (s : List ℕ) (whole : whole_at s ≡ true) where
  pub head_at : HeadAt s
  head_at = (whole-at-facts s whole).head

  pub held-most : splits_held_at s ≤ most_room
  held-most = splits-few s head_at

-- ---- the highest row of a place

module _ (s : List ℕ) (p : ℕ) where
  -- it has the place
  pub highest-has : (n k : ℕ) → highest_below s p n ≡ suc k → place_in s (mask_at s k) ≡ p
  unfolding highest_in
  highest-has zero k e = absurd (omega arith)
  highest-has (suc n) k e = go (eqb (place_in s (mask_at s n)) p) refl e (highest-has n k)
    where
      go : (b : Bool) → eqb (place_in s (mask_at s n)) p ≡ b → (if b then suc n else highest_below s p n) ≡ suc k
          → (highest_below s p n ≡ suc k → place_in s (mask_at s k) ≡ p) → place_in s (mask_at s k) ≡ p
      go true q d f = let z : k ≡ n = omega arith in rw z (eqb-true _ _ q)
      go false q d f = f d

  -- none above it has the place
  pub highest-over : (n k : ℕ) → k < n → highest_below s p n ≤ k → place_in s (mask_at s k) ≡ p → ⊥
  unfolding highest_in
  highest-over zero k h l e = omega arith
  highest-over (suc n) k h l e = go (eqb (place_in s (mask_at s n)) p) refl l (highest-over n k) (less-or-not k n)
    where
      go : (b : Bool) → eqb (place_in s (mask_at s n)) p ≡ b → (if b then suc n else highest_below s p n) ≤ k
          → (k < n → highest_below s p n ≤ k → place_in s (mask_at s k) ≡ p → ⊥) → (k < n) ⊎ (n ≤ k) → ⊥
      go true q d f c = omega arith
      go false q d f (inl c) = f c d e
      go false q d f (inr c) = let z : n ≡ k = omega arith in eqb-false _ _ q (ap (λ (j : ℕ). place_in s (mask_at s j)) z ∙ e)

-- ---- what is noted

pub placed-none : (s : List ℕ) → Placed s 0 (replicate most_room 0)
placed-none s = record { size = length-replicate {A = ℕ} most_room 0; lower = λ k h l. absurd (omega arith) }

-- the place p is noted too
pub part-ends : (s : List ℕ) (p : ℕ) (rows : List ℕ) → PlacedPart s p 0 rows → Placed s (p + 1) rows
part-ends s p rows d = record { size = d.noted.size; lower = λ k h l. go k h l (less-or-not (place_in s (mask_at s k)) p) }
  where
    go : (k : ℕ) → k < splits_held_at s → place_in s (mask_at s k) < p + 1 → (place_in s (mask_at s k) < p) ⊎ (p ≤ place_in s (mask_at s k))
        → get_or rows k 0 ≡ place_in s (mask_at s k)
    go k h l (inl a) = d.noted.lower k h a
    go k h l (inr a) = let e : place_in s (mask_at s k) ≡ p = omega arith in d.here k h (omega arith) e ∙ sym e

module _ (s : List ℕ) (whole : whole_at s ≡ true) where
  chains : ChainsAt s
  chains = (whole-at-facts s whole).chains

  pub placed-all : (rows : List ℕ) → Placed s (numbers_at s).places rows → (k : ℕ) → k < splits_held_at s → get_or rows k 0 ≡ place_in s (mask_at s k)
  placed-all rows d k h = d.lower k h (place-below s whole (mask_at s k))

  module _ (p : ℕ) (rows : List ℕ) where
    pub part-starts : (e : ℕ) → p < (numbers_at s).places → Placed s p rows → e ≡ start_at s p → PlacedPart s p e rows
    part-starts e h d q =
        let z : e ≡ highest_below s p (splits_held_at s) = q ∙ chains.starts p h in
        record {
          noted = d;
          here = λ k l a b. absurd (highest-over s p (splits_held_at s) k l (rw (← z) a) b);
          entry = λ k f. highest-has s p (splits_held_at s) k (sym z ∙ f);
          most = rw z (highest-most s p (splits_held_at s));
        }

    module _ (e k l : ℕ) (d : PlacedPart s p e rows) (f : e ≡ suc k) (q : l ≡ link_at s k) where
      row-held : k < splits_held_at s
      row-held = omega (arith, d.most)

      next : l ≡ highest_below s p k
      next = q ∙ chains.links k row-held ∙ ap (λ (x : ℕ). highest_below s x k) (d.entry k f)

      still : (j : ℕ) → j < splits_held_at s → place_in s (mask_at s j) < p → get_or (set rows k p) j 0 ≡ place_in s (mask_at s j)
      still j h a =
          get_or-set_other rows k j p 0 (λ x. omega (arith, ap (λ (i : ℕ). place_in s (mask_at s i)) x, d.entry k f)) ∙ d.noted.lower j h a

      also : (j : ℕ) → j < splits_held_at s → l ≤ j → place_in s (mask_at s j) ≡ p → get_or (set rows k p) j 0 ≡ p
      also j h a b = go (equal_or_not j k) (less-or-not j k)
        where
          go : (j ≡ k) ⊎ (j ≡ k → ⊥) → (j < k) ⊎ (k ≤ j) → get_or (set rows k p) j 0 ≡ p
          go (inl x) y = rw x (get_or-set_same rows k p 0 (omega (arith, d.noted.size, held-most s whole, row-held)))
          go (inr x) (inl y) = absurd (highest-over s p k j y (rw (← next) a) b)
          go (inr x) (inr y) = get_or-set_other rows k j p 0 x ∙ d.here j h (omega arith) b

      pub part-more : PlacedPart s p l (set rows k p)
      part-more =
          record {
            noted = record { size = length-set rows k p ∙ d.noted.size; lower = still };
            here = also;
            entry = λ j x. highest-has s p k j (sym next ∙ x);
            most = omega (arith, next, highest-most s p k, row-held);
          }
