-- The laws of taxa taken away, and of the union of the masks that stand at some taxa. Assumes nothing.
--
--   on-without, without_on             the taxa of a that are not in b, one by one
--   without-twice                      without what is not in b, the common ones are left
--   rest-less                          without its lowest taxon, what is left is a lesser number
--   part_none, part-next, part-all     one turn of the loop that makes a union
use Rattle.std.specs.Prelude.{◌≡◌, ℕ, ◌^◌, ◌<◌, ◌⊎◌, List, ◌≢◌, bit_and, bit_or, slice_index}
use native.Mathlib.Omega.{arith}
use Rattle.std.proofs.Common.{◌∙◌, inl, inr, pow_pos}
use Rattle.std.specs.Int.Bits.{or_zero_r}
use Rattle.trees.specs.Mask.{without, lowest}
use Rattle.theorems.specs.BitLaws.{On, on?, Sub, ext, and-on, on_and, on-or-l, on-or-r, or-on, off_zero, only-on}
use Rattle.theorems.specs.ListLaws.{equal_or_not}
use Rattle.theorems.specs.MaskLaws.{others-on, on-others}
use Rattle.theorems.specs.WidestLaws.{lowest-on}
use Rattle.masks.specs.LowestLaws.{lowest-taken}
use Rattle.store.specs.Outer.{UnionAt, PartAt, LowestIn}

-- ---- taxa of one mask that are not in another

module _ (a b i : ℕ) where
  pub on-without : On a i → (On b i → ⊥) → On (without a b) i
  unfolding without
  on-without o f = others-on a (bit_and a b) (λ j h. (and-on a b j h).0) i o (λ h. f (and-on a b i h).1)

  pub without_on : On (without a b) i → On a i × (On b i → ⊥)
  unfolding without
  without_on o =
      let h = on-others a (bit_and a b) (λ j h. (and-on a b j h).0) i o in
      (h.0, λ k. h.1 (on_and a b i h.0 k))

-- what is left of a without what is not in b
pub without-twice : (a b : ℕ) → without a (without a b) ≡ bit_and a b
without-twice a b = ext (without a (without a b)) (bit_and a b) (λ i o. go i (without_on a (without a b) i o) (on? b i)) back
  where
    go : (i : ℕ) → On a i × (On (without a b) i → ⊥) → (On b i → ⊥) ⊎ On b i → On (bit_and a b) i
    go i h (inl f) = absurd (h.1 (on-without a b i h.0 f))
    go i h (inr k) = on_and a b i h.0 k

    back : Sub (bit_and a b) (without a (without a b))
    back i o = let h = and-on a b i o in on-without a (without a b) i h.0 (λ k. (without_on a b i k).1 h.1)

-- ---- the lowest taxon taken away

pub rest-less : (rest y : ℕ) → (rest ≢ 0) → y ≡ without rest (2 ^ lowest rest) → y < rest
rest-less rest y h e = omega (arith, h, lowest-taken rest (omega (arith, h)), pow_pos (lowest rest))

-- ---- one turn of the loop that makes a union

pub part_none : (ms : List ℕ) (taxa : ℕ) → PartAt ms taxa taxa 0
part_none ms taxa = record { within = λ i h. h; each = λ t o f. absurd (f o); only = λ i h. absurd (off_zero i h) }

pub part-all : (ms : List ℕ) (taxa rest u : ℕ) → rest ≡ 0 → PartAt ms taxa rest u → UnionAt ms taxa u
part-all ms taxa rest u e p = record { each = λ t o. p.each t o (λ h. off_zero t (rw e at h)); only = p.only }

-- m is the mask at the lowest taxon of the rest, y what is left, v the new union
module _ (ms : List ℕ) (taxa rest u m y v : ℕ) (p : PartAt ms taxa rest u) (q : y ≡ without rest (2 ^ lowest rest)) (g : v ≡ bit_or u m) where
  module _ (h : rest ≡ 0 → ⊥) (e : m ≡ slice_index ms (lowest rest)) where
    in_rest : On rest (lowest rest)
    in_rest = lowest-on rest (omega (arith, h))

    part-each : (s : ℕ) → On taxa s → (On y s → ⊥) → Sub (slice_index ms s) v
    part-each s o f i k = rw g (go (on? rest s) (on? (2 ^ lowest rest) s))
      where
        go : (On rest s → ⊥) ⊎ On rest s → (On (2 ^ lowest rest) s → ⊥) ⊎ On (2 ^ lowest rest) s → On (bit_or u m) i
        go (inl r) w = on-or-l u m i (p.each s o r i k)
        go (inr r) (inl w) = absurd (f (rw q (on-without rest (2 ^ lowest rest) s r w)))
        go (inr r) (inr w) = on-or-r u m i (rw (e, only-on (lowest rest) s w) k)

    part-only : (i : ℕ) → On (bit_or u m) i → (On u i → ⊥) ⊎ On u i → (s : ℕ) × On taxa s × On (slice_index ms s) i
    part-only i o (inl f) = (lowest rest, p.within (lowest rest) in_rest, rw e at (or-on u m i o f))
    part-only i o (inr k) = p.only i k

    part-some : PartAt ms taxa y v
    part-some =
        record {
          within = λ i o. p.within i (without_on rest (2 ^ lowest rest) i (rw q at o)).0;
          each = part-each;
          only = λ i o. part-only i (rw g at o) (on? u i);
        }

  -- where no taxon is left, nothing changes
  part-empty : rest ≡ 0 → m ≡ 0 → PartAt ms taxa y v
  unfolding without
  part-empty e z =
      let a : v ≡ u = g ∙ rw z (or_zero_r u) in
      let b : y ≡ rest = omega arith in
      rw (a, b) p

  pub part-next : LowestIn ms rest m → PartAt ms taxa y v
  part-next w = go (equal_or_not rest 0)
    where
      go : (rest ≡ 0) ⊎ (rest ≢ 0) → PartAt ms taxa y v
      go (inl e) = part-empty e (w.none e)
      go (inr f) = part-some f (w.some f)
