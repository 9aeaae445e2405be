-- The outer masks of a list: those that no later one took in, each kept at its lowest taxon, its head.
--
--   UnionAt ms taxa u              u has exactly the taxa of the masks that stand in ms at the taxa
--   PartAt ms taxa rest u          the same, but for the taxa of the rest, which are still to come
--   PlaceOf taxa t                 t is the lowest of the taxa, or 64 where there is none
--   LowestIn ms taxa m             m stands in ms at the lowest of the taxa, or is empty where there is none
--   Vacant ms                      ms has 65 places, the last of which has no mask
--   Outer l ms heads covered       l agrees in pairs; ms has its outer masks at the heads, and covered their taxa
--   Takes ms heads covered x r     r says whether the covered taxa of x are those of the outer masks whose heads it has
use Rattle.std.specs.Prelude.{◌≡◌, ℕ, ◌≤◌, Bool, List, length, ◌==◌, ◌≢◌, bit_and, slice_index, slice_index_or}
use Rattle.trees.specs.Mask.{lowest}
use Rattle.theorems.specs.ListLaws.{Mem}
use Rattle.theorems.specs.BitLaws.{On, Sub}
use Rattle.theorems.specs.MaskLaws.{Ag}

pub record UnionAt (ms : List ℕ) (taxa u : ℕ) : Type 0 where
  pub each : (t : ℕ) → On taxa t → Sub (slice_index ms t) u
  pub only : (i : ℕ) → On u i → (t : ℕ) × On taxa t × On (slice_index ms t) i

pub record PartAt (ms : List ℕ) (taxa rest u : ℕ) : Type 0 where
  pub within : Sub rest taxa
  pub each : (t : ℕ) → On taxa t → (On rest t → ⊥) → Sub (slice_index ms t) u
  pub only : (i : ℕ) → On u i → (t : ℕ) × On taxa t × On (slice_index ms t) i

pub record PlaceOf (taxa t : ℕ) : Type 0 where
  pub none : taxa ≡ 0 → t ≡ 64
  pub some : (taxa ≢ 0) → t ≡ lowest taxa
  pub most : t ≤ 64

pub record LowestIn (ms : List ℕ) (taxa m : ℕ) : Type 0 where
  pub none : taxa ≡ 0 → m ≡ 0
  pub some : (taxa ≢ 0) → m ≡ slice_index ms (lowest taxa)

pub record Vacant (ms : List ℕ) : Type 0 where
  pub long : length ms ≡ 65
  pub free : slice_index_or ms 64 0 ≡ 0

-- an outer mask has its head unless it is empty, and no taxon is in two of them
pub record Outer (l ms : List ℕ) (heads covered : ℕ) : Type 0 where
  pub agreed : (x y : ℕ) → Mem x l → Mem y l → Ag x y
  pub inside : (y : ℕ) → Mem y l → (t : ℕ) × On heads t × Sub y (slice_index ms t)
  pub member : (t : ℕ) → On heads t → Mem (slice_index ms t) l
  pub headed : (t i : ℕ) → On heads t → On (slice_index ms t) i → On (slice_index ms t) t
  pub alone : (t u i : ℕ) → On heads t → On heads u → On (slice_index ms t) i → On (slice_index ms u) i → t ≡ u
  pub union : UnionAt ms heads covered

pub record Takes (ms : List ℕ) (heads covered x : ℕ) (r : Bool) : Type 0 where
  pub inner : ℕ
  pub union : UnionAt ms (bit_and heads x) inner
  pub test : r ≡ (bit_and covered x == inner)
