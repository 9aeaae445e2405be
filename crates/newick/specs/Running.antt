-- Running sums over the leaves of a text: record j is of the first j leaves.
--
--   labels_at s l k      the first k labels in the bytes s: label j stands from the number 2 * j of l up to the number behind it
--   label_taxa ns ws     the taxa that the labels ws name
--   Running o k s       the records 0 to k of s are hashed, and each mask lies within those behind it
--   span_masks s l n     of the first n spans in l: the taxa of the record where the span ends that are not in the record where it begins
use Rattle.std.specs.Prelude.{ℕ, zero, suc, ◌+◌, ◌*◌, ◌≤◌, List, [], ◌∷◌, ◌++◌, bit_or, slice_index}
use Rattle.std.proofs.Math.Seq.{slice}
use Rattle.trees.specs.Mask.{without}
use Rattle.trees.specs.Splits.{taxon}
use Rattle.trees.specs.Opening.{Opening}
use Rattle.theorems.specs.BitLaws.{Sub}
use Rattle.records.specs.Records.{wide}
use Rattle.newick.specs.Splits.{Hashed}

unfoldable pub labels_at : List ℕ → List ℕ → ℕ → List (List ℕ)
labels_at s l zero = []
labels_at s l (suc k) = labels_at s l k ++ (slice (slice_index l (2 * k)) (slice_index l (2 * k + 1)) s ∷ [])

unfoldable pub label_taxa : List (List ℕ) → List (List ℕ) → ℕ
unfolding taxon
label_taxa ns [] = 0
label_taxa ns (w ∷ ws) = bit_or (taxon ns w) (label_taxa ns ws)

pub record Running (o : Opening) (k : ℕ) (s : List ℕ) : Type 0 where
  pub each : (j : ℕ) → j ≤ k → Hashed o (slice_index s (wide * j)) (slice_index s (wide * j + 1)) (slice_index s (wide * j + 2))
  pub inside : (i j : ℕ) → i ≤ j → j ≤ k → Sub (slice_index s (wide * i)) (slice_index s (wide * j))

unfoldable pub span_masks : List ℕ → List ℕ → ℕ → List ℕ
unfolding without
span_masks s l zero = []
span_masks s l (suc j) = span_masks s l j ++ (without (slice_index s (wide * slice_index l (2 * j + 1))) (slice_index s (wide * slice_index l (2 * j))) ∷ [])
