-- Laws of a row of the matrix: the distances of one tree from all. Assumes nothing.
--
--   row-length     it has an entry for each tree
--   row-entry      and each entry is the distance from its tree
use Rattle.std.specs.Prelude.{◌≡◌, ℕ, zero, suc, ◌<◌, List, [], ◌∷◌, map, length, slice_index, slice_index_or, refl}
use Rattle.std.proofs.Common.{arith, ap, ◌∙◌}
use Rattle.std.proofs.lemmas.List.{length-map}
use Rattle.trees.specs.Distance.{doubled}
use Rattle.layout.specs.Store.{trees_held_at, tree_at, held_at}
use Rattle.store.specs.RecordedAtLaws.{trees-length, tree-at}

map-entry : (f : List ℕ → ℕ) (ts : List (List ℕ)) (j : ℕ) → j < length ts → slice_index (map f ts) j ≡ f (slice_index_or ts j [])
map-entry f [] j h = absurd (omega arith)
map-entry f (t ∷ ts) zero h = refl
map-entry f (t ∷ ts) (suc j) h = map-entry f ts j (omega arith)

module _ (s : List ℕ) (i : ℕ) where
  pub row-length : length (map (doubled (tree_at s i)) (held_at s).trees) ≡ trees_held_at s
  row-length = length-map (held_at s).trees (doubled (tree_at s i)) ∙ trees-length s

  pub row-entry : (j : ℕ) → j < trees_held_at s → slice_index (map (doubled (tree_at s i)) (held_at s).trees) j ≡ doubled (tree_at s i) (tree_at s j)
  row-entry j h =
      map-entry (doubled (tree_at s i)) (held_at s).trees j (omega (arith, trees-length s)) ∙ ap (doubled (tree_at s i)) (tree-at s j h)
