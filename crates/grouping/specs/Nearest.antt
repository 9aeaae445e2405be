-- The group of two taxa, by its place in a list of masks.
--
--   place_of i j ms        how many masks stand before the first that has the taxa i and j
use Rattle.std.specs.Prelude.{ℕ, suc, List, [], ◌∷◌, if◌then◌else◌}
use Rattle.trees.specs.Groups.{has_both}

unfoldable pub place_of : ℕ → ℕ → List ℕ → ℕ
unfolding has_both
place_of i j [] = 0
place_of i j (m ∷ ms) = if has_both i j m then 0 else suc (place_of i j ms)
