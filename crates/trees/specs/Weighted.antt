-- The weighted distance of two trees, each given by the masks of its splits and, in the same order, their lengths.
--
--   either av bv              the masks of either tree, rising
--   length_in m av xs          the length of the split m in the tree with the masks av and the lengths xs
--   gap x y                   the size of the difference of x and y
--   gap_at av xs bv ys m       that of the lengths that the two trees have for the split m
--   weighted av xs bv ys      the weighted distance
use Rattle.std.specs.Prelude.{ℕ, List, [], ◌∷◌, map, eqb, Float, if◌then◌else◌}
use Rattle.std.specs.Float.{binary64}
use Rattle.std.specs.Float.Ieee.{sub, lt}
use Rattle.trees.specs.Consensus.{recorded}
use Rattle.trees.specs.Sums.{plus_zero, added}

-- "the masks of either tree in rising order"
unfoldable pub either : List ℕ → List ℕ → List ℕ
unfolding recorded
either av bv = recorded (av ∷ bv ∷ [])

-- "a lacking split counting as 0"
unfoldable pub length_in : ℕ → List ℕ → List Float → Float
length_in m [] xs = plus_zero
length_in m (a ∷ av) [] = plus_zero
length_in m (a ∷ av) (x ∷ xs) = if eqb m a then x else length_in m av xs

-- "the size of each difference": the larger less the smaller, rounded
unfoldable pub gap : Float → Float → Float
unfolding lt sub
gap x y = if lt x y then sub binary64 y x else sub binary64 x y

-- what one mask adds
unfoldable pub gap_at : List ℕ → List Float → List ℕ → List Float → ℕ → Float
unfolding gap length_in
gap_at av xs bv ys m = gap (length_in m av xs) (length_in m bv ys)

-- "adds, from 0 and over the masks of either tree in rising order, the size of each difference .., each step rounded"
unfoldable pub weighted : List ℕ → List Float → List ℕ → List Float → Float
unfolding added gap_at either
weighted av xs bv ys = added plus_zero (map (gap_at av xs bv ys) (either av bv))
