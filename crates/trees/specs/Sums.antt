-- The shortest, longest and summed length of a split, over the trees having it.
--
--   plus_zero          zero with a plus sign
--   shortest x xs     the shortest of the lengths x and xs, by value
--   longest x xs      the longest of them
--   added t xs        t with the lengths xs added to it, in their order
--   Sums, sums xs     all three, of one length or more in tree order
use Rattle.std.specs.Prelude.{false, List, [], ◌∷◌, pos, Float, if◌then◌else◌}
use Rattle.std.specs.Float.{fin, binary64}
use Rattle.std.specs.Float.Ieee.{add, lt}

-- "zero is plus zero"
abbrev pub plus_zero : Float
plus_zero = fin false 0 (pos 0)

-- "the shortest .. length over the trees having it": the first that no other is below
unfoldable pub shortest : Float → List Float → Float
unfolding lt
shortest x [] = x
shortest x (y ∷ ys) = shortest (if lt y x then y else x) ys

-- likewise the longest: the first that is below no other
unfoldable pub longest : Float → List Float → Float
unfolding lt
longest x [] = x
longest x (y ∷ ys) = longest (if lt x y then y else x) ys

-- "each step rounded"
unfoldable pub added : Float → List Float → Float
unfolding add
added t [] = t
added t (x ∷ xs) = added (add binary64 t x) xs

-- "the shortest, longest and summed length"
pub record Sums : Type 0 where
  pub shortest : Float
  pub longest : Float
  pub sum : Float

-- "added from 0 in tree order"; a recorded split is in one tree at least, so nobody asks for those of no lengths
unfoldable pub sums : List Float → Sums
unfolding shortest longest added
sums [] = record { shortest = plus_zero; longest = plus_zero; sum = plus_zero }
sums (x ∷ xs) = record { shortest = shortest x xs; longest = longest x xs; sum = added plus_zero (x ∷ xs) }
