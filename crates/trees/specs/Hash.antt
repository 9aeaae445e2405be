-- Places, identifiers and collisions. The constants and the number of places are checked by Opening and Whole too, and the places count in
-- the size of the store; of what an opened collection answers, only the collision number depends on them.
--
--   sum_over cs m          the sum of the constants cs over the taxa of the mask m
--   place cs p m          the place of the split m among p places
--   identifier cs m       its identifier
--   collisions f s p ms   the pairs of different masks of ms that are equal in place and identifier
use Rattle.std.specs.Prelude.{ℕ, ◌+◌, ◌*◌, ◌/◌, ◌%◌, ◌^◌, Bool, ◌&&◌, List, [], ◌∷◌, eqb, length}
use Rattle.trees.specs.Plain.{keep}

-- the first constant is that of the lowest taxon of m, which is bit 0
unfoldable pub sum_over : List ℕ → ℕ → ℕ
sum_over [] m = 0
sum_over (c ∷ cs) m = c * (m % 2) + sum_over cs (m / 2)

-- "the sum of the first constants over its mask's taxa, modulo m"
unfoldable pub place : List ℕ → ℕ → ℕ → ℕ
unfolding sum_over
place cs p m = sum_over cs m % p

-- "the sum of the second constants, modulo 2^64"
unfoldable pub identifier : List ℕ → ℕ → ℕ
unfolding sum_over
identifier cs m = sum_over cs m % 2 ^ 64

unfoldable pub collide : List ℕ → List ℕ → ℕ → ℕ → ℕ → Bool
unfolding place identifier
collide first second p a b = eqb (place first p a) (place first p b) && eqb (identifier second a) (identifier second b)

-- "the count of unordered pairs of different recorded splits equal in place and identifier"; the masks of ms are all different
unfoldable pub collisions : List ℕ → List ℕ → ℕ → List ℕ → ℕ
unfolding keep collide
collisions first second p [] = 0
collisions first second p (m ∷ ms) = length (keep (collide first second p m) ms) + collisions first second p ms
