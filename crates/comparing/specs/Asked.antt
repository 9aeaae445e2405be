-- What the calls that compare trees answer of lent bytes: 1 where they are not whole, else what crate trees says of what they hold.
--
--   one_sided_asked, doubled_asked        the distances of two trees
--   matrix_asked s room                 the doubled distances of all pairs
--   weighted_asked s i j                the weighted distance of two trees
--   collisions_asked s                  the collision number
use Rattle.std.specs.Prelude.{ℕ, List, Float}
use Rattle.trees.specs.Plain.{Answer}
use Rattle.trees.specs.Questions.{one_sided_of, doubled_of, matrix_of, weighted_of, collisions_of}
use Rattle.store.specs.Lent.{if_whole}

abbrev pub one_sided_asked : List ℕ → ℕ → ℕ → Answer ℕ
one_sided_asked s i j = if_whole s (λ h. one_sided_of h i j)

abbrev pub doubled_asked : List ℕ → ℕ → ℕ → Answer ℕ
doubled_asked s i j = if_whole s (λ h. doubled_of h i j)

abbrev pub matrix_asked : List ℕ → ℕ → Answer (List ℕ)
matrix_asked s room = if_whole s (λ h. matrix_of h room)

abbrev pub weighted_asked : List ℕ → ℕ → ℕ → Answer Float
weighted_asked s i j = if_whole s (λ h. weighted_of h i j)

abbrev pub collisions_asked : List ℕ → Answer ℕ
collisions_asked s = if_whole s collisions_of
