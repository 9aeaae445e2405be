-- What is written into the bytes of a store's head.
--
--   puts k s at vs       s with the numbers vs, k bytes each, one behind the other from at on
--   with_name s i w       s with the name w in place i
--   with_names s i ws     s with the names ws in the places from i on
--   in_order x            the first five numbers in the order of the head
--   with_numbers s x      s with the numbers x: five from 0 on, and behind those of trees and splits held whether lengths are kept
use Rattle.std.specs.Prelude.{ℕ, suc, ◌+◌, ◌*◌, List, [], ◌∷◌, length, set}
use Rattle.trees.specs.Opening.{Numbers}
use Rattle.fields.specs.Field.{put}
use Rattle.fields.specs.Run.{copied}

unfoldable pub puts : ℕ → List ℕ → ℕ → List ℕ → List ℕ
unfolding put
puts k s at [] = s
puts k s at (v ∷ vs) = puts k (put k s at v) (at + k) vs

-- a byte for the name's length, then the name
unfoldable pub with_name : List ℕ → ℕ → List ℕ → List ℕ
unfolding copied
with_name s i w = copied (set s (16 + 33 * i) (length w)) (17 + 33 * i) w 0 (length w)

unfoldable pub with_names : List ℕ → ℕ → List (List ℕ) → List ℕ
unfolding with_name
with_names s i [] = s
with_names s i (w ∷ ws) = with_names (with_name s i w) (suc i) ws

abbrev pub in_order : Numbers → List ℕ
in_order x = x.taxa ∷ x.lanes ∷ x.tree_room ∷ x.split_room ∷ x.places ∷ []

unfoldable pub with_numbers : List ℕ → Numbers → List ℕ
unfolding puts put
with_numbers s x = put 2 (puts 2 s 0 (in_order x)) 14 x.kept
