-- The splits that enough of the trees have.
--
--   in_enough least ts m        at least `least` of the trees ts have the split m
--   chosen least ts            the recorded splits that so many have, in rising order
--   chosen_from least s k       of a store s, those of them with the number k or more
--   Chose least s l n k        the first n of the list l and then those with the number k or more are all of them
--   ReadSplit s k row c        the split with the number k has this row and the count c
use Rattle.std.specs.Prelude.{ℕ, ◌<◌, ◌≡◌, Bool, List, ◌++◌, leb, take, drop}
use Rattle.trees.specs.Plain.{keep}
use Rattle.trees.specs.Consensus.{recorded, count}
use Rattle.layout.specs.Store.{splits_held_at, count_at, order_at, masks_at, held_at, held_in}

unfoldable pub in_enough : ℕ → List (List ℕ) → ℕ → Bool
unfolding count
in_enough least ts m = leb least (count ts m)

unfoldable pub chosen : ℕ → List (List ℕ) → List ℕ
unfolding keep recorded in_enough
chosen least ts = keep (in_enough least ts) (recorded ts)

unfoldable pub chosen_from : ℕ → List ℕ → ℕ → List ℕ
unfolding keep in_enough held_in
chosen_from least s k = keep (in_enough least (held_at s).trees) (drop k (masks_at s))

pub record Chose (least : ℕ) (s l : List ℕ) (n k : ℕ) : Type 0 where
  pub all : take n l ++ chosen_from least s k ≡ chosen least (held_at s).trees

pub record ReadSplit (s : List ℕ) (k row c : ℕ) : Type 0 where
  pub held : k < splits_held_at s
  pub row_is : row ≡ order_at s k
  pub count-is : c ≡ count_at s row
