-- The groups of the majority tree, found one after another.
--
--   Grouping s a b masks counts n k     of the store s: n groups and their counts are stored in the lists, which were a and b; those with
--                                       the number k or more are left
use Rattle.std.specs.Prelude.{ℕ, ◌+◌, ◌/◌, List, map}
use Rattle.trees.specs.Consensus.{count, majority}
use Rattle.layout.specs.Store.{trees_held_at, held_at}
use Rattle.putting.specs.Put.{Putting}
use Rattle.consensus.specs.Chosen.{chosen_from}

pub record Grouping (s a b masks counts : List ℕ) (n k : ℕ) : Type 0 where
  pub groups : Putting a 0 (majority (held_at s).trees) masks n (chosen_from (trees_held_at s / 2 + 1) s k)
  pub counted : Putting b 0 (map (count (held_at s).trees) (majority (held_at s).trees)) counts n (map (count (held_at s).trees) (chosen_from (trees_held_at s / 2 + 1) s k))
