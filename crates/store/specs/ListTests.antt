-- The trees' lists and the counts, as the code tests them.
--
--   CountedPart s t j c    c has, for each split, how many of the first t trees and the first j numbers of the next list it
--   Counted s t c          c has, for each split, how many of the first t trees list it
--   Walked s i j ..        the first j splits of tree i passed: last is the highest mask of them, ms, heads and covered their outer
--                          masks, c the counts
use Rattle.std.specs.Prelude.{◌≡◌, ℕ, ◌+◌, ◌<◌, ◌≤◌, ◌⊎◌, List, length, take, slice_index}
use Rattle.trees.specs.Opening.{most_room}
use Rattle.trees.specs.Plain.{member}
use Rattle.theorems.specs.ListLaws.{Mem}
use Rattle.theorems.specs.RisingLaws.{Rising}
use Rattle.layout.specs.Store.{splits_held_at, list_at, tree_at}
use Rattle.layout.specs.WholeStore.{listed}
use Rattle.layout.specs.UpToLaws.{one_if}
use Rattle.store.specs.Outer.{Outer, Vacant}

-- ---- the counts, in a list of 4,096

pub record CountedPart (s : List ℕ) (t j : ℕ) (c : List ℕ) : Type 0 where
  pub size : length c ≡ most_room
  pub entries : (k : ℕ) → k < splits_held_at s → slice_index c k ≡ listed s k t + one_if (member k (take j (list_at s t)))

pub record Counted (s : List ℕ) (t : ℕ) (c : List ℕ) : Type 0 where
  pub size : length c ≡ most_room
  pub entries : (k : ℕ) → k < splits_held_at s → slice_index c k ≡ listed s k t

-- ---- a list, as far as it is walked

pub record Walked (s : List ℕ) (i j last : ℕ) (ms : List ℕ) (heads covered : ℕ) (c : List ℕ) : Type 0 where
  pub below : (a : ℕ) → a < j → slice_index (list_at s i) a < splits_held_at s
  pub rises : Rising (take j (tree_at s i))
  pub most : (y : ℕ) → Mem y (take j (tree_at s i)) → y ≤ last
  -- no mask of a split is 0
  pub from : (last ≡ 0) ⊎ Mem last (take j (tree_at s i))
  pub vacant : Vacant ms
  pub outer : Outer (take j (tree_at s i)) ms heads covered
  pub counted : CountedPart s i j c
