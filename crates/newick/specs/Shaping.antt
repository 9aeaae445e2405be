-- A tree whose shape was read, and the bytes in which the labels of its leaves stand: its own text, or others.
--
--   Shaping s w leaved l n m     the text s is a tree with so many leaves, whose first labels stand in the bytes w where the tokens l say,
--                                and n inner nodes with the spans m
use Rattle.std.specs.Prelude.{◌≡◌, ℕ, ◌*◌, ◌≤◌, min, List, length, take}
use Rattle.std.proofs.Math.Option.{some}
use Rattle.std.proofs.lemmas.List.Edits.{sets}
use Rattle.trees.specs.Tree.{Nodes, leaves}
use Rattle.trees.specs.Reading.{reading}
use Rattle.newick.specs.Shape.{spans}
use Rattle.newick.specs.Running.{labels_at}
use Rattle.newick.specs.Leaves.{most_leaves}
use Rattle.newick.specs.Sound.{span_room}

-- the spans stand over a list that has room for those of 64 nodes
pub record Shaping (s w : List ℕ) (leaved : ℕ) (l : List ℕ) (n : ℕ) (m : List ℕ) : Type 0 where
  pub tree : Nodes
  pub reads : reading s ≡ some tree
  pub count : leaved ≡ length (leaves tree)
  pub first : (j : ℕ) → j ≤ min leaved most_leaves → labels_at w l j ≡ take j (leaves tree)
  pub before : List ℕ
  pub room : length before ≡ span_room
  pub spanned : m ≡ sets before 0 (spans 0 tree)
  pub nested : 2 * n ≡ length (spans 0 tree)
