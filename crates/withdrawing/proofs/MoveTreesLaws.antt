-- What the steps of `unlisting::move_trees` move: they stay inside, and together move all of each later tree. Assumes nothing.
use Prim.Native.Nat.{ℕ, suc, ◌+◌, ◌-◌, ◌*◌, ◌≤◌, ◌<◌}
use native.Mathlib.Omega.{arith}
use mathlib.Core.Path.{◌≡◌}
use mathlib.Core.List.{List}
use lib.ListN.{length}
use Rattle.trees.specs.Opening.{tree_bytes}
use Rattle.fields.specs.Field.{put}
use Rattle.fields.specs.Run.{copied}
use Rattle.head.specs.Head.{numbers_at}
use Rattle.layout.specs.Store.{tree_from, trees_held_at}
use Rattle.layout.specs.StoreLaws.{size_is}
use Rattle.layout.specs.WholeFacts.{HeadAt}
use Rattle.withdrawing.specs.Unlisted.{lengths_moved, TreesMoved}
use Rattle.withdrawing.specs.MovedTreesLaws.{moved_length, lists-room, trees-moved}

module _ (s : List ℕ) (g : HeadAt s) (k trees to : ℕ) (h : k < trees_held_at s) (e : trees ≡ trees_held_at s) (o : to ≡ tree_from (numbers_at s) k) where
  abbrev pub later : ℕ
  later = trees - 1 - k

  pub all : suc (k + later) ≡ trees_held_at s
  all = omega arith

  module _ (u : List ℕ) (y : u ≡ lengths_moved (numbers_at s) k later s) where
    pub inside : (to + tree_bytes + tree_bytes * later ≤ length u) × (to + tree_bytes * later ≤ length u)
    inside =
        let size : length u ≡ length s = rw y (moved_length (numbers_at s) k later s) in
        let room : to + tree_bytes + tree_bytes * later ≤ length u = omega (arith, lists-room s g k later all, size_is s, g.reached) in
        (room, omega arith)

    pub moved : (v t : List ℕ) → v ≡ copied u to u (to + tree_bytes) (tree_bytes * later) → t ≡ put 2 v 10 (trees - 1) → TreesMoved s k t
    moved v t q r = trees-moved s g k later all (trees - 1) (omega arith) t (rw (r, q, o, y))
