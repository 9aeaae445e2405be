-- Entering the rows of a tree, one after another: what is known before the loop, and one turn of it.
use Prim.Native.Nat.{ℕ, ◌+◌, ◌*◌, ◌≤◌, ◌<◌}
use native.Mathlib.Omega.{arith}
use mathlib.Core.Path.{◌≡◌, sym}
use mathlib.Core.List.{List}
use lib.ListN.{length, get_or, take}
use lib.Seq.{get_or-take, length-take-le}
use Rattle.trees.specs.Opening.{head_bytes, tree_bytes}
use Rattle.fields.specs.Field.{number, put}
use Rattle.fields.specs.FieldLaws.{put-length}
use Rattle.head.specs.Head.{numbers_at, opening_at}
use Rattle.layout.specs.Store.{counts_from, parts_at, trees_held_at}
use Rattle.layout.specs.Sound.{Sound}
use Rattle.recording.specs.Added.{Rows}
use Rattle.recording.specs.EnteringLaws.{next_from, Room, Entering, entering-fits, entering-more}

-- what is known before the loop
pub record Given (s rows : List ℕ) (n trees from counts : ℕ) : Type 0 where
  pub room : Room s
  pub sound : Sound (opening_at s) (parts_at s)
  pub tree : Rows (parts_at s) (take n rows)
  pub long : n ≤ length rows
  pub trees-is : trees ≡ trees_held_at s
  pub from_is : from ≡ next_from s
  pub counts-is : counts ≡ counts_from (numbers_at s)

module _ {s rows : List ℕ} {n trees from counts : ℕ} (g : Given s rows n trees from counts) (j : ℕ) (u : List ℕ) (e : Entering s (take n rows) j u) where
  -- the list lies inside
  pub inside : (head_bytes ≤ from) × (from + tree_bytes ≤ length u)
  inside = (omega (arith, g.from_is, g.room.list), omega (arith, g.from_is, g.room, e.size))

  -- one turn of the loop
  module _ (h : j < n) where
    pub short : j < length (take n rows)
    short = omega (arith, length-take-le n rows g.long)

    pub to_is : from + 2 + 2 * j ≡ next_from s + 2 + 2 * j
    to_is = rw g.from_is

    pub at-is : counts + 4 * get_or rows j 0 ≡ counts_from (numbers_at s) + 4 * get_or rows j 0
    at-is = rw g.counts-is

    pub fits : (get_or rows j 0 < 65536) × (counts + 4 * get_or rows j 0 + 4 ≤ length s)
        × (number 4 (put 2 u (from + 2 + 2 * j) (get_or rows j 0)) (counts + 4 * get_or rows j 0) ≤ 1024)
    fits = entering-fits s (take n rows) g.room g.sound g.tree j u e short _ _ _ (sym (get_or-take n rows j 0 h)) to_is at-is

    module _ (w : List ℕ) (q : w ≡ put 2 u (from + 2 + 2 * j) (get_or rows j 0)) where
      pub written : (counts + 4 * get_or rows j 0 + 4 ≤ length w) × (number 4 w (counts + 4 * get_or rows j 0) ≤ 1024)
      written = rw q (omega (arith, fits.1, put-length 2 u (from + 2 + 2 * j) (get_or rows j 0), e.size), fits.2)

      pub counted : (v : ℕ) → v ≡ number 4 w (counts + 4 * get_or rows j 0) → Entering s (take n rows) (j + 1) (put 4 w (counts + 4 * get_or rows j 0) (v + 1))
      counted v r =
          rw q (entering-more s (take n rows) g.room g.sound g.tree j u e short _ _ _ (sym (get_or-take n rows j 0 h)) to_is at-is v (rw q at r))
