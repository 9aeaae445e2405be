-- Putting the lengths of a tree, one after another: what is known before the loop, and one turn of it.
use Prim.Native.Nat.{ℕ, ◌+◌, ◌*◌, ◌^◌, ◌≤◌, ◌<◌}
use native.Mathlib.Omega.{arith}
use mathlib.Core.Path.{◌≡◌, ap}
use mathlib.Core.List.{List}
use lib.ListN.{length, get_or}
use Rattle.trees.specs.Opening.{branch_bytes}
use Rattle.fields.specs.Field.{put}
use Rattle.head.specs.Head.{numbers_at, opening_at}
use Rattle.layout.specs.Store.{parts_at, trees_held_at, most_splits}
use Rattle.layout.specs.WholeFacts.{HeadAt}
use Rattle.layout.specs.Sound.{Sound}
use Rattle.recording.specs.LengthLaws.{lengths_next, Putting, putting-more, lengths-fit}

-- what is known before the loop
pub record Given (s words : List ℕ) (n from : ℕ) : Type 0 where
  pub head : HeadAt s
  pub sound : Sound (opening_at s) (parts_at s)
  pub room : trees_held_at s < (numbers_at s).tree_room
  pub kept : 1 ≤ (numbers_at s).kept
  pub few : n ≤ most_splits
  pub long : n ≤ length words
  pub from_is : from ≡ lengths_next s

module _ {s words : List ℕ} {n from : ℕ} (g : Given s words n from) (j : ℕ) (u : List ℕ) (e : Putting s words j u) where
  -- the lengths lie inside
  pub inside : from + branch_bytes ≤ length u
  inside = omega (arith, g.from_is, lengths-fit s g.head g.room g.kept, e.size)

  pub more : j < n → (x : ℕ) → x ≡ get_or words j 0 → x < 2 ^ 64 → Putting s words (j + 1) (put 8 u (from + 8 * j) x)
  more h x d fits =
      putting-more s words (lengths-fit s g.head g.room g.kept) j u e (omega (arith, g.long)) (omega (arith, g.few)) x _ d fits (ap (λ (k : ℕ). k + 8 * j) g.from_is)
