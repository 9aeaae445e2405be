-- How far `leaving::rename_lists` has come, and what one turn of its loop does. Assumes nothing.
use Prim.Native.Nat.{ℕ, suc, ◌+◌, ◌*◌, ◌≤◌, ◌<◌}
use native.Mathlib.Numerals.{add-one}
use native.Mathlib.Omega.{arith}
use mathlib.Core.Path.{◌≡◌, ap, ◌∙◌}
use mathlib.Core.List.{List}
use lib.ListN.{length}
use Rattle.trees.specs.Opening.{tree_bytes}
use Rattle.fields.specs.Field.{number}
use Rattle.head.specs.Head.{numbers_at, opening_at}
use Rattle.layout.specs.Store.{tree_from, parts_at, trees_held_at}
use Rattle.layout.specs.StoreLaws.{tree-from}
use Rattle.layout.specs.WholeFacts.{HeadAt}
use Rattle.layout.specs.InsideLaws.{tree-inside}
use Rattle.layout.specs.Sound.{Sound}
use Rattle.withdrawing.specs.Moved.{Renamed, Named}
use Rattle.withdrawing.specs.Dropping.{Becoming, ListsNamed}
use Rattle.withdrawing.specs.NamingLaws.{lists-more, list-next}
use Rattle.withdrawing.specs.NamedLaws.{list-few, list-asks}

-- what is known before the loop
pub record Given (s entries : List ℕ) (trees : ℕ) : Type 0 where
  pub head : HeadAt s
  pub sound : Sound (opening_at s) (parts_at s)
  pub becoming : Becoming (parts_at s) entries
  pub held : trees ≡ trees_held_at s

-- how far the walk has come
pub record State (s entries : List ℕ) (trees : ℕ) (u : List ℕ) (from i : ℕ) : Type 0 where
  pub below : i ≤ trees
  pub from_is : from ≡ tree_from (numbers_at s) i
  pub named : ListsNamed i entries s u
  pub same : length u ≡ length s

-- one turn of the loop
module _ {s entries : List ℕ} {trees : ℕ} (g : Given s entries trees) {u : List ℕ} {from i : ℕ} (x : State s entries trees u from i) (h : i < trees) where
  pub there : i < trees_held_at s
  there = omega (arith, g.held)

  pub fits : from + tree_bytes ≤ length u
  fits = omega (arith, x.from_is, tree-inside s g.head i there, x.same)

  module _ (k : ℕ) (d : k ≡ number 2 u from) where
    pub few-is : k ≡ number 2 s (tree_from (numbers_at s) i)
    few-is = d ∙ ap (number 2 u) x.from_is ∙ list-next entries s i u x.named

    pub asks : (from + 2 + 2 * k ≤ length u) × Named (from + 2) k entries 1 u
    asks = list-asks entries s g.head g.sound g.becoming i u x.named there from k x.from_is few-is

    pub state-more : (t : List ℕ) → Renamed (from + 2) k entries 1 u t → State s entries trees t (from + tree_bytes) (i + 1)
    state-more t r =
        let q = lists-more entries s i u x.named (λ j l. list-few entries s g.head g.sound g.becoming j (omega (arith, there))) t (rw (x.from_is, few-is) at r) in
        rw (add-one i)
        record {
          below = omega arith;
          from_is = omega (arith, x.from_is, tree-from (numbers_at s) i, tree-from (numbers_at s) (suc i));
          named = q;
          same = q.size;
        }
