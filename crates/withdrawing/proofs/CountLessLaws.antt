-- What one turn of the loop of `unlisting::count_less` does. Assumes nothing.
use Prim.Native.Nat.{ℕ, ◌+◌, ◌*◌, ◌≤◌, ◌<◌, ◌-◌}
use native.Mathlib.Omega.{arith}
use mathlib.Core.Path.{◌≡◌, ap, ◌∙◌}
use mathlib.Core.List.{List}
use lib.ListN.{length, get_or}
use Rattle.trees.specs.Opening.{tree_bytes}
use Rattle.fields.specs.Field.{number, put}
use Rattle.head.specs.Head.{numbers_at}
use Rattle.layout.specs.Store.{tree_from, counts_from, trees_held_at, list_at, most_splits}
use Rattle.layout.specs.WholeFacts.{WholeAt}
use Rattle.layout.specs.InsideLaws.{tree-inside}
use Rattle.withdrawing.specs.CountedLaws.{Counting, counting-row, counting-fits, counting_more}

-- what is known before the loop
pub record Given (s : List ℕ) (from counts n : ℕ) : Type 0 where
  pub whole : WholeAt s
  pub tree : ℕ
  pub held : tree < trees_held_at s
  pub from_is : from ≡ tree_from (numbers_at s) tree
  pub counts-is : counts ≡ counts_from (numbers_at s)
  pub entries : n ≡ length (list_at s tree)

module _ {s : List ℕ} {from counts n : ℕ} (g : Given s from counts n) (j : ℕ) (u : List ℕ) (e : Counting s g.tree j u) where
  -- the list lies inside
  pub inside : (n ≤ most_splits) × (from + tree_bytes ≤ length u)
  inside = (
    omega (arith, g.entries, (g.whole.lists g.tree g.held).few),
    omega (arith, g.from_is, tree-inside s g.whole.head g.tree g.held, e.size),
  )

  -- one turn of the loop, at the row x
  module _ (h : j < n) (x : ℕ) (q : x ≡ number 2 u (from + 2 + 2 * j)) where
    pub short : j < length (list_at s g.tree)
    short = omega (arith, g.entries)

    pub row_is : x ≡ get_or (list_at s g.tree) j 0
    row_is = q ∙ ap (λ (a : ℕ). number 2 u (a + 2 + 2 * j)) g.from_is ∙ counting-row s g.whole g.tree g.held j u e short

    pub at-is : counts + 4 * x ≡ counts_from (numbers_at s) + 4 * x
    at-is = ap (λ (a : ℕ). a + 4 * x) g.counts-is

    pub fits : (counts + 4 * x + 4 ≤ length u) × (1 ≤ number 4 u (counts + 4 * x))
    fits = counting-fits s g.whole g.tree g.held j u e short x _ row_is at-is

    pub more : (v : ℕ) → v ≡ number 4 u (counts + 4 * x) → Counting s g.tree (j + 1) (put 4 u (counts + 4 * x) (v - 1))
    more v r = counting_more s g.whole g.tree g.held j u e short x _ row_is at-is v r
