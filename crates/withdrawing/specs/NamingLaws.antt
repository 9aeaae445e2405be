-- The rows in the trees' lists named anew, one list after another. Assumes nothing.
--
--   lists-none, lists-more     the lists of no tree, and of one tree more
--   list-next                  the next tree's number of splits is as it was
use Rattle.std.specs.Prelude.{ℕ, suc, ◌+◌, ◌≤◌, ◌<◌, ◌≡◌, refl, ◌⊎◌, List, map, get_or}
use Rattle.std.proofs.Common.{arith, ◌∙◌, inl, inr}
use Rattle.std.proofs.Math.Path.{ap}
use Rattle.std.proofs.Math.Logic.{⊎_map}
use Rattle.trees.specs.Opening.{Numbers}
use Rattle.theorems.specs.ListLaws.{less-or-not}
use Rattle.fields.specs.Field.{number}
use Rattle.head.specs.Head.{numbers_at}
use Rattle.layout.specs.Columns.{column-same}
use Rattle.layout.specs.Store.{tree_from, list_from, most_splits}
use Rattle.layout.specs.StoreLaws.{tree-from}
use Rattle.layout.specs.KeptLaws.{number-kept, list-kept}
use Rattle.withdrawing.specs.Moved.{renamed, Renamed}
use Rattle.withdrawing.specs.Dropping.{ListsNamed}

pub lists-none : (es s : List ℕ) → ListsNamed 0 es s s
lists-none es s = record { lists = λ i h. absurd (omega arith); entries = λ i h. absurd (omega arith); outside = λ i h. refl; size = refl }

module _ (es s : List ℕ) (k : ℕ) (u : List ℕ) (g : ListsNamed k es s u) where
  abbrev n : Numbers
  n = numbers_at s

  abbrev from : ℕ
  from = tree_from n k

  pub list-next : number 2 u from ≡ number 2 s from
  list-next = number-kept s u from (from + 2) (λ i a b. g.outside i (inr a)) 2 from (omega arith) (omega arith)

  module _ (few : (i : ℕ) → i ≤ k → number 2 s (tree_from n i) ≤ most_splits) (t : List ℕ) (r : Renamed (from + 2) (number 2 s from) es 1 u t) where
    before : (i : ℕ) → i < from + 2 → get_or t i 0 ≡ get_or u i 0
    before i h = r.outside i (inl h)

    entries-more : (i : ℕ) → i ≤ k → number 2 t (tree_from n i) ≡ number 2 u (tree_from n i)
    entries-more i h = number-kept u t 0 (from + 2) (λ j a b. before j b) 2 (tree_from n i) (omega arith) (omega (arith, tree-from n i, tree-from n k))

    entries-held : (i : ℕ) → (i < k) ⊎ (k ≤ i) → i ≤ k → number 2 u (tree_from n i) ≡ number 2 s (tree_from n i)
    entries-held i (inl h) l = g.entries i h
    entries-held i (inr h) l = let e : i ≡ k = omega arith in rw e list-next

    list-here : list_from t from ≡ map (renamed es 1) (list_from s from)
    unfolding list_from
    list-here =
        rw (entries-more k (omega arith), list-next)
        (r.column ∙ ap (map (renamed es 1)) (column-same 2 (from + 2) (number 2 s from) u s (λ i a b. g.outside i (inr (omega arith)))))

    lists-each : (i : ℕ) → (i < k) ⊎ (k ≤ i) → i ≤ k → list_from t (tree_from n i) ≡ map (renamed es 1) (list_from s (tree_from n i))
    lists-each i (inl h) l =
        list-kept u t 0 (from + 2) (λ j a b. before j b) (tree_from n i) (omega arith) (omega (arith, tree-from n i, tree-from n k, g.entries i h, few i l))
        ∙ g.lists i h
    lists-each i (inr h) l = let e : i ≡ k = omega arith in rw e list-here

    pub lists-more : ListsNamed (suc k) es s t
    lists-more = record {
      lists = λ i h. lists-each i (less-or-not i k) (omega arith);
      entries = λ i h. entries-more i (omega arith) ∙ entries-held i (less-or-not i k) (omega arith);
      outside =
          λ i h.
          r.outside i (⊎_map (λ q. omega (arith, tree-from n 0, tree-from n k)) (λ q. omega (arith, tree-from n (suc k), tree-from n k, few k (omega arith))) h)
          ∙ g.outside i (⊎_map (λ q. q) (λ q. omega (arith, tree-from n (suc k), tree-from n k)) h);
      size = r.size ∙ g.size;
    }
