-- How a walk over the rows finds those that stay. Assumes nothing.
--
--   walk_none                  before the first row
--   walk-stays, walk-leaves    one row more, which stays or leaves
--   left-becoming              the entries found say what each entry becomes
use Rattle.std.specs.Prelude.{ℕ, suc, ◌+◌, ◌≤◌, ◌<◌, ◌≡◌, true, false, List, [], ◌∷◌, ◌++◌, length, get_or, set}
use Rattle.std.proofs.Common.{add-one, arith, sym, ap, ap₂, ◌∙◌, take-suc-set, get_or-take}
use Rattle.layout.specs.Store.{Parts, splits_in, link_in}
use Rattle.withdrawing.specs.Left.{stays}
use Rattle.withdrawing.specs.LeftLaws.{left-none, left-more, left_less, row_first, row_next, row-held, entries-first, entries-more, entries-less, entries_at}
use Rattle.withdrawing.specs.Dropping.{LeftIn, Becoming}

pub walk_none : (p : Parts) (rows entries : List ℕ) → 0 < length entries → LeftIn p 0 0 rows (set entries 0 0)
walk_none p rows entries h = record { count = sym (row_first p); rows-left = sym (left-none p); entries-left = take-suc-set entries 0 0 h ∙ sym (entries-first p) }

-- a list with one more at its end
abbrev more : List ℕ → ℕ → List ℕ
more l x = l ++ x ∷ []

module _ (p : Parts) (k m : ℕ) (rows entries : List ℕ) (f : LeftIn p k m rows entries) (h : suc k < length entries) where
  pub walk-stays : stays p k ≡ true → m < length rows → LeftIn p (k + 1) (m + 1) (set rows m k) (set entries (k + 1) (m + 1))
  walk-stays e l =
      rw (add-one k, add-one m)
      record {
        count = ap suc f.count ∙ sym (row_next p k e);
        rows-left = take-suc-set rows m k l ∙ ap (λ (x : List ℕ). more x k) f.rows-left ∙ sym (left-more p k e);
        entries-left = take-suc-set entries (suc k) (suc m) h ∙ ap₂ more f.entries-left (ap suc f.count) ∙ sym (entries-more p k e);
      }

  pub walk-leaves : stays p k ≡ false → (link : ℕ) → link ≡ link_in p k → link ≤ k → LeftIn p (k + 1) m rows (set entries (k + 1) (get_or entries link 0))
  walk-leaves e link i l =
      let x = sym (get_or-take (suc k) entries link 0 (omega arith)) ∙ ap₂ (λ (y : List ℕ) (z : ℕ). get_or y z 0) f.entries-left i in
      rw (add-one k)
      record {
        count = f.count ∙ sym (row-held p k e);
        rows-left = f.rows-left ∙ sym (left_less p k e);
        entries-left = take-suc-set entries (suc k) _ h ∙ ap₂ more f.entries-left x ∙ sym (entries-less p k e);
      }

pub left-becoming : (p : Parts) (n m : ℕ) (rows entries : List ℕ) → LeftIn p n m rows entries → n ≡ splits_in p → n < length entries → Becoming p entries
left-becoming p n m rows entries f i h e l =
    (omega arith, sym (get_or-take (suc n) entries e 0 (omega arith)) ∙ ap (λ (y : List ℕ). get_or y e 0) f.entries-left ∙ entries_at p n e (omega arith) (omega arith))
