-- Parts of which every row stays. Assumes nothing.
--
--   all_stay     they are as they were
use Rattle.std.specs.Prelude.{ℕ, zero, suc, ◌+◌, ◌≤◌, ◌<◌, ◌≡◌, ◌⊎◌, Bool, true, false, List, [], map, length, get_or}
use Rattle.std.proofs.Common.{arith, sym, ap, ◌∙◌, inl, inr, ext_get_or}
use Rattle.std.proofs.Math.Path.{refl}
use Rattle.std.proofs.Math.ListN.{get_or-map}
use Rattle.std.proofs.Math.ListN as lists
use Rattle.trees.specs.Plain.{keep}
use Rattle.trees.specs.Opening.{Opening}
use Rattle.theorems.specs.ListLaws.{less-or-not, Mem}
use Rattle.layout.specs.Store.{Parts, splits_in, trees_in, mask_in, identifier_in, count_in, link_in, list_in}
use Rattle.layout.specs.Sound.{Sound}
use Rattle.layout.specs.UpToLaws.{length-map, map_at, mem-at}
use Rattle.layout.specs.OrderLaws.{row_below}
use Rattle.withdrawing.specs.Left.{stays, rows_left, new_row, new_entry, without_rows}
use Rattle.withdrawing.specs.LeftLaws.{left-length, left-row, row_next, row-held, row-most, entry-none, entry-stays}
use Rattle.withdrawing.specs.LeavingLaws.{link-lower, start-lower}
use Rattle.withdrawing.specs.KeepLaws.{keep_all, map-self}

-- a row more is at most one row left more
row-slow : (p : Parts) (m n : ℕ) → m ≤ n → new_row p n + m ≤ new_row p m + n
row-slow p m zero h = let e : m ≡ 0 = omega arith in rw e (omega arith)
row-slow p m (suc n) h = go (less-or-not n m) (stays p n) refl (row-slow p m n)
  where
    go : (n < m) ⊎ (m ≤ n) → (b : Bool) → stays p n ≡ b → (m ≤ n → new_row p n + m ≤ new_row p m + n) → new_row p (suc n) + m ≤ new_row p m + suc n
    go (inl l) b e f = let d : m ≡ suc n = omega arith in rw d (omega arith)
    go (inr l) true e f = omega (arith, row_next p n e, f l)
    go (inr l) false e f = omega (arith, row-held p n e, f l)

module _ (p : Parts) (all : new_row p (splits_in p) ≡ splits_in p) where
  abbrev n : ℕ
  n = splits_in p

  row-own : (r : ℕ) → r ≤ n → new_row p r ≡ r
  row-own r h = omega (arith, row-slow p r n h, row-most p r)

  each-stays : (r : ℕ) → r < n → stays p r ≡ true
  each-stays r h = go (stays p r) refl
    where
      go : (b : Bool) → stays p r ≡ b → b ≡ true
      go true e = refl
      go false e = absurd (omega (arith, row-held p r e, row-own r (omega arith), row-own (suc r) h))

  entry-own : (e : ℕ) → e ≤ n → new_entry p e ≡ e
  entry-own zero h = entry-none p
  entry-own (suc r) h = entry-stays p r h (each-stays r h) ∙ ap suc (row-own r (omega arith))

  left-own : (j : ℕ) → j < n → get_or (rows_left p n) j 0 ≡ j
  left-own j h = let l = left-row p n j (rw all h) in let b = l.below in sym (row-own _ (omega arith)) ∙ l.becomes

  -- a column of the rows left is the column
  column-own : (g : ℕ → ℕ) (l : List ℕ) → length l ≡ n → ((r : ℕ) → r < n → g r ≡ get_or l r 0) → map g (rows_left p n) ≡ l
  column-own g l size same =
      let e = left-length p n in
      ext_get_or 0 _ _ (length-map g (rows_left p n) ∙ e ∙ all ∙ sym size) (λ j h.
      let b : j < n = omega (arith, length-map g (rows_left p n)) in
      map_at g (rows_left p n) j (omega (arith, e)) ∙ ap g (left-own j b) ∙ same j b)

  module _ (o : Opening) (f : Sound o p) where
    order-own : map (new_row p) (keep (stays p) p.order) ≡ p.order
    order-own =
        let below = row_below p f.shaped.order f.splits in
        ap (map (new_row p)) (keep_all (stays p) p.order (λ r m. each-stays r (below r m))) ∙ map-self (new_row p) p.order (λ r m. row-own r (let b = below r m in omega arith))

    link-own : (r : ℕ) → r < n → new_entry p (link_in p r) ≡ link_in p r
    link-own r b = entry-own (link_in p r) (omega (arith, link-lower o p f r b))

    start-own : (e : ℕ) → Mem e p.starts → new_entry p e ≡ e
    start-own e m =
        let q = mem-at p.starts e m in
        entry-own e (omega (arith, q.2, start-lower o p f q.0 (omega (arith, q.1, f.shaped.starts))))

    lists-own : map (map (new_row p)) p.lists ≡ p.lists
    lists-own =
        let F = map (new_row p) in
        ext_get_or [] _ _ (lists.length-map p.lists F) (λ i h.
        let b : i < trees_in p = omega (arith, lists.length-map p.lists F) in
        get_or-map F p.lists i [] ∙ map-self (new_row p) (list_in p i) (λ r m. row-own r (let l = (f.lists i b).numbers-below r m in omega arith)))

    pub all_stay : without_rows p ≡ p
    unfolding without_rows
    all_stay i = record {
      masks = column-own (mask_in p) p.masks refl (λ r h. refl) i;
      identifiers = column-own (identifier_in p) p.identifiers f.shaped.identifiers (λ r h. refl) i;
      counts = column-own (count_in p) p.counts f.shaped.counts (λ r h. refl) i;
      links = column-own (λ r. new_entry p (link_in p r)) p.links f.shaped.links link-own i;
      order = order-own i;
      starts = map-self (new_entry p) p.starts start-own i;
      lists = lists-own i;
      branches = p.branches;
      lengths = p.lengths;
      texts = p.texts;
    }
