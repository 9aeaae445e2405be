-- The lists, links and starts named anew and the order closed: every row is named as the parts without rows name it. Assumes nothing.
--
--   order-next       what closing the order asks, behind the names
--   columns-next     what closing the columns asks, behind the order
--   rows_named       what both steps leave
use Rattle.std.specs.Prelude.{ℕ, suc, ◌+◌, ◌*◌, ◌≤◌, ◌<◌, ◌≡◌, ◌⊎◌, true, ltb, get_or}
use Rattle.std.proofs.Common.{add-one, add-zero, arith, ◌∙◌, inl, inr}
use Rattle.std.proofs.Math.Nat.{sub-zero}
use Rattle.std.proofs.Math.Path.{sym, ap}
use mathlib.Core.List.{List, map}
use Rattle.std.proofs.Math.ListN.{length}
use Rattle.trees.specs.Plain.{keep}
use Rattle.trees.specs.Opening.{Numbers}
use Rattle.theorems.specs.ListLaws.{Mem, map_same, keep-mem}
use Rattle.fields.specs.Field.{number}
use Rattle.head.specs.Head.{numbers_at, opening_at}
use Rattle.layout.specs.Columns.{column_at, column-length, column-at, column-same}
use Rattle.layout.specs.Store.{tree_from, masks_from, counts_from, links_from, order_from, places_from, Parts, list_from, parts_at, trees_held_at, splits_held_at, link_at, list_at}
use Rattle.layout.specs.StoreLaws.{tree-from, masks-from, counts-from, links-from, order_from_lem, places-from, branches-from, size_is, splits-held-is, shaped-at, count-is, link-is, order_is}
use Rattle.layout.specs.WholeFacts.{HeadAt}
use Rattle.layout.specs.Sound.{Sound}
use Rattle.layout.specs.UpToLaws.{mem-at, length-map, map_at}
use Rattle.layout.specs.OrderLaws.{row_below}
use Rattle.layout.specs.KeptLaws.{Kept, number-kept, list-kept, numbers-kept}
use Rattle.withdrawing.specs.Left.{stays, rows_left, new_row, new_entry, without_rows}
use Rattle.withdrawing.specs.LeftLaws.{left-length, left-row, row-most, entry-stays}
use Rattle.withdrawing.specs.KeepLaws.{keep_same}
use Rattle.withdrawing.specs.LeavingLaws.{link-lower, start-lower, listed-stays, leave-sound}
use Rattle.withdrawing.specs.WithoutRowsLaws.{leave-splits}
use Rattle.withdrawing.specs.Moved.{renamed}
use Rattle.withdrawing.specs.Dropping.{Becoming, NamedAnew, counts_at, Ordered, rows_kept, OrderClosed, RowsNamed, Columned}
use Rattle.withdrawing.specs.NamedLaws.{list-few}
use Rattle.withdrawing.specs.PartsAtLaws.{order-at, starts-at, list-is}

module _ (s : List ℕ) (h : HeadAt s) (f : Sound (opening_at s) (parts_at s)) (es : List ℕ) (b : Becoming (parts_at s) es) where
  abbrev p : Parts
  p = parts_at s

  abbrev n : Numbers
  n = numbers_at s

  abbrev k : ℕ
  k = splits_held_at s

  -- how many rows stay
  abbrev m : ℕ
  m = new_row p k

  -- ---- names

  entry_named : (e : ℕ) → e ≤ k → renamed es 0 e ≡ new_entry p e
  unfolding renamed
  entry_named e l = rw (add-zero e, sub-zero) (b e l).1

  row-entry : (r : ℕ) → r < k → stays p r ≡ true → get_or es (r + 1) 0 ≡ suc (new_row p r)
  row-entry r l e = rw (add-one r) ((b (suc r) l).1 ∙ entry-stays p r l e)

  row-renamed : (r : ℕ) → r < k → stays p r ≡ true → renamed es 1 r ≡ new_row p r
  unfolding renamed
  row-renamed r l e = omega (arith, row-entry r l e)

  -- the rows of the order are rows of the splits
  order_below : (r : ℕ) → Mem r p.order → r < k
  order_below = row_below p f.shaped.order f.splits

  -- ---- behind the names

  module _ (t : List ℕ) (first : NamedAnew k es s t) where
    numbers-first : numbers_at t ≡ n
    numbers-first =
        let z = tree-from n 0 in
        numbers-kept s t (λ i a c. first.front i a (omega arith)) (λ i a c. first.front i (omega arith) (omega arith))

    counts_same : (r : ℕ) → r < k → counts_at t r ≡ stays p r
    unfolding counts_at stays
    counts_same r l =
        rw numbers-first
        (ap (ltb 0)
        (number-kept s t (masks_from n) (links_from n) first.fields 4 (counts_from n + 4 * r) (omega (arith, counts-from n)) (omega (arith, counts-from n, links-from n, h.splits-fit))
        ∙ sym (count-is s r l)))

    order_same : column_at 2 (order_from n) k t ≡ p.order
    order_same =
        column-same 2 (order_from n) k t s (λ i a c. first.order i a (omega (arith, order_from_lem n, places-from n, h.splits-fit)))
        ∙ rw (splits-held-is s) (sym (order-at s))

    order_row : (j : ℕ) → j < k → number 2 t (order_from n + 2 * j) < k
    order_row j l =
        let e = number-kept s t (order_from n) (places_from n) first.order 2 (order_from n + 2 * j) (omega arith) (omega (arith, order_from_lem n, places-from n, h.splits-fit)) in
        omega (arith, e, order_is s j l, f.splits.rows-below j l)

    pub order-next : Ordered t k es
    order-next = record {
      head = omega (arith, first.size, h.head-there);
      inside = rw numbers-first (omega (arith, order_from_lem n, size_is s, h.reached, h.splits-fit, first.size));
      rows = rw numbers-first order_row;
      counts = rw numbers-first (omega (arith, counts-from n, order_from_lem n, h.splits-fit));
      long = (b k (omega arith)).0;
      named = λ r l e. omega (arith, row-entry r l (sym (counts_same r l) ∙ e));
    }

    kept-is : rows_kept k t ≡ keep (stays p) p.order
    unfolding rows_kept
    kept-is = rw (numbers-first, order_same) (keep_same (counts_at t) (stays p) p.order (λ r q. counts_same r (order_below r q)))

    kept-length : length (rows_kept k t) ≡ m
    unfolding without_rows
    kept-length =
        ap (λ (l : List ℕ). length l) kept-is ∙ sym (length-map (new_row p) (keep (stays p) p.order))
        ∙ (leave-sound (opening_at s) p f).shaped.order ∙ leave-splits p

    -- ---- behind the order

    module _ (u : List ℕ) (second : OrderClosed k es t u) where
      outside : (i : ℕ) → (i < order_from n) ⊎ (order_from n + 2 * k ≤ i) → get_or u i 0 ≡ get_or t i 0
      outside i (inl a) = rw (numbers-first, kept-length) at second.outside i (inl a)
      outside i (inr a) = rw (numbers-first, kept-length) at second.outside i (inr (omega (arith, row-most p k)))

      -- what lies before the order
      before : Kept t u 0 (order_from n)
      before i a c = outside i (inl c)

      front : Kept s u 0 (tree_from n 0)
      front i a c = before i a (omega (arith, tree-from n 0, masks-from n, order_from_lem n)) ∙ first.front i a c

      numbers-second : numbers_at u ≡ n
      numbers-second =
          let z = tree-from n 0 in
          numbers-kept s u (λ i a c. front i a (omega arith)) (λ i a c. front i (omega arith) (omega arith))

      pub columns-next : Columned u (rows_left p k)
      columns-next = record {
        head = omega (arith, second.size, first.size, h.head-there);
        reached = rw numbers-second (omega (arith, order_from_lem n, size_is s, h.reached, first.size, second.size));
        few = rw (numbers-second, left-length p k) (omega (arith, row-most p k, h.splits-fit));
        rows = rw (numbers-second, left-length p k) (λ j l. let x = left-row p k j l in (x.high, omega (arith, x.below, h.splits-fit)));
      }

      -- ---- all rows

      tree-before : (i : ℕ) → i < trees_held_at s → tree_from n (suc i) ≤ order_from n
      tree-before i l = omega (arith, tree-from n (suc i), masks-from n, order_from_lem n, h.trees-fit)

      lists-left : (i : ℕ) → i < trees_held_at s → list_from u (tree_from n i) ≡ map (new_row p) (list_at s i)
      lists-left i l =
          list-kept t u 0 (order_from n) before (tree_from n i) (omega arith)
          (omega (arith, first.entries i l, list-few es s h f b i l, tree-from n i, tree-from n (suc i), tree-before i l))
          ∙ first.lists i l ∙ rw (← list-is s i l)
          (map_same (renamed es 1) (new_row p) (list_at s i) (λ r q. row-renamed r ((f.lists i l).numbers-below r q) (listed-stays (opening_at s) p f i r l q)))

      entries-left : (i : ℕ) → i < trees_held_at s → number 2 u (tree_from n i) ≡ number 2 s (tree_from n i)
      entries-left i l =
          number-kept t u 0 (order_from n) before 2 (tree_from n i) (omega arith) (omega (arith, tree-from n i, tree-from n (suc i), tree-before i l)) ∙ first.entries i l

      links-left : (r : ℕ) → r < k → number 2 u (links_from n + 2 * r) ≡ new_entry p (link_at s r)
      links-left r l =
          number-kept t u 0 (order_from n) before 2 (links_from n + 2 * r) (omega arith) (omega (arith, order_from_lem n, links-from n, h.splits-fit))
          ∙ sym (column-at 2 (links_from n) k t r l) ∙ ap (λ (x : List ℕ). get_or x r 0) first.links
          ∙ map_at (renamed es 0) (column_at 2 (links_from n) k s) r (omega (arith, column-length 2 (links_from n) k s))
          ∙ ap (renamed es 0) (column-at 2 (links_from n) k s r l ∙ sym (link-is s r l))
          ∙ entry_named (link_at s r) (omega (arith, link-lower (opening_at s) p f r l))

      order-left : column_at 2 (order_from n) m u ≡ map (new_row p) (keep (stays p) p.order)
      order-left =
          rw (numbers-first, kept-length, kept-is) at second.column
          ∙ map_same (renamed es 1) (new_row p) (keep (stays p) p.order) (λ r q.
          let x = keep-mem (stays p) p.order r q in row-renamed r (order_below r x.0) x.1)

      starts-left : column_at 2 (places_from n) n.places u ≡ map (new_entry p) p.starts
      unfolding opening_at
      starts-left =
          column-same 2 (places_from n) n.places u t (λ i a c. outside i (inr (omega (arith, order_from_lem n, places-from n, h.splits-fit))))
          ∙ first.starts ∙ ap (map (renamed es 0)) (sym (starts-at s))
          ∙ map_same (renamed es 0) (new_entry p) p.starts (λ x q.
          let i = mem-at p.starts x q in
          let l : i.0 < n.places = omega (arith, i.1, (shaped-at s).starts) in
          entry_named x (omega (arith, i.2, start-lower (opening_at s) p f i.0 l)))

      pub rows_named : RowsNamed s u
      rows_named = record {
        lists = lists-left;
        entries = entries-left;
        links = links-left;
        order = order-left;
        starts = starts-left;
        front = front;
        fields = λ i a c. before i (omega arith) (omega (arith, links-from n, order_from_lem n)) ∙ first.fields i a c;
        behind = λ i a. outside i (inr (omega (arith, branches-from n, order_from_lem n, h.splits-fit))) ∙ first.behind i a;
        size = second.size ∙ first.size;
      }
