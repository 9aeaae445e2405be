-- What naming rows anew asks, in lists, links and starts, and what it leaves. Assumes nothing.
--
--   list-few                   a tree has at most 62 splits
--   list-asks                  the next list lies inside, and its rows have names
--   links-ask, starts-ask      so it is with the links and the starts
--   named-anew                 all three steps
use Rattle.std.specs.Prelude.{ℕ, suc, ◌+◌, ◌*◌, ◌≤◌, ◌<◌, ◌≡◌, List, map, length, get_or}
use Rattle.std.proofs.Common.{add-one, arith, ap, ◌∙◌, inl, inr}
use Rattle.trees.specs.Opening.{Numbers}
use Rattle.theorems.specs.ListLaws.{Mem, mem-get_d}
use Rattle.fields.specs.Field.{number}
use Rattle.fields.specs.FieldLaws.{number_same}
use Rattle.head.specs.Head.{numbers_at, opening_at}
use Rattle.layout.specs.Columns.{column-same}
use Rattle.layout.specs.Store.{tree_from, masks_from, links_from, order_from, places_from, branches_from, list_from, parts_at, trees_held_at, splits_held_at, list_at, most_splits}
use Rattle.layout.specs.StoreLaws.{tree-from, masks-from, links-from, order_from_lem, places-from, branches-from, size_is, list_length, list_at_lem, link-is, start_is}
use Rattle.layout.specs.KeptLaws.{number-kept, list-kept}
use Rattle.layout.specs.WholeFacts.{HeadAt}
use Rattle.layout.specs.Sound.{Sound}
use Rattle.layout.specs.InsideLaws.{tree-inside}
use Rattle.withdrawing.specs.Left.{new_row}
use Rattle.withdrawing.specs.LeftLaws.{entry-stays}
use Rattle.withdrawing.specs.LeavingLaws.{link-lower, start-lower, listed-stays}
use Rattle.withdrawing.specs.Moved.{renamed, Renamed, Named}
use Rattle.withdrawing.specs.Dropping.{Becoming, ListsNamed, NamedAnew}

module _ (es s : List ℕ) (h : HeadAt s) (f : Sound (opening_at s) (parts_at s)) (b : Becoming (parts_at s) es) where
  abbrev n : Numbers
  n = numbers_at s

  pub list-few : (i : ℕ) → i < trees_held_at s → number 2 s (tree_from n i) ≤ most_splits
  list-few i l = omega (arith, list_length s i l, (f.lists i l).few)

  -- a row that stays has an entry of 1 or more
  row_named : (r : ℕ) → (i : ℕ) → i < trees_held_at s → Mem r (list_at s i) → (r + 1 < length es) × (1 ≤ get_or es (r + 1) 0)
  row_named r i l m =
      let below = (f.lists i l).numbers-below r m in
      let x = b (r + 1) (omega arith) in
      let e : get_or es (r + 1) 0 ≡ suc (new_row (parts_at s) r) = x.1 ∙ rw (add-one r) (entry-stays (parts_at s) r below (listed-stays (opening_at s) (parts_at s) f i r l m)) in
      (x.0, omega arith)

  list-named : (i : ℕ) → i < trees_held_at s → Named (tree_from n i + 2) (number 2 s (tree_from n i)) es 1 s
  list-named i l j q =
      rw (← list_at_lem s i l j q) (row_named (get_or (list_at s i) j 0) i l (mem-get_d (list_at s i) j (omega (arith, list_length s i l))))

  pub list-asks : (k : ℕ) (u : List ℕ) → ListsNamed k es s u → k < trees_held_at s → (from x : ℕ) → from ≡ tree_from n k → x ≡ number 2 s (tree_from n k)
      → (from + 2 + 2 * x ≤ length u) × Named (from + 2) x es 1 u
  list-asks k u g l from x d e =
      rw (d, e) (
        omega (arith, tree-inside s h k l, list-few k l, g.size),
        λ j q.
            rw (number_same 2 u s (tree_from n k + 2 + 2 * j) (tree_from n k + 2 + 2 * j) (λ i a. g.outside _ (inr (omega arith)))) (list-named k l j q),
      )

  -- ---- links and starts

  abbrev trees : ℕ
  trees = trees_held_at s

  lists-end : tree_from n trees ≤ masks_from n
  lists-end = omega (arith, tree-from n trees, masks-from n, h.trees-fit)

  module _ (t : List ℕ) (first : ListsNamed trees es s t) where
    pub links-ask : (k from : ℕ) → k ≡ splits_held_at s → from ≡ links_from n → (from + 2 * k ≤ length t) × Named from k es 0 t
    links-ask k from d e =
        rw (d, e) (
          omega (arith, links-from n, size_is s, h.reached, h.splits-fit, first.size),
          λ j q.
              let x = number_same 2 t s (links_from n + 2 * j) (links_from n + 2 * j) (λ i a. first.outside _ (inr (omega (arith, lists-end, links-from n)))) in
              let y : number 2 t (links_from n + 2 * j) ≤ splits_held_at s = omega (arith, x, link-is s j q, link-lower (opening_at s) (parts_at s) f j q) in
              (omega (arith, (b _ y).0), omega arith),
        )

    module _ (k : ℕ) (held : k ≡ splits_held_at s) (u : List ℕ) (second : Renamed (links_from n) k es 0 t u) where
      links_end : links_from n + 2 * k ≤ order_from n
      links_end = omega (arith, links-from n, order_from_lem n, h.splits-fit)

      pub starts-ask : (places from : ℕ) → places ≡ n.places → from ≡ places_from n → (from + 2 * places ≤ length u) × Named from places es 0 u
      unfolding opening_at
      starts-ask places from d e =
          rw (d, e) (
            omega (arith, places-from n, size_is s, h.reached, first.size, second.size),
            λ j q.
                let x = number_same 2 u s (places_from n + 2 * j) (places_from n + 2 * j) (λ i a.
                second.outside _ (inr (omega (arith, links_end, order_from_lem n, places-from n))) ∙ first.outside _ (inr (omega (arith, lists-end, places-from n)))) in
                let y : number 2 u (places_from n + 2 * j) ≤ splits_held_at s = omega (arith, x, start_is s j q, start-lower (opening_at s) (parts_at s) f j q) in
                (omega (arith, (b _ y).0), omega arith),
          )

      module _ (v : List ℕ) (third : Renamed (places_from n) n.places es 0 u v) where
        -- what lies before the links, between them and the places, and behind these
        before : (i : ℕ) → i < links_from n → get_or v i 0 ≡ get_or t i 0
        before i l = third.outside i (inl (omega (arith, places-from n, links-from n))) ∙ second.outside i (inl l)

        between : (i : ℕ) → order_from n ≤ i → i < places_from n → get_or v i 0 ≡ get_or s i 0
        between i l r = third.outside i (inl r) ∙ second.outside i (inr (omega (arith, links_end))) ∙ first.outside i (inr (omega (arith, lists-end, order_from_lem n)))

        behind : (i : ℕ) → branches_from n ≤ i → get_or v i 0 ≡ get_or s i 0
        behind i l =
            third.outside i (inr (omega (arith, branches-from n, places-from n)))
            ∙ second.outside i (inr (omega (arith, links_end, branches-from n, order_from_lem n)))
            ∙ first.outside i (inr (omega (arith, lists-end, branches-from n)))

        lists-kept : (i : ℕ) → i < trees → list_from v (tree_from n i) ≡ list_from t (tree_from n i)
        lists-kept i l =
            list-kept t v 0 (links_from n) (λ j a c. before j c) (tree_from n i) (omega arith)
            (omega (arith, first.entries i l, list-few i l, tree-from n i, tree-from n trees, lists-end, links-from n))

        entries-kept : (i : ℕ) → i < trees → number 2 v (tree_from n i) ≡ number 2 t (tree_from n i)
        entries-kept i l =
            number-kept t v 0 (links_from n) (λ j a c. before j c) 2 (tree_from n i) (omega arith) (omega (arith, tree-from n i, tree-from n trees, lists-end, links-from n))

        pub named-anew : NamedAnew k es s v
        named-anew = record {
          lists = λ i l. lists-kept i l ∙ first.lists i l;
          entries = λ i l. entries-kept i l ∙ first.entries i l;
          links =
              column-same 2 (links_from n) k v u (λ i a c. third.outside i (inl (omega (arith, links_end, order_from_lem n, places-from n)))) ∙ second.column
              ∙ ap (map (renamed es 0)) (column-same 2 (links_from n) k t s (λ i a c. first.outside i (inr (omega (arith, lists-end, links-from n)))));
          starts =
              third.column ∙ ap (map (renamed es 0)) (column-same 2 (places_from n) n.places u s (λ i a c.
              second.outside i (inr (omega (arith, links_end, order_from_lem n, places-from n))) ∙ first.outside i (inr (omega (arith, lists-end, places-from n)))));
          front = λ i a c. before i (omega (arith, lists-end, tree-from n 0, tree-from n trees, links-from n)) ∙ first.outside i (inl c);
          fields = λ i a c. before i c ∙ first.outside i (inr (omega (arith, lists-end)));
          order = λ i a c. between i a c;
          behind = behind;
          size = third.size ∙ second.size ∙ first.size;
        }
