-- The steps of taking the rows that no tree lists out of a store leave its parts without them. Assumes nothing.
--
--   names-asked, order-asked, columns-asked     what each step asks
--   found-few                                   the rows that stay are few
--   dropped                                     what all steps leave
--   none_dropped                                nothing has to be done where every row stays
use Rattle.std.specs.Prelude.{ℕ, suc, ◌+◌, ◌*◌, ◌≤◌, ◌<◌, ◌≡◌, refl, ◌⊎◌, List, [], map, length, get_or, take}
use Rattle.std.proofs.Common.{mul-le-mul_left, mul-suc, arith, ap, ◌∙◌, inl, inr, ext_get_or}
use Rattle.std.proofs.Math.Path.{sym}
use Rattle.std.proofs.Math.Logic.{⊎_map}
use Rattle.trees.specs.Plain.{keep}
use Rattle.trees.specs.Opening.{Numbers, most_room}
use Rattle.theorems.specs.ListLaws.{map_same}
use Rattle.fields.specs.Field.{number, put}
use Rattle.fields.specs.FieldLaws.{put-length, put-outside, number_put, number_same}
use Rattle.head.specs.Head.{numbers_at, opening_at}
use Rattle.head.specs.HeadLaws.{up_to-same}
use Rattle.layout.specs.Columns.{column_at, column-same}
use Rattle.layout.specs.Store.{tree_from, masks_from, identifiers_from, counts_from, links_from, order_from, places_from, branches_from, lengths_from, Parts, branches_of, lengths_at, parts_at, trees_held_at, splits_held_at, mask_at, identifier_at, count_at, link_at, list_at}
use Rattle.layout.specs.StoreLaws.{tree-from, masks-from, identifiers-from, counts-from, links-from, order_from_lem, places-from, branches-from, lengths-from, lengths-same, size_is, trees-held-is, list_length, mask_is, identifier-is, count-is, length-is}
use Rattle.layout.specs.WholeFacts.{HeadAt}
use Rattle.layout.specs.Sound.{Sound}
use Rattle.layout.specs.InsideLaws.{ranges, splits-few}
use Rattle.layout.specs.KeptLaws.{Kept, number-kept, list-kept, lengths-kept, texts-kept, numbers-kept, opening-kept}
use Rattle.withdrawing.specs.Left.{stays, rows_left, new_row, new_entry, without_rows, Turned}
use Rattle.withdrawing.specs.LeftLaws.{left-length, left-mem, row-most}
use Rattle.withdrawing.specs.WithoutRowsLaws.{leave-trees, leave-list}
use Rattle.withdrawing.specs.AllStayLaws.{all_stay}
use Rattle.withdrawing.specs.Dropping.{LeftIn, Becoming, NamedAnew, Ordered, OrderClosed, RowsNamed, Columned, ColumnsClosed}
use Rattle.withdrawing.specs.LeftInLaws.{left-becoming}
use Rattle.withdrawing.specs.PartsAtLaws.{masks-at, identifiers-at, counts-at, links-at, order-at, starts-at, list-is, branches_at, lengths-at, texts-at}
use Rattle.withdrawing.specs.RowsNamedLaws.{order-next, columns-next, rows_named}

-- ---- every row named anew, the columns closed, and the number of splits put

module _ (s : List ℕ) (h : HeadAt s) (f : Sound (opening_at s) (parts_at s)) (u : List ℕ) (x : RowsNamed s u) where
  abbrev p : Parts
  p = parts_at s

  abbrev n : Numbers
  n = numbers_at s

  abbrev k : ℕ
  k = splits_held_at s

  abbrev rs : List ℕ
  rs = rows_left p k

  -- how many rows stay
  abbrev m : ℕ
  m = new_row p k

  numbers-before : numbers_at u ≡ n
  numbers-before =
      let z = tree-from n 0 in
      numbers-kept s u (λ i a c. x.front i a (omega arith)) (λ i a c. x.front i (omega arith) (omega arith))

  module _ (v : List ℕ) (columns : ColumnsClosed rs u v) where
    abbrev w : List ℕ
    w = put 2 v 12 m

    size : length w ≡ length s
    size = put-length 2 v 12 m ∙ columns.size ∙ x.size

    outside : (i : ℕ) → (i < masks_from n) ⊎ (order_from n ≤ i) → get_or v i 0 ≡ get_or u i 0
    outside = rw numbers-before at columns.outside

    -- the bytes before the columns but for those of the number of splits, and those behind the columns
    before : (i : ℕ) → (i < 12) ⊎ (14 ≤ i) → i < masks_from n → get_or w i 0 ≡ get_or u i 0
    before i a c = put-outside 2 v 12 m i a ∙ outside i (inl c)

    rear : (i : ℕ) → order_from n ≤ i → get_or w i 0 ≡ get_or u i 0
    rear i c = put-outside 2 v 12 m i (inr (omega (arith, order_from_lem n, masks-from n))) ∙ outside i (inr c)

    front : (i : ℕ) → i < tree_from n 0 → (i < 12) ⊎ (14 ≤ i) → get_or w i 0 ≡ get_or s i 0
    front i c a = before i a (omega (arith, tree-from n 0, masks-from n)) ∙ x.front i (omega arith) c

    behind : (i : ℕ) → branches_from n ≤ i → get_or w i 0 ≡ get_or s i 0
    behind i a = rear i (omega (arith, branches-from n, order_from_lem n)) ∙ x.behind i a

    numbers : numbers_at w ≡ n
    numbers = let z = tree-from n 0 in numbers-kept s w (λ i a c. front i (omega arith) (inl (omega arith))) (λ i a c. front i (omega arith) (inr a))

    trees-same : number 2 w 10 ≡ number 2 s 10
    trees-same = let z = tree-from n 0 in number_same 2 w s 10 10 (λ i c. front (10 + i) (omega arith) (inl (omega arith)))

    splits-now : number 2 w 12 ≡ m
    splits-now = number_put 2 v 12 m (omega (arith, columns.size, x.size, h.head-there)) (omega (arith, row-most p k, splits-few s h))

    -- ---- the columns

    -- the numbers c of each row, which stand from a on
    column-left : (c a : ℕ) (g : ℕ → ℕ) → masks_from n ≤ a → column_at c a (length rs) v ≡ map (λ r. number c u (a + c * r)) rs
        → ((r : ℕ) → r < k → number c u (a + c * r) ≡ g r) → column_at c a m w ≡ map g rs
    column-left c a g l e same =
        column-same c a m w v (λ i q r. put-outside 2 v 12 m i (inr (omega (arith, masks-from n))))
        ∙ rw (left-length p k) at e ∙ map_same _ g rs (λ r q. same r (left-mem p k r q).0)

    -- a field before the links is as it was
    field-same : (c a r : ℕ) → r < k → masks_from n ≤ a → a + c * k ≤ links_from n → number c u (a + c * r) ≡ number c s (a + c * r)
    field-same c a r l q z =
        number-kept s u (masks_from n) (links_from n) x.fields c (a + c * r) (omega arith) (omega (arith, mul-suc c r, mul-le-mul_left c l))

    masks-left : (parts_at w).masks ≡ map (mask_at s) rs
    masks-left =
        masks-at w
        ∙ rw (numbers, splits-now) (column-left 8 (masks_from n) (mask_at s) (omega arith) (rw numbers-before at columns.masks) (λ r l.
        field-same 8 (masks_from n) r l (omega arith) (omega (arith, links-from n, h.splits-fit)) ∙ sym (mask_is s r l)))

    identifiers-left : (parts_at w).identifiers ≡ map (identifier_at s) rs
    identifiers-left =
        let i = identifiers-from n in
        identifiers-at w
        ∙ rw (numbers, splits-now) (column-left 8 (identifiers_from n) (identifier_at s) (omega arith) (rw numbers-before at columns.identifiers) (λ r l.
        field-same 8 (identifiers_from n) r l (omega arith) (omega (arith, links-from n, h.splits-fit)) ∙ sym (identifier-is s r l)))

    counts-left : (parts_at w).counts ≡ map (count_at s) rs
    counts-left =
        let i = counts-from n in
        counts-at w
        ∙ rw (numbers, splits-now) (column-left 4 (counts_from n) (count_at s) (omega arith) (rw numbers-before at columns.counts) (λ r l.
        field-same 4 (counts_from n) r l (omega arith) (omega (arith, links-from n, h.splits-fit)) ∙ sym (count-is s r l)))

    links-left : (parts_at w).links ≡ map (λ r. new_entry p (link_at s r)) rs
    links-left =
        let i = links-from n in
        links-at w ∙ rw (numbers, splits-now) (column-left 2 (links_from n) (λ r. new_entry p (link_at s r)) (omega arith) (rw numbers-before at columns.links) x.links)

    order-left : (parts_at w).order ≡ map (new_row p) (keep (stays p) p.order)
    order-left = order-at w ∙ rw (numbers, splits-now) (column-same 2 (order_from n) m w u (λ i a c. rear i a) ∙ x.order)

    starts-left : (parts_at w).starts ≡ map (new_entry p) p.starts
    starts-left =
        starts-at w ∙ rw numbers (column-same 2 (places_from n) n.places w u (λ i a c. rear i (omega (arith, order_from_lem n, places-from n))) ∙ x.starts)

    -- ---- the trees

    tree-before : (i : ℕ) → i < trees_held_at s → tree_from n (suc i) ≤ masks_from n
    tree-before i l = omega (arith, tree-from n (suc i), masks-from n, h.trees-fit)

    trees-left : trees_held_at w ≡ trees_held_at s
    trees-left = trees-held-is w ∙ trees-same ∙ sym (trees-held-is s)

    list_left : (i : ℕ) → i < trees_held_at s → list_at w i ≡ map (new_row p) (list_at s i)
    list_left i l =
        list-is w i (omega (arith, trees-left))
        ∙ rw numbers
        (list-kept u w 14 (masks_from n) (λ j a c. before j (inr a) c) (tree_from n i) (omega (arith, tree-from n i))
        (omega (arith, x.entries i l, list_length s i l, (f.lists i l).few, tree-from n i, tree-from n (suc i), tree-before i l))
        ∙ x.lists i l)

    lists-left : (parts_at w).lists ≡ (without_rows p).lists
    lists-left =
        ext_get_or [] _ _ (trees-left ∙ sym (leave-trees p)) (λ i l. list_left i (omega (arith, trees-left)) ∙ sym (leave-list p i))

    entries-same : (i : ℕ) → i < trees_held_at s → number 2 w (tree_from n i) ≡ number 2 s (tree_from n i)
    entries-same i l =
        number-kept u w 14 (masks_from n) (λ j a c. before j (inr a) c) 2 (tree_from n i) (omega (arith, tree-from n i))
        (omega (arith, tree-from n i, tree-from n (suc i), tree-before i l))
        ∙ x.entries i l

    branches-same : (parts_at w).branches ≡ p.branches
    branches-same =
        branches_at w
        ∙ rw (numbers, trees-same)
        (up_to-same _ (λ i. lengths_at s (lengths_from n i) (branches_of n (number 2 s (tree_from n i)))) (number 2 s 10) (λ i l.
        rw (entries-same i (omega (arith, trees-held-is s)))
        (lengths-same w s (lengths_from n i) (lengths_from n i) _ (λ j q.
        number_same 8 w s _ _ (λ c d. behind (lengths_from n i + 8 * j + c) (omega (arith, lengths-from n i)))))))
        ∙ sym (branches_at s)

    -- ---- the lanes

    lanes-same : Kept s w 14 (tree_from n 0)
    lanes-same i a c = front i c (inr a)

    lengths-left : (parts_at w).lengths ≡ p.lengths
    lengths-left =
        lengths-at w ∙ rw (ap (λ (y : Numbers). y.lanes) numbers) (lengths-kept s w 14 (tree_from n 0) lanes-same n (omega arith) (omega arith)) ∙ sym (lengths-at s)

    texts-left : (parts_at w).texts ≡ p.texts
    unfolding opening_at
    texts-left =
        texts-at w
        ∙ rw (ap (λ (y : Numbers). y.lanes) numbers)
        (texts-kept s w 14 (tree_from n 0) lanes-same n (omega arith) (omega arith) (omega (arith, tree-from n 0, masks-from n, size_is s, h.reached)) size (λ l d.
        omega (arith, f.lanes l d, length-is s l d)))
        ∙ sym (texts-at s)

    -- ---- all of it

    parts : parts_at w ≡ without_rows p
    unfolding without_rows
    parts i = record {
      masks = masks-left i;
      identifiers = identifiers-left i;
      counts = counts-left i;
      links = links-left i;
      order = order-left i;
      starts = starts-left i;
      lists = lists-left i;
      branches = branches-same i;
      lengths = lengths-left i;
      texts = texts-left i;
    }

    all-steps : ((i : ℕ) → get_or s i 0 < 256) → Turned s (without_rows p) w
    all-steps bytes =
        let z = tree-from n 0 in
        record {
          becomes = record {
            parts = parts;
            opening =
                opening-kept s w (λ i a c. front i (omega arith) (inl (omega arith))) (λ i a c. front i (omega arith) (inr a)) h.head-there size bytes (ranges s h).most-taxa;
            size = size;
            behind = λ i a. behind i (omega (arith, size_is s, branches-from n));
          };
          front = λ i a c. front i a (⊎_map (λ q. omega arith) (λ q. q) c);
        }

-- ---- by the rows and entries that were found

module _ (s : List ℕ) (h : HeadAt s) (f : Sound (opening_at s) (parts_at s)) (count m : ℕ) (rows es : List ℕ) (held : count ≡ splits_held_at s)
    (left : LeftIn (parts_at s) count m rows es) (long : count < length es) where
  pub names-asked : Becoming (parts_at s) es
  names-asked = left-becoming (parts_at s) count m rows es left held long

  pub found-few : m ≤ most_room
  found-few = omega (arith, left.count, row-most (parts_at s) count, splits-few s h)

  pub none_dropped : m ≡ count → Turned s (without_rows (parts_at s)) s
  none_dropped e =
      let all : new_row (parts_at s) (splits_held_at s) ≡ splits_held_at s = rw held at (sym left.count ∙ e) in
      record { becomes = record { parts = sym (all_stay (parts_at s) all (opening_at s) f); opening = refl; size = refl; behind = λ i a. refl }; front = λ i a c. refl }

  module _ (t : List ℕ) (first : NamedAnew count es s t) where
    pub order-asked : Ordered t count es
    order-asked = rw held (order-next s h f es names-asked t (rw held at first))

    module _ (u : List ℕ) (second : OrderClosed count es t u) where
      pub columns-asked : Columned u (take m rows)
      columns-asked = rw (left.rows-left, held) (columns-next s h f es names-asked t (rw held at first) u (rw held at second))

      pub dropped : (v w : List ℕ) → ColumnsClosed (take m rows) u v → w ≡ put 2 v 12 m → ((i : ℕ) → get_or s i 0 < 256) → Turned s (without_rows (parts_at s)) w
      dropped v w third e bytes =
          rw (e, left.count, held)
          (all-steps s h f u (rows_named s h f es names-asked t (rw held at first) u (rw held at second)) v (rw (left.rows-left, held) at third) bytes)
