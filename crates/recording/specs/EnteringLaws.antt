-- Entering a tree: one turn of the loop, and what all steps leave. Assumes nothing.
--
--   next_from s                       where the next tree's list begins
--   Room s, room-is                  where it and the counts lie
--   Entering s rs j u                u is s with the first j of the rows rs written behind the place for their number, and counted
--   entering-none, entering-more     the loop
--   entering-fits                    the next row fits 2 bytes; its count lies inside, and one more fits
--   entered                          all steps
use Rattle.std.specs.Prelude.{ℕ, suc, ◌+◌, ◌*◌, ◌≤◌, ◌<◌, ◌≡◌, ◌⊎◌, Bool, ◌||◌, List, ◌∷◌, map, eqb, length, get_or, take, drop}
use Rattle.std.proofs.Common.{add-one, arith, ◌∙◌, inl, inr, drop-cons}
use Rattle.std.proofs.Math.Path.{refl, ap}
use Rattle.std.proofs.Math.Logic.{⊎_map}
use Rattle.std.proofs.Math.Bool.{true, false}
use Rattle.std.proofs.Math.Seq.{take-suc, take-length, drop-length}
use borrow.Author.Tests.{eqb-true, eqb-false}
use Rattle.trees.specs.Plain.{member}
use Rattle.trees.specs.Value.{Length}
use Rattle.trees.specs.Opening.{Numbers, head_bytes, tree_bytes, most_room}
use Rattle.theorems.specs.ListLaws.{less-or-not, mem-get_d, mem-member, member-not}
use Rattle.theorems.specs.RisingLaws.{Rising}
use Rattle.fields.specs.Field.{number, put}
use Rattle.fields.specs.FieldLaws.{put-length, put-outside, number_put, number-put-outside, number_same}
use Rattle.head.specs.Head.{from_to, up_to, numbers_at, opening_at}
use Rattle.head.specs.HeadLaws.{up_to-same}
use Rattle.layout.specs.Columns.{column_at, column-same, column-beside, column-more, up_to-more}
use Rattle.layout.specs.Store.{tree_from, masks_from, identifiers_from, counts_from, links_from, order_from, places_from, branches_from, lengths_from, size_at, list_from, branches_of, lengths_at, parts_at, trees_held_at, splits_held_at, mask_at, count_at}
use Rattle.layout.specs.StoreLaws.{tree-from, masks-from, identifiers-from, counts-from, links-from, order_from_lem, places-from, branches-from, lengths-from, lengths-same, size_is, trees-held-is, splits-held-is, count-is, list_length, length-is}
use Rattle.layout.specs.WholeFacts.{HeadAt}
use Rattle.layout.specs.Sound.{Sound}
use Rattle.layout.specs.UpToLaws.{mem-map, one_if, listed-most}
use Rattle.layout.specs.InsideLaws.{ranges}
use Rattle.layout.specs.KeptLaws.{Kept, number-kept, lists-kept, lengths-kept, texts-kept, numbers-kept, opening-kept}
use Rattle.recording.specs.Added.{with_list, Rows, next_lengths, Listed}
use Rattle.recording.specs.LengthLaws.{branches-behind}

-- ---- where things lie

abbrev pub next_from : List ℕ → ℕ
next_from s = tree_from (numbers_at s) (trees_held_at s)

pub record Room (s : List ℕ) : Type 0 where
  pub few : ((numbers_at s).taxa ≤ 64) × (trees_held_at s ≤ 1023) × (splits_held_at s ≤ most_room)
  pub list : (head_bytes ≤ tree_from (numbers_at s) 0) × (tree_from (numbers_at s) 0 ≤ next_from s) × (next_from s + tree_bytes ≤ masks_from (numbers_at s))
  pub masks : masks_from (numbers_at s) + 8 * splits_held_at s ≤ identifiers_from (numbers_at s)
  pub identifiers : identifiers_from (numbers_at s) + 8 * splits_held_at s ≤ counts_from (numbers_at s)
  pub counts : counts_from (numbers_at s) + 4 * splits_held_at s ≤ links_from (numbers_at s)
  pub links : (links_from (numbers_at s) ≤ order_from (numbers_at s)) × (links_from (numbers_at s) ≤ places_from (numbers_at s)) × (links_from (numbers_at s) ≤ size_at s)
  pub reached : size_at s ≤ length s

pub room-is : (s : List ℕ) → HeadAt s → trees_held_at s < (numbers_at s).tree_room → Room s
room-is s g h =
    let n = numbers_at s in
    let r = ranges s g in
    let a = tree-from n (trees_held_at s) in
    record {
      few = (r.most-taxa, omega (arith, r.most-trees), omega (arith, r.most-splits));
      list = (omega (arith, tree-from n 0), omega (arith, tree-from n 0), omega (arith, masks-from n));
      masks = omega (arith, identifiers-from n);
      identifiers = omega (arith, identifiers-from n, counts-from n);
      counts = omega (arith, counts-from n, links-from n);
      links = (omega (arith, links-from n, order_from_lem n), omega (arith, links-from n, places-from n), omega (arith, links-from n, size_is s));
      reached = g.reached;
    }

-- ---- how far entering has come

pub record Entering (s rs : List ℕ) (j : ℕ) (u : List ℕ) : Type 0 where
  pub size : length u ≡ length s
  pub rows : column_at 2 (next_from s + 2) j u ≡ take j rs
  -- with the other rows counted too, the counts are those of all rows
  pub counts : (k : ℕ) → k < splits_held_at s
      → number 4 u (counts_from (numbers_at s) + 4 * k) + one_if (member k (drop j rs)) ≡ count_at s k + one_if (member k rs)
  pub rises : Rising (map (mask_at s) (drop j rs))
  pub outside : (i : ℕ) → (i < next_from s) ⊎ (next_from s + tree_bytes ≤ i) → (i < counts_from (numbers_at s)) ⊎ (links_from (numbers_at s) ≤ i)
      → get_or u i 0 ≡ get_or s i 0

module _ (s rs : List ℕ) (z : Room s) (f : Sound (opening_at s) (parts_at s)) (r : Rows (parts_at s) rs) where
  abbrev n : Numbers
  n = numbers_at s

  pub entering-none : Entering s rs 0 s
  unfolding column_at up_to from_to
  entering-none = record { size = refl; rows = refl; counts = λ k h. rw (count-is s k h); rises = r.rises; outside = λ i p q. refl }

  -- the next row x is put at `to`, and its count is at `at`
  module _ (j : ℕ) (u : List ℕ) (e : Entering s rs j u) (h : j < length rs)
      (x to at : ℕ) (d : x ≡ get_or rs j 0) (o : to ≡ next_from s + 2 + 2 * j) (p : at ≡ counts_from n + 4 * x) where
    row : x < splits_held_at s
    row = rw d (r.below (get_or rs j 0) (mem-get_d rs j h))

    -- the rows behind it
    abbrev ys : List ℕ
    ys = drop (suc j) rs

    rest : drop j rs ≡ x ∷ ys
    rest = rw d (drop-cons rs j 0 h)

    beside : (b : ℕ) → counts_from n ≤ b → number 4 (put 2 u to x) b ≡ number 4 u b
    beside b l = number-put-outside 4 2 u to x b (inr (omega (arith, z, r.few)))

    -- no count exceeds the number of trees
    pub entering-fits : (x < 65536) × (at + 4 ≤ length s) × (number 4 (put 2 u to x) at ≤ 1024)
    unfolding one_if
    entering-fits =
        let a = listed-most (parts_at s) x (trees_held_at s) (omega arith) in
        let b = rw (mem-member x rs (rw d (mem-get_d rs j h))) at (e.counts x row) in
        (omega (arith, row, z.few), omega (arith, row, z), rw (beside at (omega arith), p) (omega (arith, f.counts x row, z.few)))

    module _ (v : ℕ) (q : v ≡ number 4 (put 2 u to x) at) where
      abbrev w : List ℕ
      w = put 4 (put 2 u to x) at (v + 1)

      counted-more : (k : ℕ) (b : Bool) → eqb k x ≡ b → number 4 w (counts_from n + 4 * k) + one_if (member k ys) ≡ number 4 u (counts_from n + 4 * k) + one_if (b || member k ys)
      unfolding one_if
      counted-more k true y =
          let a = eqb-true k x y in
          let m = member-not k ys (λ l. omega (arith, (rw rest at e.rises).0 (mask_at s k) (mem-map (mask_at s) ys k l), ap (mask_at s) a)) in
          let c = number_put 4 (put 2 u to x) at (v + 1) (omega (arith, entering-fits.1, put-length 2 u to x, e.size)) (omega (arith, entering-fits.2)) in
          rw (m, a, ← p) (omega (arith, c, beside at (omega arith)))
      counted-more k false y =
          let c : (counts_from n + 4 * k + 4 ≤ at) ⊎ (at + 4 ≤ counts_from n + 4 * k) = ⊎_map (λ l. omega arith) (λ l. omega (arith, eqb-false k x y)) (less-or-not k x) in
          rw (number-put-outside 4 4 (put 2 u to x) at (v + 1) (counts_from n + 4 * k) c, beside (counts_from n + 4 * k) (omega arith))

      pub entering-more : Entering s rs (j + 1) w
      unfolding member
      entering-more =
          record {
            size = put-length 4 _ at (v + 1) ∙ put-length 2 u to x ∙ e.size;
            rows =
                rw (add-one j, take-suc rs j 0 h, ← d, ← e.rows)
                (column-beside 2 (next_from s + 2) (suc j) 4 at (v + 1) _ (inr (omega (arith, z, r.few)))
                ∙ rw o (column-more 2 (next_from s + 2) j x u entering-fits.0 (omega (arith, e.size, z, r.few))));
            counts = λ k l. rw (add-one j) (counted-more k (eqb k x) refl ∙ rw rest at (e.counts k l));
            rises = rw (add-one j) (rw rest at e.rises).1;
            outside =
                λ i a b.
                put-outside 4 _ at (v + 1) i (⊎_map (λ l. omega arith) (λ l. omega (arith, row, z.counts)) b)
                ∙ put-outside 2 u to x i (⊎_map (λ l. omega arith) (λ l. omega (arith, r.few)) a)
                ∙ e.outside i a b;
          }

  -- ---- all steps: with the number of rows and of trees put too

  module _ (u t : List ℕ) (e : Entering s rs (length rs) u) (y : t ≡ put 2 (put 2 u (next_from s) (length rs)) 10 (trees_held_at s + 1)) where
    size : length t ≡ length s
    size = rw y (put-length 2 _ 10 _ ∙ put-length 2 u (next_from s) (length rs) ∙ e.size)

    byte : (i : ℕ) → (i < 10) ⊎ (12 ≤ i) → (i < next_from s) ⊎ (next_from s + tree_bytes ≤ i) → (i < counts_from n) ⊎ (links_from n ≤ i) → get_or t i 0 ≡ get_or s i 0
    byte i a b c = rw y (put-outside 2 _ 10 _ i a ∙ put-outside 2 u (next_from s) (length rs) i (⊎_map (λ l. l) (λ l. omega arith) b) ∙ e.outside i b c)

    front : Kept s t 0 10
    front i a b = byte i (inl b) (inl (omega (arith, z.list))) (inl (omega (arith, z)))

    before : Kept s t 12 (next_from s)
    before i a b = byte i (inr a) (inl b) (inl (omega (arith, z)))

    between : Kept s t (masks_from n) (counts_from n)
    between i a b = byte i (inr (omega (arith, z.list))) (inr (omega (arith, z.list))) (inl b)

    behind : (i : ℕ) → links_from n ≤ i → get_or t i 0 ≡ get_or s i 0
    behind i a = byte i (inr (omega (arith, z))) (inr (omega (arith, z))) (inr a)

    trees : number 2 t 10 ≡ suc (number 2 s 10)
    trees =
        rw (y, ← trees-held-is s, ← add-one (trees_held_at s))
        (number_put 2 _ 10 (trees_held_at s + 1) (omega (arith, put-length 2 u (next_from s) (length rs), e.size, z)) (omega (arith, z.few)))

    counted : (k : ℕ) → k < splits_held_at s → number 4 t (counts_from n + 4 * k) ≡ count_at s k + one_if (member k rs)
    unfolding member one_if
    counted k h =
        let a : number 4 t (counts_from n + 4 * k) ≡ number 4 u (counts_from n + 4 * k) =
        rw y (number-put-outside 4 2 _ 10 _ _ (inr (omega (arith, z))) ∙ number-put-outside 4 2 u _ _ _ (inr (omega (arith, z)))) in
        omega (arith, rw (drop-length rs) at (e.counts k h))

    entries : number 2 t (next_from s) ≡ length rs
    entries =
        rw y
        (number-put-outside 2 2 (put 2 u (next_from s) (length rs)) 10 (trees_held_at s + 1) (next_from s) (inr (omega (arith, z.list)))
        ∙ number_put 2 u (next_from s) (length rs) (omega (arith, e.size, z)) (omega (arith, r.few)))

    new : list_from t (next_from s) ≡ rs
    unfolding list_from
    new =
        rw (entries, y)
        (column-beside 2 (next_from s + 2) (length rs) 2 10 _ _ (inl (omega (arith, z.list)))
        ∙ column-beside 2 (next_from s + 2) (length rs) 2 (next_from s) _ u (inl (omega arith))
        ∙ e.rows
        ∙ take-length rs)

    rear : (i : ℕ) → branches_from n ≤ i → get_or t i 0 ≡ get_or s i 0
    rear i a = behind i (omega (arith, z.links, branches-from n, places-from n))

    new-lengths : lengths_at t (lengths_from n (trees_held_at s)) (branches_of n (number 2 t (next_from s))) ≡ next_lengths s (length rs)
    new-lengths =
        rw entries
        (lengths-same t s (lengths_from n (trees_held_at s)) (lengths_from n (trees_held_at s)) _ (λ j h.
        number_same 8 t s _ _ (λ b l. rear (lengths_from n (trees_held_at s) + 8 * j + b) (omega (arith, lengths-from n (trees_held_at s))))))

    parts : (xs : List Length) → next_lengths s (length rs) ≡ xs → parts_at t ≡ with_list rs xs (parts_at s)
    unfolding parts_at with_list column_at opening_at
    parts xs q =
        let m = numbers-kept s t front (λ i a b. before i (omega arith) (omega (arith, z.list))) in
        let c = splits-held-is s in
        rw (
          m,
          ap (λ (x : Numbers). x.places) m,
          ap (λ (x : Numbers). x.lanes) m,
          number-kept s t 12 (next_from s) before 2 12 (omega arith) (omega (arith, z.list)),
          trees,
          column-same 8 (masks_from n) (number 2 s 12) t s (λ i a b. between i a (omega (arith, z.masks, z.identifiers))),
          column-same 8 (identifiers_from n) (number 2 s 12) t s (λ i a b. between i (omega (arith, z.masks)) (omega (arith, z.identifiers))),
          rw c at (up_to-same _ _ (splits_held_at s) counted),
          c,
          column-same 2 (links_from n) (number 2 s 12) t s (λ i a b. behind i a),
          column-same 2 (order_from n) (number 2 s 12) t s (λ i a b. behind i (omega (arith, z.links))),
          column-same 2 (places_from n) n.places t s (λ i a b. behind i (omega (arith, z.links))),
          up_to-more (λ i. list_from t (tree_from n i)) (number 2 s 10),
          lists-kept s t 12 (next_from s) before n (number 2 s 10) (omega (arith, z.list)) (omega (arith, ap (tree_from n) (trees-held-is s))) (λ i h.
              let k : i < trees_held_at s = omega (arith, trees-held-is s) in
              omega (arith, (f.lists i k).few, list_length s i k)),
          up_to-more (λ i. lengths_at t (lengths_from n i) (branches_of n (number 2 t (tree_from n i)))) (number 2 s 10),
          branches-behind s t n (number 2 s 10) rear (λ i h.
              let a = tree-from n i in
              number-kept s t 12 (next_from s) before 2 (tree_from n i) (omega arith) (omega (arith, tree-from n (trees_held_at s), trees-held-is s))),
          ← trees-held-is s,
          new,
          new-lengths ∙ q,
          lengths-kept s t 12 (next_from s) before n (omega arith) z.list.1,
          texts-kept s t 12 (next_from s) before n (omega arith) z.list.1 (omega (arith, z)) size (λ k h. omega (arith, f.lanes k h, length-is s k h)),
        )

    pub entered : ((i : ℕ) → get_or s i 0 < 256) → Listed s rs t
    entered bytes =
        let a = opening-kept s t front (λ i a b. before i (omega arith) (omega (arith, z.list))) (omega (arith, z)) size bytes z.few.0 in
        record { parts = parts _ refl; opening = a; size = size; behind = λ i a. behind i (omega (arith, z.links)) }
