-- Sound parts without the rows that no tree lists. Assumes nothing.
--
--   listed-stays                  a row that a tree lists stays
--   link-lower, start-lower       a link leads below its row, and the start of a chain to a row
--   leave-masks, leave-order      the masks by number are those of the rows that stay, which are the rows left
--   leave-highest                 what an entry of a chain becomes is the entry of the chain
--   leave-held                    nothing that is held changes
--   leave-counts                  each split counts for a tree
--   leave-sound                   they are sound
use Prim.Native.Nat.{ℕ, zero, suc, ◌≤◌, ◌<◌}
use Rattle.std.proofs.Common.{arith, ◌∙◌, subst, inl, inr, ext_get_or}
use Rattle.std.specs.Prelude.{◌≡◌, refl, ◌⊎◌, Bool, true, false, [], map, get_or}
use Rattle.std.proofs.Math.Path.{sym, ap}
use Rattle.std.proofs.Math.ListN.{length, get_or-map}
use Rattle.std.proofs.Math.ListN as lists
use borrow.Author.Tests.{ltb-true, lt-ltb}
use Rattle.trees.specs.Plain.{every, member}
use Rattle.trees.specs.Mask.{proper}
use Rattle.trees.specs.Hash.{place, identifier}
use Rattle.trees.specs.Opening.{Opening}
use Rattle.trees.specs.Whole.{good_length}
use Rattle.theorems.specs.ListLaws.{equal_or_not, same_bool, Mem, mem-get_d, member-mem, mem-member, every-intro, keep-mem, mem-keep}
use Rattle.theorems.specs.RisingLaws.{Rising, true-rising}
use Rattle.layout.specs.Store.{Parts, branches_of, splits_in, trees_in, mask_in, identifier_in, count_in, link_in, start_in, masks_in, list_in, tree_in, branches_in, length_in, held_in, ran_over_open}
use Rattle.layout.specs.StoreLaws.{Shaped}
use Rattle.layout.specs.WholeStore.{listed_in, highest_in}
use Rattle.layout.specs.WholeFacts.{SplitsIn, ListIn}
use Rattle.layout.specs.Sound.{Sound}
use Rattle.layout.specs.UpToLaws.{length-map, map-mem, mem-map, one_if, listed_nil, listed-step}
use Rattle.layout.specs.HighestLaws.{highest-here, highest-lower, highest-most}
use Rattle.layout.specs.OrderLaws.{masks-rise, row-numbered, row_below, mask-proper}
use Rattle.withdrawing.specs.Left.{stays, rows_left, new_row, new_entry, without_rows}
use Rattle.withdrawing.specs.LeftLaws.{left-length, left_at, left-row, left-same, left-mem, row_first, row_next, row-held, row-rises, row_same, entry-none, entry-stays, entry-leaves}
use Rattle.withdrawing.specs.WithoutRowsLaws.{new, old, kept, leave-splits, leave-trees, leave-mask, leave-list, mask-of, identifier-of, count_of, link-of, order-of, order-length, start_of}
use Rattle.withdrawing.specs.KeepLaws.{apart-length, rising-apart, keep-rises, map-twice}

module _ (p : Parts) where
  -- a row that stays counts for a tree
  stays-some : (r : ℕ) → stays p r ≡ true → 1 ≤ count_in p r
  unfolding stays
  stays-some r e = ltb-true 0 (count_in p r) e

  some-stays : (r : ℕ) → 1 ≤ count_in p r → stays p r ≡ true
  unfolding stays
  some-stays r h = lt-ltb 0 (count_in p r) h

  -- a tree that lists a row is counted
  listed_has : (r i t : ℕ) → t ≤ trees_in p → i < t → Mem r (list_in p i) → 1 ≤ listed_in p r t
  unfolding one_if
  listed_has r i zero b l h = absurd (omega arith)
  listed_has r i (suc t) b l h = go (equal_or_not i t) (λ q. listed_has r i t (omega arith) q h)
    where
      go : (i ≡ t) ⊎ (i ≡ t → ⊥) → (i < t → 1 ≤ listed_in p r t) → 1 ≤ listed_in p r (suc t)
      go (inl e) f = omega (arith, rw (mem-member r (list_in p t) (rw e at h)) at (listed-step p r t b))
      go (inr d) f = omega (arith, listed-step p r t b, f (omega (arith, d)))

module _ (o : Opening) (p : Parts) (f : Sound o p) where
  pub listed-stays : (i r : ℕ) → i < trees_in p → Mem r (list_in p i) → stays p r ≡ true
  listed-stays i r h m =
      some-stays p r (omega (arith, f.counts r ((f.lists i h).numbers-below r m), listed_has p r i (trees_in p) (omega arith) h m))

  abbrev h : ℕ → ℕ
  h = place o.first o.numbers.places

  pub link-lower : (r : ℕ) → r < splits_in p → link_in p r ≤ r
  link-lower r b = omega (arith, f.chains.links r b, highest-most h p (h (mask_in p r)) r)

  pub start-lower : (q : ℕ) → q < o.numbers.places → start_in p q ≤ splits_in p
  start-lower q b = omega (arith, f.chains.starts q b, highest-most h p q (splits_in p))

  -- ---- the trees

  leave-tree : (i : ℕ) → i < trees_in p → tree_in (new p) i ≡ tree_in p i
  leave-tree i h =
      rw (leave-list p i)
      (map-twice (new_row p) (mask_in (new p)) (mask_in p) (list_in p i) (λ r m. leave-mask p r ((f.lists i h).numbers-below r m) (listed-stays i r h m)))

  leave-lists : map (map (mask_in (new p))) (new p).lists ≡ map (map (mask_in p)) p.lists
  leave-lists =
      let F = map (mask_in (new p)) in
      let G = map (mask_in p) in
      ext_get_or [] _ _ (lists.length-map (new p).lists F ∙ leave-trees p ∙ sym (lists.length-map p.lists G)) (λ i h.
      get_or-map F (new p).lists i [] ∙ leave-tree i (omega (arith, lists.length-map (new p).lists F, leave-trees p)) ∙ sym (get_or-map G p.lists i []))

  pub leave-held : held_in o (new p) ≡ held_in o p
  unfolding held_in without_rows
  leave-held i = record { opening = o; trees = leave-lists i; lengths = p.branches; texts = p.texts }

  each-list : (i : ℕ) → i < trees_in p → ListIn (new p) i
  each-list i h =
      let a = f.lists i h in
      record {
        few = rw (leave-list p i, length-map (new_row p) (list_in p i)) a.few;
        numbers-below =
            λ k m.
            let r = map-mem (new_row p) (list_in p i) k (rw (leave-list p i) at m) in
            rw (leave-splits p, r.2) (row-rises p r.0 (splits_in p) (listed-stays i r.0 h r.1) (a.numbers-below r.0 r.1));
        tree-rising = rw (leave-tree i h) a.tree-rising;
        agreeing = rw (leave-tree i h) a.agreeing;
      }

  -- ---- the counts

  member-left : (i r : ℕ) → i < trees_in p → stays p r ≡ true → member (new_row p r) (list_in (new p) i) ≡ member r (list_in p i)
  member-left i r h e =
      rw (leave-list p i)
      (same_bool _ _
      (λ q.
      let x = map-mem (new_row p) (list_in p i) (new_row p r) (member-mem _ _ q) in
      let d : r ≡ x.0 = row_same p r x.0 e (listed-stays i x.0 h x.1) x.2 in
      mem-member r (list_in p i) (rw d x.1))
      (λ q. mem-member (new_row p r) _ (mem-map (new_row p) (list_in p i) r (member-mem r (list_in p i) q))))

  listed-left : (r : ℕ) → stays p r ≡ true → (t : ℕ) → t ≤ trees_in p → listed_in (new p) (new_row p r) t ≡ listed_in p r t
  listed-left r e zero h = listed_nil (new p) (new_row p r) ∙ sym (listed_nil p r)
  listed-left r e (suc t) h =
      listed-step (new p) (new_row p r) t (rw (leave-trees p) h) ∙ rw (listed-left r e t (omega arith), member-left t r h e) (sym (listed-step p r t h))

  each-count : (j : ℕ) → j < new_row p (splits_in p) → count_in (new p) j ≡ listed_in (new p) j (trees_in (new p))
  each-count j h =
      let l = left-row p (splits_in p) j h in
      count_of p j h ∙ f.counts (old p j) l.below ∙ sym (listed-left (old p j) l.stays_here (trees_in p) (omega arith)) ∙ rw (l.becomes, leave-trees p)

  pub leave-counts : (j : ℕ) → j < splits_in (new p) → 1 ≤ count_in (new p) j
  leave-counts j h =
      let b : j < new_row p (splits_in p) = rw (leave-splits p) at h in
      rw (count_of p j b) (stays-some p (old p j) (left-row p (splits_in p) j b).stays_here)

  -- ---- the order

  kept-mem : (r : ℕ) → Mem r (kept p) → (r < splits_in p) × (stays p r ≡ true)
  kept-mem r h = let k = keep-mem (stays p) p.order r h in (row_below p f.shaped.order f.splits r k.0, k.1)

  pub leave-masks : masks_in (new p) ≡ map (mask_in p) (kept p)
  unfolding without_rows
  leave-masks = map-twice (new_row p) (mask_in (new p)) (mask_in p) (kept p) (λ r m. let k = kept-mem r m in leave-mask p r k.0 k.1)

  kept-rises : Rising (map (mask_in p) (kept p))
  kept-rises = keep-rises (mask_in p) (stays p) p.order (masks-rise p f.shaped.order f.splits)

  -- the rows that stay, by number, are those left
  pub leave-order : length (kept p) ≡ new_row p (splits_in p)
  leave-order =
      let n = splits_in p in
      apart-length (kept p) (rows_left p n) (rising-apart (mask_in p) (kept p) kept-rises)
      (λ i j a b. left-same p n i j (rw (left-length p n) at a) (rw (left-length p n) at b))
      (λ r m.
      let k = kept-mem r m in
      subst (λ (x : ℕ). Mem x (rows_left p n)) (left_at p r n k.1 k.0) (mem-get_d (rows_left p n) (new_row p r) (omega (arith, left-length p n, row-rises p r n k.1 k.0))))
      (λ r m.
      let k = left-mem p n r m in
      let i = row-numbered p f.shaped.order f.splits r k.0 in
      mem-keep (stays p) p.order r (subst (λ (x : ℕ). Mem x p.order) i.2 (mem-get_d p.order i.0 (omega (arith, i.1, f.shaped.order)))) k.1)
      ∙ left-length p n

  each-split : SplitsIn o.numbers.taxa o.second (new p)
  each-split =
      let n = leave-splits p in
      record {
        rows-below =
            λ j h.
            let b : j < length (kept p) = omega (arith, n, leave-order) in
            let k = kept-mem (get_or (kept p) j 0) (mem-get_d (kept p) j b) in
            rw (n, order-of p j b) (row-rises p _ (splits_in p) k.1 k.0);
        masks-proper =
            rw leave-masks (every-intro (proper o.numbers.taxa) (map (mask_in p) (kept p)) (λ m h.
            let r = map-mem (mask_in p) (kept p) m h in
            rw r.2 (mask-proper p f.shaped.order f.splits r.0 (kept-mem r.0 r.1).0)));
        masks-rising = rw leave-masks (true-rising _ kept-rises);
        identifiers =
            λ j h.
            let b : j < new_row p (splits_in p) = rw n at h in
            identifier-of p j b ∙ f.splits.identifiers (old p j) (left-row p (splits_in p) j b).below ∙ ap (identifier o.second) (sym (mask-of p j b));
      }

  -- ---- the chains

  pub leave-highest : (q n : ℕ) → n ≤ splits_in p → new_entry p (highest_in h p q n) ≡ highest_in h (new p) q (new_row p n)
  leave-highest q zero b =
      let x : highest_in h p q 0 ≡ 0 = omega (arith, highest-most h p q 0) in
      let y : highest_in h (new p) q 0 ≡ 0 = omega (arith, highest-most h (new p) q 0) in
      rw (x, row_first p, y) (entry-none p)
  leave-highest q (suc n) b = go (stays p n) refl (equal_or_not (h (mask_in p n)) q) (leave-highest q n (omega arith))
    where
      go : (s : Bool) → stays p n ≡ s → (h (mask_in p n) ≡ q) ⊎ (h (mask_in p n) ≡ q → ⊥) → new_entry p (highest_in h p q n) ≡ highest_in h (new p) q (new_row p n)
          → new_entry p (highest_in h p q (suc n)) ≡ highest_in h (new p) q (new_row p (suc n))
      go true e (inl z) r =
          rw (highest-here h p q n z, row_next p n e)
          (entry-stays p n b e ∙ sym (highest-here h (new p) q (new_row p n) (ap h (leave-mask p n b e) ∙ z)))
      go true e (inr d) r =
          rw (highest-lower h p q n d, row_next p n e) (r ∙ sym (highest-lower h (new p) q (new_row p n) (λ z. d (ap h (sym (leave-mask p n b e)) ∙ z))))
      go false e (inl z) r =
          rw (highest-here h p q n z, row-held p n e)
          (entry-leaves p n b (link-lower n b) e ∙ ap (new_entry p) (f.chains.links n b ∙ ap (λ (x : ℕ). highest_in h p x n) z) ∙ r)
      go false e (inr d) r = rw (highest-lower h p q n d, row-held p n e) r

  each-link : (j : ℕ) → j < new_row p (splits_in p) → link_in (new p) j ≡ highest_in h (new p) (h (mask_in (new p) j)) j
  each-link j b =
      let l = left-row p (splits_in p) j b in
      let x = l.below in
      link-of p j b ∙ ap (new_entry p) (f.chains.links (old p j) x) ∙ leave-highest (h (mask_in p (old p j))) (old p j) (omega arith) ∙ rw (l.becomes, mask-of p j b)

  each_start : (q : ℕ) → q < o.numbers.places → start_in (new p) q ≡ highest_in h (new p) q (splits_in (new p))
  each_start q b =
      start_of p q (omega (arith, f.shaped.starts)) ∙ ap (new_entry p) (f.chains.starts q b) ∙ leave-highest q (splits_in p) (omega arith) ∙ rw (leave-splits p)

  -- ---- all of it

  shape : Shaped o.numbers (new p)
  unfolding without_rows
  shape =
      let a = f.shaped in
      let rows = rows_left p (splits_in p) in
      let n = length-map (mask_in p) rows in
      record {
        identifiers = length-map (identifier_in p) rows ∙ sym n;
        counts = length-map (count_in p) rows ∙ sym n;
        links = length-map (λ r. new_entry p (link_in p r)) rows ∙ sym n;
        order = order-length p ∙ leave-order ∙ sym (leave-splits p);
        starts = length-map (new_entry p) p.starts ∙ a.starts;
        branches = a.branches ∙ sym (leave-trees p);
        branches-each =
            λ i h. a.branches-each i (rw (leave-trees p) at h) ∙ ap (branches_of o.numbers) (sym (ap length (leave-list p i) ∙ length-map (new_row p) (list_in p i)));
        lengths = a.lengths;
        texts = a.texts;
      }

  each-lengths : (i : ℕ) → i < trees_in p → every good_length (branches_in (new p) i) ≡ true
  unfolding without_rows
  each-lengths i h = f.branches i h

  each_lane : (l : ℕ) → l < o.numbers.lanes → length_in (new p) l ≤ ran_over_open
  unfolding without_rows
  each_lane l h = f.lanes l h

  pub leave-sound : Sound o (new p)
  leave-sound =
      let n = leave-splits p in
      let t = leave-trees p in
      record {
        shaped = shape;
        splits = each-split;
        lists = λ i l. each-list i (rw t at l);
        counts = λ j l. each-count j (rw n at l);
        chains = record { links = λ j l. each-link j (rw n at l); starts = each_start };
        lanes = each_lane;
        branches = λ i l. each-lengths i (rw t at l);
      }
