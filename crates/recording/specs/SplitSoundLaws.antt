-- Parts with one split more are sound, and hold what they held. Assumes nothing.
--
--   split-held       nothing that is held changes
--   split-sound      they are sound
use Prim.Native.Nat.{ℕ, zero, suc, ◌≤◌, ◌<◌}
use Rattle.std.proofs.Math.Nat.{mod-lt}
use Rattle.std.proofs.Common.{arith, ◌∙◌, get_or-set_same}
use Rattle.std.specs.Prelude.{◌≡◌, true, false}
use Rattle.std.proofs.Math.Path.{refl, sym, ap}
use Rattle.std.proofs.Math.Logic.{⊎_elim}
use mathlib.Core.List.{[], map}
use Rattle.std.proofs.Math.ListN.{length-set, length-map, get_or-append, get_or-map}
use Rattle.std.proofs.Math.Seq.{ext_get_or, get_or_at, get_or-set_other}
use Rattle.trees.specs.Plain.{member}
use Rattle.trees.specs.Mask.{proper}
use Rattle.trees.specs.Hash.{place, identifier}
use Rattle.trees.specs.Opening.{Opening}
use Rattle.trees.specs.Splits.{insert}
use Rattle.theorems.specs.ListLaws.{equal_or_not, if-false, member-not, not-member, every-at, every-intro, mem-get_d, map_same}
use Rattle.theorems.specs.RisingLaws.{rising-true, true-rising, insert-mem, insert-rising}
use Rattle.layout.specs.Store.{Parts, splits_in, trees_in, mask_in, identifier_in, count_in, link_in, start_in, order_in, masks_in, list_in, tree_in, held_in}
use Rattle.layout.specs.StoreLaws.{Shaped}
use Rattle.layout.specs.WholeStore.{listed_in, highest_in}
use Rattle.layout.specs.WholeFacts.{SplitsIn, ListIn}
use Rattle.layout.specs.Sound.{Sound}
use Rattle.layout.specs.UpToLaws.{one_more, each_more, listed_nil, listed_next}
use Rattle.layout.specs.HighestLaws.{highest-same, highest-here, highest-lower}
use Rattle.layout.specs.OrderLaws.{row_below}
use Rattle.recording.specs.Added.{insert_row, with_split}
use Rattle.recording.specs.RowLaws.{row-mem, row-length, row-masks}

module _ (o : Opening) (m : ℕ) (p : Parts) (f : Sound o p) where
  abbrev new : Parts
  new = with_split o m p

  split-number : splits_in new ≡ suc (splits_in p)
  unfolding with_split
  split-number = one_more p.masks m

  -- ---- the masks

  mask-old : (k : ℕ) → k < splits_in p → mask_in new k ≡ mask_in p k
  unfolding with_split
  mask-old k h = get_or-append p.masks _ 0 k h

  mask-new : mask_in new (splits_in p) ≡ m
  unfolding with_split
  mask-new = get_or_at p.masks m [] 0 _ refl

  tree-same : (i : ℕ) → i < trees_in p → map (mask_in new) (list_in p i) ≡ tree_in p i
  tree-same i h = map_same (mask_in new) (mask_in p) (list_in p i) (λ k q. mask-old k ((f.lists i h).numbers-below k q))

  -- ---- what is held

  pub split-held : held_in o new ≡ held_in o p
  unfolding held_in with_split
  split-held =
      let F = map (mask_in new) in
      let G = map (mask_in p) in
      let e : map F p.lists ≡ map G p.lists =
      ext_get_or [] _ _ (length-map p.lists F ∙ sym (length-map p.lists G)) (λ i h.
      get_or-map F p.lists i [] ∙ tree-same i (omega (arith, length-map p.lists F)) ∙ sym (get_or-map G p.lists i [])) in
      rw e

  split-masks : member m (masks_in p) ≡ false → masks_in new ≡ insert m (masks_in p)
  unfolding with_split
  split-masks other =
      row-masks (mask_in p) m (splits_in p) (mask_in new) mask-new p.order (λ r h. mask-old r (row_below p f.shaped.order f.splits r h))
      (not-member m (masks_in p) other)

  -- ---- the splits

  row_new : (j : ℕ) → j < suc (splits_in p) → order_in new j < suc (splits_in p)
  unfolding with_split
  row_new j h =
      let l = row-length (mask_in p) m (splits_in p) p.order in
      ⊎_elim (λ e. omega arith) (λ q. omega (arith, row_below p f.shaped.order f.splits _ q))
      (row-mem (mask_in p) m (splits_in p) p.order _ (mem-get_d (insert_row (mask_in p) m (splits_in p) p.order) j (omega (arith, l, f.shaped.order))))

  identifier-new : (j : ℕ) → j < suc (splits_in p) → identifier_in new j ≡ identifier o.second (mask_in new j)
  unfolding with_split
  identifier-new =
      each_more p.identifiers _ 0 (splits_in p) f.shaped.identifiers (λ (j y : ℕ). y ≡ identifier o.second (mask_in new j))
      (λ j h. rw (mask-old j h) (f.splits.identifiers j h)) (rw mask-new)

  splits-new : proper o.numbers.taxa m ≡ true → member m (masks_in p) ≡ false → SplitsIn o.numbers.taxa o.second new
  splits-new good other =
      let e = split-number in
      let d = split-masks other in
      record {
        rows-below = λ j h. rw e (row_new j (rw e at h));
        masks-proper =
            rw d (every-intro (proper o.numbers.taxa) (insert m (masks_in p)) (λ y h.
            ⊎_elim (λ e. rw e good) (λ q. every-at (proper o.numbers.taxa) (masks_in p) f.splits.masks-proper y q) (insert-mem m (masks_in p) y h)));
        masks-rising = rw d (true-rising _ (insert-rising m (masks_in p) (rising-true (masks_in p) f.splits.masks-rising)));
        identifiers = λ j h. identifier-new j (rw e at h);
      }

  -- ---- the trees, and how many list each split

  list-new : (i : ℕ) → i < trees_in p → ListIn new i
  unfolding with_split
  list-new i h =
      let a = f.lists i h in
      record {
        few = a.few;
        numbers-below = λ k q. omega (arith, split-number, a.numbers-below k q);
        tree-rising = rw (tree-same i h) a.tree-rising;
        agreeing = rw (tree-same i h) a.agreeing;
      }

  -- no tree lists the new row
  listed-none : (t : ℕ) → t ≤ trees_in p → listed_in p (splits_in p) t ≡ 0
  listed-none zero h = listed_nil p (splits_in p)
  listed-none (suc t) h =
      listed_next p (splits_in p) t h
      ∙ if-false _ _ (member-not (splits_in p) (list_in p t) (λ q. omega (arith, (f.lists t h).numbers-below (splits_in p) q)))
      ∙ listed-none t (omega arith)

  count-new : (k : ℕ) → k < suc (splits_in p) → count_in new k ≡ listed_in new k (trees_in new)
  unfolding with_split listed_in
  count-new =
      each_more p.counts 0 0 (splits_in p) f.shaped.counts (λ (k y : ℕ). y ≡ listed_in p k (trees_in p)) f.counts (sym (listed-none (trees_in p) (omega arith)))

  -- ---- the chains

  abbrev h : ℕ → ℕ
  h = place o.first o.numbers.places

  high-old : (q n : ℕ) → n ≤ splits_in p → highest_in h new q n ≡ highest_in h p q n
  high-old q n l = highest-same h p new q n (λ k b. mask-old k (omega arith))

  module _ (below : h m < o.numbers.places) where
    link-new : (k : ℕ) → k < suc (splits_in p) → link_in new k ≡ highest_in h new (h (mask_in new k)) k
    unfolding with_split
    link-new =
        each_more p.links _ 0 (splits_in p) f.shaped.links (λ (k y : ℕ). y ≡ highest_in h new (h (mask_in new k)) k)
        (λ k l. rw (mask-old k l, high-old (h (mask_in p k)) k (omega arith)) (f.chains.links k l))
        (rw (mask-new, high-old (h m) (splits_in p) (omega arith)) (f.chains.starts (h m) below))

    start-new : (q : ℕ) → q < o.numbers.places → start_in new q ≡ highest_in h new q (suc (splits_in p))
    unfolding with_split
    start-new q l =
        ⊎_elim (λ e. rw (highest-here h new q (splits_in p) (ap h mask-new ∙ e), ← e) (get_or-set_same p.starts (h m) _ 0 (omega (arith, f.shaped.starts, below))))
        (λ d. get_or-set_other p.starts (h m) q _ 0 (λ e. d (sym e)) ∙ f.chains.starts q l
        ∙ sym (highest-lower h new q (splits_in p) (λ e. d (ap h (sym mask-new) ∙ e)) ∙ high-old q (splits_in p) (omega arith))) (equal_or_not (h m) q)

  -- ---- all of it

  shaped-new : Shaped o.numbers new
  unfolding with_split
  shaped-new =
      let e = split-number in
      let s = f.shaped in
      record {
        identifiers = one_more p.identifiers _ ∙ ap suc s.identifiers ∙ sym e;
        counts = one_more p.counts _ ∙ ap suc s.counts ∙ sym e;
        links = one_more p.links _ ∙ ap suc s.links ∙ sym e;
        order = row-length (mask_in p) m (splits_in p) p.order ∙ ap suc s.order ∙ sym e;
        starts = length-set p.starts _ _ ∙ s.starts;
        branches = s.branches;
        branches-each = s.branches-each;
        lengths = s.lengths;
        texts = s.texts;
      }

  pub split-sound : proper o.numbers.taxa m ≡ true → member m (masks_in p) ≡ false → 1 ≤ o.numbers.places → Sound o new
  unfolding with_split place
  split-sound good other some =
      let e = split-number in
      let below = mod-lt _ some in
      record {
        shaped = shaped-new;
        splits = splits-new good other;
        lists = list-new;
        counts = λ k l. count-new k (rw e at l);
        chains = record { links = λ k l. link-new below k (rw e at l); starts = λ q l. rw e (start-new below q l) };
        lanes = f.lanes;
        branches = f.branches;
      }
