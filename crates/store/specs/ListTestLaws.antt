-- The laws of a tree's list as the code walks it, and of a lane. Assumes nothing.
--
--   lane-long, lane-short                     a lane
--   list-long                                 a list of too many splits
--   walk_none, walk_more, walk-all            one turn of the loop over a list
--   walk-foreign, walk-falls, walk-apart      a split that fails, in the order of the code
use Rattle.std.specs.Prelude.{◌≡◌, ℕ, zero, suc, ◌+◌, ◌^◌, ◌<◌, ◌≤◌, Bool, true, false, ◌⊎◌, List, [], ◌∷◌, ◌++◌, map, length, take, ◌≢◌, bit_or, slice_index, slice_set, refl}
use Rattle.std.proofs.Common.{sym, ap, ◌∙◌, inl, inr, add-one, arith, length-set, take-suc, take_all, get_or-set_other}
use borrow.Author.Tests.{le-leb, lt-leb, eqb-true, eqb-false}
use Rattle.trees.specs.Mask.{without, lowest}
use Rattle.theorems.specs.ListLaws.{Mem, mem-get_d, mem-right, mem-cases, less-or-not}
use Rattle.theorems.specs.RisingLaws.{Rising, rising-true, true-rising}
use Rattle.fields.specs.Field.{number}
use Rattle.head.specs.Head.{numbers_at}
use Rattle.layout.specs.Store.{lane_from, parts_at, trees_held_at, splits_held_at, mask_at, list_at, tree_at, length_at, most_splits, ran_over_open}
use Rattle.layout.specs.StoreLaws.{shaped-at, length-is}
use Rattle.layout.specs.WholeStore.{good_splits, good_list, good_lane_at, list_good, lane_good}
use Rattle.layout.specs.WholeFacts.{HeadAt, splits-facts, list-facts, facts-list}
use Rattle.layout.specs.InsideLaws.{splits-few}
use Rattle.layout.specs.OrderLaws.{mask-proper}
use Rattle.layout.specs.UpToLaws.{mem-at}
use Rattle.rows.specs.ReadLaws.{tree-length, tree-entry}
use Rattle.store.specs.Outer.{Vacant, Takes}
use Rattle.store.specs.OuterLaws.{outer-none, outer-more, outer_same, outer-pairs}
use Rattle.store.specs.NeighbourLaws.{rising-more, rising-before}
use Rattle.store.specs.ListTests.{Counted, Walked}
use Rattle.store.specs.CountLaws.{part_none, part-more, part-all}
use Rattle.store.specs.SplitLaws.{proper-some}

-- ---- a lane

module _ (s : List ℕ) (l from n : ℕ) (h : l < (numbers_at s).lanes) (at : from ≡ lane_from l) (is : n ≡ number 2 s from) where
  pub lane-long : ran_over_open < n → good_lane_at s l ≡ false
  unfolding lane_good
  lane-long q = lt-leb (length_at s l) ran_over_open (rw (length-is s l h, ← at, ← is) q)

  pub lane-short : n ≤ ran_over_open → good_lane_at s l ≡ true
  unfolding lane_good
  lane-short q = le-leb (length_at s l) ran_over_open (rw (length-is s l h, ← at, ← is) q)

-- ---- the first splits of a list

-- the masks of the first splits are the first masks
mem-front : (f : ℕ → ℕ) (j : ℕ) (l : List ℕ) (k : ℕ) → Mem k (take j l) → Mem (f k) (take j (map f l))
mem-front f zero l k h = absurd h
mem-front f (suc j) [] k h = absurd h
mem-front f (suc j) (x ∷ l) k (inl e) = inl (ap f e)
mem-front f (suc j) (x ∷ l) k (inr h) = inr (mem-front f j l k h)

vacant-set : (ms : List ℕ) (at x : ℕ) → at < 64 → Vacant ms → Vacant (slice_set ms at x)
vacant-set ms at x h v = record { long = simp length-set v.long; free = get_or-set_other ms at 64 x 0 (λ e. omega arith) ∙ v.free }

module _ (s : List ℕ) (i : ℕ) where
  pub list-long : most_splits < length (list_at s i) → good_list s i ≡ false
  unfolding list_good
  list-long h = rw (lt-leb _ _ h)

  bad : (good_list s i ≢ true) → good_list s i ≡ false
  bad f = go (good_list s i) refl
    where
      go : (b : Bool) → good_list s i ≡ b → b ≡ false
      go false e = refl
      go true e = absurd (f e)

  module _ (here : i < trees_held_at s) where
    pub walk_none : (ms c : List ℕ) → Vacant ms → Counted s i c → Walked s i 0 0 ms 0 0 c
    walk_none ms c v p =
        record {
          below = λ a h. absurd (omega arith);
          rises = tt;
          most = λ y h. absurd h;
          from = inl refl;
          vacant = v;
          outer = outer-none ms;
          counted = part_none s i here c p;
        }

    module _ (j last : ℕ) (ms : List ℕ) (heads covered : ℕ) (c : List ℕ) (w : Walked s i j last ms heads covered c) where
      pub walk-all : length (list_at s i) ≤ most_splits → length (list_at s i) ≤ j → good_list s i ≡ true
      walk-all few end =
          let t : take j (tree_at s i) ≡ tree_at s i = take_all j (tree_at s i) (omega (arith, tree-length s i)) in
          facts-list (parts_at s) i
          (record {
            few = few;
            numbers-below = λ k m.
                let a = mem-at (list_at s i) k m in
                omega (arith, a.2, w.below a.0 (omega (arith, a.1)));
            tree-rising = true-rising (tree_at s i) (rw t at w.rises);
            agreeing = rw t at (outer-pairs _ _ _ _ w.outer);
          })

      pub walk-counted : length (list_at s i) ≤ j → Counted s (i + 1) c
      walk-counted end = part-all s i here j c end w.counted

      module _ (h : j < length (list_at s i)) (k : ℕ) (r : k ≡ slice_index (list_at s i) j) where
        pub walk-foreign : splits_held_at s ≤ k → good_list s i ≡ false
        walk-foreign q = bad (λ e. omega (arith, (list-facts (parts_at s) i e).numbers-below k (rw r (mem-get_d (list_at s i) j h))))

        module _ (b : k < splits_held_at s) (x : ℕ) (m : x ≡ mask_at s k) where
          entry : x ≡ slice_index (tree_at s i) j
          entry = m ∙ ap (mask_at s) r ∙ sym (tree-entry s i j h)

          inside : j < length (tree_at s i)
          inside = omega (arith, tree-length s i)

          pub walk-falls : good_splits s ≡ true → x ≤ last → good_list s i ≡ false
          walk-falls g q = bad (λ e. go (rising-true (tree_at s i) (list-facts (parts_at s) i e).tree-rising) w.from)
            where
              some : 0 < x
              some = rw m (proper-some _ _ (mask-proper (parts_at s) (shaped-at s).order (splits-facts _ _ (parts_at s) g) k b))

              go : Rising (tree_at s i) → (last ≡ 0) ⊎ Mem last (take j (tree_at s i)) → ⊥
              go u (inl z) = omega (arith, some)
              go u (inr n) = omega (arith, rising-before (tree_at s i) j x last inside entry u n)

          module _ (up : last < x) (t : Bool) (a : Takes ms heads covered x t) where
            above : (y : ℕ) → Mem y (take j (tree_at s i)) → y < x
            above y n = omega (arith, w.most y n)

            pub walk-apart : t ≡ false → good_list s i ≡ false
            walk-apart q =
                bad (λ e. eqb-false _ _ (sym a.test ∙ q)
                (outer_same (tree_at s i) ms j heads covered x a.inner inside entry w.outer above a.union (list-facts (parts_at s) i e).agreeing))

            -- ---- one split more

            front : take (j + 1) (tree_at s i) ≡ take j (tree_at s i) ++ x ∷ []
            front = rw (add-one j, take-suc (tree_at s i) j 0 inside, ← entry)

            more-below : (d : ℕ) → d < j + 1 → (d < j) ⊎ (j ≤ d) → slice_index (list_at s i) d < splits_held_at s
            more-below d l (inl q) = w.below d q
            more-below d l (inr q) = let e : d ≡ j = omega arith in rw (e, ← r) b

            more-most : (y : ℕ) → Mem y (take j (tree_at s i)) ⊎ Mem y (x ∷ []) → y ≤ x
            more-most y (inr (inr x3)) = elim x3 [ ]
            more-most y (inl n) = omega (arith, above y n)
            more-most y (inr (inl e)) = omega arith

            new : Mem k (take j (list_at s i)) → ⊥
            new n = omega (arith, above (mask_at s k) (mem-front (mask_at s) j (list_at s i) k n))

            pub walk_more : HeadAt s → t ≡ true → (at heads' covered' : ℕ) → at ≡ lowest x → at < 64 → heads' ≡ bit_or (without heads x) (2 ^ lowest x)
                → covered' ≡ bit_or covered x → Walked s i (j + 1) x (slice_set ms at x) heads' covered' (slice_set c k (slice_index c k + 1))
            walk_more g q at heads' covered' p l f d =
                record {
                  below = λ d l. more-below d l (less-or-not d j);
                  rises = rw front (rising-more (take j (tree_at s i)) x w.rises above);
                  most = λ y n. more-most y (mem-cases y (take j (tree_at s i)) (x ∷ []) (rw front at n));
                  from = inr (rw front (mem-right x (take j (tree_at s i)) (x ∷ []) (inl refl)));
                  vacant = vacant-set ms at x l w.vacant;
                  outer =
                      outer-more (tree_at s i) ms j heads covered x a.inner inside entry w.outer above a.union
                      (eqb-true _ _ (sym a.test ∙ q)) at heads' covered' p (omega (arith, w.vacant.long)) f d;
                  counted = part-more s i here j c w.counted h k (sym r) (omega (arith, splits-few s g)) new;
                }
