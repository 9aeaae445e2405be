-- Laws of merging: the records of two files, and of three.
--
--   insert_all-comm, insert_all-assoc     masks of two rising lists, and of three, in either order
--   merged-masks, merged-trees, merged-count     what stands in two files together
--   merged_some                  together they are not empty, if one is not
--   merge-comm, merge-assoc      two files in either order, three files either way
--   merged-formed, merged-well-formed     two files that are well formed make one
--   merged-fits                  no count passes 32 bits where the sum of the trees does not
--   count-append, recorded-join  counts and splits of two lists of trees
--   merge-trees                  the files of two lists of trees make the file of both
use Rattle.std.specs.Prelude.{ℕ, ◌+◌, ◌^◌, ◌≤◌, ◌<◌, ◌≡◌, ◌⊎◌, Bool, true, length}
use Rattle.std.proofs.Common.{add_comm, arith, ap, ap₂, sym, ◌∙◌, subst, inl, inr, length-append}
use Rattle.std.proofs.Math.Path.{refl}
use Rattle.std.proofs.Math.Logic.{⊎_elim, ⊎_map}
use Rattle.std.proofs.Math.Bool.{false}
use mathlib.Core.List.{List, [], ◌∷◌, ◌++◌}
use Rattle.std.proofs.Math.ListN.{length-map}
use Rattle.trees.specs.Plain.{member}
use Rattle.trees.specs.Mask.{proper}
use Rattle.trees.specs.Consensus.{insert_all, recorded, count}
use Rattle.trees.specs.SplitFile.{Record, trees_of, masks_of, well_formed, splits_of, count_for, merged, fits}
use Rattle.theorems.specs.ListLaws.{Mem, member-mem, not-member}
use Rattle.theorems.specs.RisingLaws.{Rising, rising-same, insert_all-rising, insert_all-mem, mem-insert_all, recorded-rising}
use Rattle.theorems.specs.ConsensusLaws.{count-nil, count-has, count-lacks}
use Rattle.theorems.specs.SplitFileLaws.{mem-some, masks-mem, mem-masks, count-absent, count-there, Formed, formed, formed-true, below-fits, entry, listed, listed-masks, listed-trees, listed-count, listed_same, listed-formed}
use Rattle.theorems.specs.WrittenFileLaws.{splits-masks, splits-known, splits-count, splits-listed}

-- ---- masks

union-or : (y : ℕ) (a b c d : List ℕ) → (Mem y a ⊎ Mem y b → Mem y c ⊎ Mem y d) → Mem y (insert_all a b) → Mem y (insert_all c d)
union-or y a b c d f h = mem-insert_all c d y (f (insert_all-mem a b y h))

turned : {A B : Type 0} → A ⊎ B → B ⊎ A
turned (inl x) = inr x
turned (inr x) = inl x

pub insert_all-comm : (a b : List ℕ) → Rising a → Rising b → insert_all a b ≡ insert_all b a
insert_all-comm a b r s =
    rising-same (insert_all a b) (insert_all b a) (insert_all-rising a b s) (insert_all-rising b a r) (λ y. union-or y a b b a turned) (λ y. union-or y b a a b turned)

pub insert_all-assoc : (a b c : List ℕ) → Rising c → insert_all (insert_all a b) c ≡ insert_all a (insert_all b c)
insert_all-assoc a b c r =
    rising-same (insert_all (insert_all a b) c) (insert_all a (insert_all b c)) (insert_all-rising (insert_all a b) c r) (insert_all-rising a (insert_all b c) (insert_all-rising b c r))
    (λ y. union-or y (insert_all a b) c a (insert_all b c) (forth y)) (λ y. union-or y a (insert_all b c) (insert_all a b) c (back y))
  where
    forth : (y : ℕ) → Mem y (insert_all a b) ⊎ Mem y c → Mem y a ⊎ Mem y (insert_all b c)
    forth y (inl h) = ⊎_map (λ k. k) (λ k. mem-insert_all b c y (inl k)) (insert_all-mem a b y h)
    forth y (inr h) = inr (mem-insert_all b c y (inr h))

    back : (y : ℕ) → Mem y a ⊎ Mem y (insert_all b c) → Mem y (insert_all a b) ⊎ Mem y c
    back y (inl h) = inl (mem-insert_all a b y (inl h))
    back y (inr h) = ⊎_map (λ k. mem-insert_all a b y (inr k)) (λ k. k) (insert_all-mem b c y h)

-- ---- two files

-- the count of a mask in either, and the masks of both
abbrev both_counts : List Record → List Record → ℕ → ℕ
both_counts a b m = count_for m a + count_for m b

abbrev both_masks : List Record → List Record → List ℕ
both_masks a b = insert_all (masks_of a) (masks_of b)

module _ (a b : List Record) where
  pub merged-masks : masks_of (merged a b) ≡ insert_all (masks_of a) (masks_of b)
  unfolding merged
  merged-masks = listed-masks (both_counts a b) (trees_of a + trees_of b) (both_masks a b)

  -- "merged by adding counts"
  pub merged-count : (m : ℕ) → count_for m (merged a b) ≡ count_for m a + count_for m b
  unfolding merged
  merged-count m = go (member m (both_masks a b)) refl
    where
      absent : (rs : List Record) → (Mem m (masks_of rs) → Mem m (both_masks a b)) → member m (both_masks a b) ≡ false → count_for m rs ≡ 0
      absent rs f e = count-absent rs m (λ h. not-member m (both_masks a b) e (f h))

      go : (x : Bool) → member m (both_masks a b) ≡ x → count_for m (listed (both_counts a b) (trees_of a + trees_of b) (both_masks a b)) ≡ both_counts a b m
      go true e = listed-count (both_counts a b) (trees_of a + trees_of b) (both_masks a b) m (member-mem m (both_masks a b) e)
      go false e =
          omega (
            arith,
            absent (listed (both_counts a b) (trees_of a + trees_of b) (both_masks a b)) (λ h. subst (Mem m) merged-masks h) e,
            absent a (λ h. mem-insert_all (masks_of a) (masks_of b) m (inl h)) e,
            absent b (λ h. mem-insert_all (masks_of a) (masks_of b) m (inr h)) e,
          )

  masks-some : (0 < length a) ⊎ (0 < length b) → 0 < length (both_masks a b)
  masks-some = go a b
    where
      go : (x y : List Record) → (0 < length x) ⊎ (0 < length y) → 0 < length (both_masks x y)
      go [] [] (inl h) = absurd (omega arith)
      go [] [] (inr h) = absurd (omega arith)
      go (r ∷ x) y h = mem-some r.mask (both_masks (r ∷ x) y) (mem-insert_all (masks_of (r ∷ x)) (masks_of y) r.mask (inl (mem-masks (r ∷ x) r (inl refl))))
      go [] (r ∷ y) h = mem-some r.mask (both_masks [] (r ∷ y)) (mem-insert_all (masks_of []) (masks_of (r ∷ y)) r.mask (inr (mem-masks (r ∷ y) r (inl refl))))

  pub merged_some : (0 < length a) ⊎ (0 < length b) → 0 < length (merged a b)
  unfolding merged
  merged_some h = omega (arith, length-map (both_masks a b) (entry (both_counts a b) (trees_of a + trees_of b)), masks-some h)

-- "by adding .. trees"
pub merged-trees : (a b : List Record) → trees_of (merged a b) ≡ trees_of a + trees_of b
unfolding merged trees_of masks_of insert_all
merged-trees [] [] = refl
merged-trees (r ∷ a) b = listed-trees (both_counts (r ∷ a) b) (trees_of (r ∷ a) + trees_of b) (both_masks (r ∷ a) b) (masks-some (r ∷ a) b (inl (omega arith)))
merged-trees [] (r ∷ b) = listed-trees (both_counts [] (r ∷ b)) (trees_of [] + trees_of (r ∷ b)) (both_masks [] (r ∷ b)) (masks-some [] (r ∷ b) (inr (omega arith)))

-- "Two files over the same names are merged": in either order
pub merge-comm : (a b : List Record) → Rising (masks_of a) → Rising (masks_of b) → merged a b ≡ merged b a
unfolding merged
merge-comm a b r s =
    ap₂ (listed (both_counts a b)) (add_comm (trees_of a) (trees_of b)) (insert_all-comm (masks_of a) (masks_of b) r s)
    ∙ listed_same (both_counts a b) (trees_of b + trees_of a) (both_counts b a) (both_masks b a) (λ m h. add_comm (count_for m a) (count_for m b))

-- "merged by adding counts and trees": so three either way
pub merge-assoc : (a b c : List Record) → Rising (masks_of c) → merged (merged a b) c ≡ merged a (merged b c)
unfolding merged
merge-assoc a b c r =
    ap₂ (listed (both_counts (merged a b) c)) trees masks
    ∙ listed_same (both_counts (merged a b) c) (trees_of a + trees_of (merged b c)) (both_counts a (merged b c)) (both_masks a (merged b c))
    (λ m h. omega (arith, merged-count a b m, merged-count b c m))
  where
    trees : trees_of (merged a b) + trees_of c ≡ trees_of a + trees_of (merged b c)
    trees = omega (arith, merged-trees a b, merged-trees b c)

    masks : both_masks (merged a b) c ≡ both_masks a (merged b c)
    masks =
        ap (λ (l : List ℕ). insert_all l (masks_of c)) (merged-masks a b) ∙ insert_all-assoc (masks_of a) (masks_of b) (masks_of c) r
        ∙ ap (insert_all (masks_of a)) (sym (merged-masks b c))

-- ---- what is merged is well formed

module _ (n : ℕ) (rs : List Record) (f : Formed n rs) where
  count-some : (m : ℕ) → Mem m (masks_of rs) → 1 ≤ count_for m rs
  count-some m h =
      let r = masks-mem rs m h in
      omega (arith, ap (λ (x : ℕ). count_for x rs) r.2, count-there rs r.0 f.masks-rise r.1, f.least-count r.0 r.1)

  count-trees : (m : ℕ) → count_for m rs ≤ trees_of rs
  count-trees m = go (member m (masks_of rs)) refl
    where
      go : (x : Bool) → member m (masks_of rs) ≡ x → count_for m rs ≤ trees_of rs
      go true e =
          let r = masks-mem rs m (member-mem m (masks_of rs) e) in
          omega
          (arith, ap (λ (x : ℕ). count_for x rs) r.2, count-there rs r.0 f.masks-rise r.1, f.most-count r.0 r.1, f.same-trees r.0 r.1)
      go false e = omega (arith, count-absent rs m (not-member m (masks_of rs) e))

  mask-proper : (m : ℕ) → Mem m (masks_of rs) → proper n m ≡ true
  mask-proper m h = let r = masks-mem rs m h in subst (λ (x : ℕ). proper n x ≡ true) r.2 (f.masks-proper r.0 r.1)

module _ (n : ℕ) (a b : List Record) (f : Formed n a) (g : Formed n b) where
  pub merged-formed : Formed n (merged a b)
  unfolding merged
  merged-formed =
      listed-formed (both_counts a b) (trees_of a + trees_of b) n (both_masks a b)
      (λ m h. ⊎_elim (λ k. mask-proper n a f m k) (λ k. mask-proper n b g m k) (insert_all-mem (masks_of a) (masks_of b) m h))
      (insert_all-rising (masks_of a) (masks_of b) g.masks-rise)
      (λ m h. (⊎_elim (λ k. omega (arith, count-some n a f m k)) (λ k. omega (arith, count-some n b g m k)) (insert_all-mem (masks_of a) (masks_of b) m h), omega (arith, count-trees n a f m, count-trees n b g m)))

  -- "a sum past 32 bits": that of the trees, if any
  pub merged-fits : trees_of a + trees_of b < 2 ^ 32 → fits (merged a b) ≡ true
  merged-fits l = below-fits n (merged a b) merged-formed (omega (arith, merged-trees a b))

-- "Masks rise, counts are from 1 to the trees"
pub merged-well-formed : (n : ℕ) (a b : List Record) → well_formed n a ≡ true → well_formed n b ≡ true → well_formed n (merged a b) ≡ true
merged-well-formed n a b p q = formed-true n (merged a b) (merged-formed n a b (formed n a p) (formed n b q))

-- ---- the trees of two collections

pub count-append : (ts us : List (List ℕ)) (m : ℕ) → count (ts ++ us) m ≡ count ts m + count us m
count-append [] us m = omega (arith, count-nil m)
count-append (t ∷ ts) us m = go (member m t) refl (count-append ts us m)
  where
    go : (x : Bool) → member m t ≡ x → count (ts ++ us) m ≡ count ts m + count us m → count (t ∷ ts ++ us) m ≡ count (t ∷ ts) m + count us m
    go true e q = omega (arith, count-has t (ts ++ us) m e, count-has t ts m e)
    go false e q = omega (arith, count-lacks t (ts ++ us) m e, count-lacks t ts m e)

pub recorded-join : (ts us : List (List ℕ)) → insert_all (recorded ts) (recorded us) ≡ recorded (ts ++ us)
unfolding recorded insert_all
recorded-join [] us = refl
recorded-join (t ∷ ts) us = insert_all-assoc t (recorded ts) (recorded us) (recorded-rising us) ∙ ap (insert_all t) (recorded-join ts us)

-- "Two files over the same names are merged by adding counts and trees": so the result is the file of both collections' trees
pub merge-trees : (ts us : List (List ℕ)) → 0 < length (recorded ts) → 0 < length (recorded us) → merged (splits_of ts) (splits_of us) ≡ splits_of (ts ++ us)
unfolding merged
merge-trees ts us h k =
    ap₂ (listed (both_counts (splits_of ts) (splits_of us))) trees masks
    ∙ listed_same (both_counts (splits_of ts) (splits_of us)) (length (ts ++ us)) (count (ts ++ us)) (recorded (ts ++ us))
    (λ m q. ap₂ (λ (x y : ℕ). x + y) (splits-count ts m) (splits-count us m) ∙ sym (count-append ts us m))
    ∙ sym (splits-listed (ts ++ us))
  where
    trees : trees_of (splits_of ts) + trees_of (splits_of us) ≡ length (ts ++ us)
    trees = omega (arith, splits-known ts h, splits-known us k, length-append ts us)

    masks : both_masks (splits_of ts) (splits_of us) ≡ recorded (ts ++ us)
    masks = ap₂ insert_all (splits-masks ts) (splits-masks us) ∙ recorded-join ts us
