-- The recorded splits of a whole store are its masks, and its counts are theirs. Assumes nothing.
--
--   held-trees, trees-length, tree-at, trees-mem, mem-trees     the trees that any bytes are read as
--   tree-mem, mem-tree                 the splits of a tree, by their rows
--   listed-some                        a split that is listed is listed by a tree
-- of whole bytes:
--   member-at                          a tree has a split exactly when it lists the split's row
--   count_at_lem                           the count of a split is the one that is stored
--   recorded-at                        the recorded splits are the masks
--   recorded-length, recorded-mask     "a recorded split's number is its place in the list by rising mask"
use Rattle.std.specs.Prelude.{◌≡◌, ℕ, zero, suc, ◌<◌, ◌≤◌, Bool, true, false, List, [], ◌∷◌, map, length, slice_index, slice_index_or, refl, if◌then◌else◌}
use Rattle.std.proofs.Common.{arith, ◌∙◌, subst, ext_get_or}
use Rattle.std.proofs.Math.Path.{sym, ap}
use Rattle.std.proofs.Math.ListN.{get_or-map}
use Rattle.trees.specs.Plain.{member}
use Rattle.trees.specs.Consensus.{recorded, count}
use Rattle.theorems.specs.ListLaws.{Mem, member-mem, mem-member, same_bool}
use Rattle.theorems.specs.RisingLaws.{rising-same, recorded-rising, recorded-mem, mem-recorded}
use Rattle.theorems.specs.ConsensusLaws.{count-nil}
use Rattle.head.specs.Head.{up_to}
use Rattle.head.specs.HeadLaws.{up_to-length, up_to-at}
use Rattle.layout.specs.Columns.{up_to-more}
use Rattle.layout.specs.Store.{parts_at, trees_held_at, splits_held_at, mask_at, split_at, masks_at, count_at, list_at, tree_at, held_at, held_in}
use Rattle.layout.specs.StoreLaws.{shaped-at}
use Rattle.layout.specs.WholeStore.{listed, whole_at}
use Rattle.layout.specs.WholeFacts.{SplitsAt, WholeAt, whole-at-facts}
use Rattle.layout.specs.OrderLaws.{masks-length, number-mask, masks-rise, masks-mem, mem-masks, mask-same}
use Rattle.layout.specs.UpToLaws.{up_to-mem, mem-up_to, map-mem, mem-map, count-append, listed_nil, listed_next}

-- ---- what any bytes are read as

lists_length : (f : ℕ → ℕ) (ls : List (List ℕ)) → length (map (map f) ls) ≡ length ls
lists_length f [] = refl
lists_length f (l ∷ ls) = ap suc (lists_length f ls)

module _ (s : List ℕ) where
  pub trees-length : length (held_at s).trees ≡ trees_held_at s
  unfolding held_in
  trees-length = lists_length (mask_at s) (parts_at s).lists

  at_each : (i : ℕ) → slice_index_or (held_at s).trees i [] ≡ tree_at s i
  unfolding held_in
  at_each i = get_or-map (map (mask_at s)) (parts_at s).lists i []

  pub tree-at : (i : ℕ) → i < trees_held_at s → slice_index_or (held_at s).trees i [] ≡ tree_at s i
  tree-at i h = at_each i

  pub held-trees : (held_at s).trees ≡ up_to (tree_at s) (trees_held_at s)
  held-trees =
      ext_get_or [] _ _ (trees-length ∙ sym (up_to-length (tree_at s) (trees_held_at s)))
      (λ i h. at_each i ∙ sym (up_to-at (tree_at s) (trees_held_at s) i [] (omega (arith, trees-length))))

  pub trees-mem : (t : List ℕ) → Mem t (held_at s).trees → (i : ℕ) × (i < trees_held_at s) × (t ≡ tree_at s i)
  trees-mem t h = up_to-mem (tree_at s) (trees_held_at s) t (subst (Mem t) held-trees h)

  pub mem-trees : (i : ℕ) → i < trees_held_at s → Mem (tree_at s i) (held_at s).trees
  mem-trees i h = rw held-trees (mem-up_to (tree_at s) (trees_held_at s) i h)

  pub tree-mem : (i m : ℕ) → Mem m (tree_at s i) → (k : ℕ) × Mem k (list_at s i) × (m ≡ mask_at s k)
  tree-mem i m h = map-mem (mask_at s) (list_at s i) m h

  pub mem-tree : (i k : ℕ) → Mem k (list_at s i) → Mem (mask_at s k) (tree_at s i)
  mem-tree i k h = mem-map (mask_at s) (list_at s i) k h

  -- a split that some tree lists
  pub listed-some : (k t : ℕ) → t ≤ trees_held_at s → 1 ≤ listed s k t → (i : ℕ) × (i < t) × Mem k (list_at s i)
  listed-some k zero here h = absurd (omega (arith, listed_nil (parts_at s) k))
  listed-some k (suc t) here h = go (member k (list_at s t)) refl (subst (λ (n : ℕ). 1 ≤ n) (listed_next (parts_at s) k t here) h) (listed-some k t (omega arith))
    where
      go : (b : Bool) → member k (list_at s t) ≡ b → 1 ≤ (if b then suc (listed s k t) else listed s k t)
          → (1 ≤ listed s k t → (i : ℕ) × (i < t) × Mem k (list_at s i)) → (i : ℕ) × (i < suc t) × Mem k (list_at s i)
      go true e l f = (t, omega arith, member-mem k (list_at s t) e)
      go false e l f = let r = f l in (r.0, omega (arith, r.1), r.2)

-- ---- what whole bytes are read as

module _ (s : List ℕ) (whole : whole_at s ≡ true) where
  facts : WholeAt s
  facts = whole-at-facts s whole

  splits : SplitsAt s
  splits = facts.splits

  pub member-at : (k i : ℕ) → k < splits_held_at s → i < trees_held_at s → member (mask_at s k) (tree_at s i) ≡ member k (list_at s i)
  member-at k i a b =
      same_bool _ _
      (λ e.
      let r = tree-mem s i (mask_at s k) (member-mem _ _ e) in
      let q : k ≡ r.0 = mask-same (parts_at s) (shaped-at s).order splits k r.0 a ((facts.lists i b).numbers-below r.0 r.1) r.2 in
      mem-member k (list_at s i) (rw q r.1))
      (λ e. mem-member (mask_at s k) (tree_at s i) (mem-tree s i k (member-mem k (list_at s i) e)))

  -- of the first t trees
  listed-count : (k : ℕ) → k < splits_held_at s → (t : ℕ) → t ≤ trees_held_at s → count (up_to (tree_at s) t) (mask_at s k) ≡ listed s k t
  unfolding up_to
  listed-count k a zero h = count-nil (mask_at s k) ∙ sym (listed_nil (parts_at s) k)
  listed-count k a (suc t) h =
      ap (λ (ts : List (List ℕ)). count ts (mask_at s k)) (up_to-more (tree_at s) t)
      ∙ count-append (up_to (tree_at s) t) (tree_at s t) (mask_at s k)
      ∙ rw (member-at k t a h, listed-count k a t (omega arith)) (sym (listed_next (parts_at s) k t h))

  pub count_at_lem : (k : ℕ) → k < splits_held_at s → count (held_at s).trees (mask_at s k) ≡ count_at s k
  count_at_lem k h = rw held-trees (listed-count k h (trees_held_at s) (omega arith) ∙ sym (facts.counts k h).counted)

  pub recorded-at : recorded (held_at s).trees ≡ masks_at s
  recorded-at =
      rising-same (recorded (held_at s).trees) (masks_at s) (recorded-rising (held_at s).trees) (masks-rise (parts_at s) (shaped-at s).order splits)
      (λ y h.
      let r = recorded-mem (held_at s).trees y h in
      let i = trees-mem s r.0 r.1 in
      let k = tree-mem s i.0 y (subst (Mem y) i.2 r.2) in
      rw k.2 (mem-masks (parts_at s) (shaped-at s).order splits k.0 ((facts.lists i.0 i.1).numbers-below k.0 k.1)))
      (λ y h.
      let k = masks-mem (parts_at s) (shaped-at s).order splits y h in
      let c = facts.counts k.0 k.1 in
      let i = listed-some s k.0 (trees_held_at s) (omega arith) (omega (arith, c.some-tree, c.counted)) in
      rw k.2 (mem-recorded (held_at s).trees (tree_at s i.0) (mask_at s k.0) (mem-trees s i.0 i.1) (mem-tree s i.0 k.0 i.2)))

  -- "A recorded split's number is its place, from 0, in the list by rising mask"
  pub recorded-length : length (recorded (held_at s).trees) ≡ splits_held_at s
  recorded-length = ap length recorded-at ∙ masks-length (parts_at s) (shaped-at s).order

  pub recorded-mask : (k : ℕ) → k < splits_held_at s → slice_index (recorded (held_at s).trees) k ≡ split_at s k
  recorded-mask k h = rw recorded-at (number-mask (parts_at s) (shaped-at s).order k h)
