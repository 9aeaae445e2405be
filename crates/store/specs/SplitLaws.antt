-- Laws of the recorded splits. Assumes nothing.
--
--   proper-some                   a proper mask is not 0
--   before-none, before_more      the mask before, as a loop makes it
--   split-read                    the mask that is read
--   order-bad, mask-improper, mask_below, mask-good      the test of split number k, by its parts
--   identifier-good, identifier-bad          the test of an identifier
--   good-splits                   the test of the splits is these tests and those of the identifiers
use Rattle.std.specs.Prelude.{◌≡◌, ℕ, zero, suc, ◌+◌, ◌<◌, ◌≤◌, true, false, ◌&&◌, List, length, ◌≢◌, nat_lt, slice_index, refl}
use Rattle.std.proofs.Common.{add-one, arith, ◌∙◌}
use Rattle.std.proofs.Math.Path.{sym}
use Rattle.std.specs.Int.Count.{ones, ones_in}
use borrow.Author.Tests.{ltb-true, lt-ltb, le-ltb, eq-eqb, ne_eqb}
use Rattle.trees.specs.Plain.{every}
use Rattle.trees.specs.Mask.{proper}
use Rattle.trees.specs.Hash.{identifier}
use Rattle.trees.specs.Whole.{rising}
use Rattle.theorems.specs.ListLaws.{and_left, and_right, and-true, every-at, every-intro, mem-get_d, same_bool}
use Rattle.theorems.specs.OpeningLaws.{both}
use Rattle.theorems.specs.ProperLaws.{proper-two}
use Rattle.theorems.specs.RisingLaws.{rising-true, true-rising}
use Rattle.head.specs.Head.{numbers_at, second_at}
use Rattle.layout.specs.Store.{parts_at, splits_held_at, mask_at, order_at, split_at, masks_at, identifier_at}
use Rattle.layout.specs.WholeStore.{all_below, good_order, good_identifier, good_splits, identifier_good, order_good, splits_good}
use Rattle.layout.specs.StoreLaws.{shaped-at}
use Rattle.layout.specs.AllLaws.{all-at, all-intro}
use Rattle.layout.specs.UpToLaws.{mem-at, rising-at}
use Rattle.layout.specs.OrderLaws.{masks-length, number-mask}
use Rattle.store.specs.NeighbourLaws.{neighbours-rise}
use Rattle.store.specs.Splits.{mask_before, good_mask}

-- ---- a proper mask

pub proper-some : (n m : ℕ) → proper n m ≡ true → 0 < m
unfolding ones ones_in
proper-some n zero e = absurd (omega (arith, proper-two n 0 e))
proper-some n (suc m) e = omega arith

-- ---- the masks, a split at a time

pub before-none : (s : List ℕ) → mask_before s 0 ≡ 0
unfolding mask_before
before-none s = refl

pub before_more : (s : List ℕ) (k : ℕ) → mask_before s (k + 1) ≡ split_at s k
unfolding mask_before
before_more s k = rw (add-one k)

-- the mask that is read in the row of number k
pub split-read : (s : List ℕ) (k row m : ℕ) → row ≡ order_at s k → m ≡ mask_at s row → m ≡ split_at s k
split-read s k row m e q = q ∙ rw e

module _ (s : List ℕ) (k row : ℕ) (r : row ≡ order_at s k) where
  pub order-bad : splits_held_at s ≤ row → good_mask s k ≡ false
  unfolding good_mask order_good
  order-bad h = rw (← r, le-ltb row (splits_held_at s) h)

  module _ (h : row < splits_held_at s) (n m : ℕ) (e : n ≡ (numbers_at s).taxa) (q : m ≡ split_at s k) where
    ordered : good_order s k ≡ true
    unfolding order_good
    ordered = rw (← r) (lt-ltb row (splits_held_at s) h)

    pub mask-improper : proper n m ≡ false → good_mask s k ≡ false
    unfolding good_mask
    mask-improper f = rw (ordered, ← e, ← q, f)

    module _ (f : proper n m ≡ true) (last : ℕ) (b : last ≡ mask_before s k) where
      pub mask_below : nat_lt last m ≡ false → good_mask s k ≡ false
      unfolding good_mask
      mask_below l = rw (ordered, ← e, ← q, ← b, f, l)

      pub mask-good : nat_lt last m ≡ true → good_mask s k ≡ true
      unfolding good_mask
      mask-good l = rw (ordered, ← e, ← q, ← b, f, l)

module _ (s : List ℕ) (k m x y : ℕ) (q : m ≡ mask_at s k) (i : x ≡ identifier_at s k) (j : y ≡ identifier (second_at s) m) where
  pub identifier-good : x ≡ y → good_identifier s k ≡ true
  unfolding identifier_good
  identifier-good e = eq-eqb _ _ (sym i ∙ e ∙ j ∙ rw q)

  pub identifier-bad : (x ≢ y) → good_identifier s k ≡ false
  unfolding identifier_good
  identifier-bad f = ne_eqb _ _ (λ e. f (i ∙ e ∙ sym (j ∙ rw q)))

module _ (s : List ℕ) where
  long : length (masks_at s) ≡ splits_held_at s
  long = masks-length (parts_at s) (shaped-at s).order

  at-number : (i : ℕ) → i < splits_held_at s → slice_index (masks_at s) i ≡ split_at s i
  at-number i l = number-mask (parts_at s) (shaped-at s).order i l

  each-proper : every (proper (numbers_at s).taxa) (masks_at s) ≡ true → (i : ℕ) → i < splits_held_at s → proper (numbers_at s).taxa (split_at s i) ≡ true
  each-proper e i l = rw (← at-number i l) (every-at _ _ e _ (mem-get_d (masks_at s) i (omega (arith, long))))

  neighbours : rising (masks_at s) ≡ true → (i : ℕ) → suc i < splits_held_at s → split_at s i < split_at s (suc i)
  neighbours h i l =
      omega (arith, rising-at (masks_at s) (rising-true _ h) i (suc i) (omega arith) (omega (arith, long)), at-number i (omega arith), at-number (suc i) l)

  each-above : every (proper (numbers_at s).taxa) (masks_at s) ≡ true → rising (masks_at s) ≡ true
      → (i : ℕ) → i < splits_held_at s → mask_before s i < split_at s i
  unfolding mask_before
  each-above e h zero l = proper-some _ _ (each-proper e 0 l)
  each-above e h (suc i) l = neighbours h i l

  mask-ordered : (i : ℕ) → good_mask s i ≡ true → good_order s i ≡ true
  unfolding good_mask
  mask-ordered i e = and_left _ _ e

  mask-proper : (i : ℕ) → good_mask s i ≡ true → proper (numbers_at s).taxa (split_at s i) ≡ true
  unfolding good_mask
  mask-proper i e = and_left _ _ (and_right (good_order s i) _ e)

  mask-above : (i : ℕ) → good_mask s (suc i) ≡ true → split_at s i < split_at s (suc i)
  unfolding good_mask mask_before
  mask-above i e = ltb-true _ _ (and_right (proper (numbers_at s).taxa (split_at s (suc i))) _ (and_right (good_order s (suc i)) _ e))

  masks-all : all_below (good_order s) (splits_held_at s) ≡ true → every (proper (numbers_at s).taxa) (masks_at s) ≡ true → rising (masks_at s) ≡ true
      → all_below (good_mask s) (splits_held_at s) ≡ true
  unfolding good_mask
  masks-all o e h = all-intro _ _ (λ i l. and-true (all-at (good_order s) _ o i l) (and-true (each-proper e i l) (lt-ltb _ _ (each-above e h i l))))

  all-ordered : all_below (good_mask s) (splits_held_at s) ≡ true → all_below (good_order s) (splits_held_at s) ≡ true
  all-ordered h = all-intro (good_order s) _ (λ i l. mask-ordered i (all-at _ _ h i l))

  all-proper : all_below (good_mask s) (splits_held_at s) ≡ true → every (proper (numbers_at s).taxa) (masks_at s) ≡ true
  all-proper h =
      every-intro _ _ (λ y k.
      let r = mem-at (masks_at s) y k in
      let l : r.0 < splits_held_at s = omega (arith, r.1, long) in
      rw (← r.2, at-number r.0 l) (mask-proper r.0 (all-at _ _ h r.0 l)))

  all-rising : all_below (good_mask s) (splits_held_at s) ≡ true → rising (masks_at s) ≡ true
  all-rising h =
      true-rising _ (neighbours-rise (masks_at s) (λ i l.
      let q : suc i < splits_held_at s = omega (arith, long) in
      omega (arith, mask-above i (all-at _ _ h (suc i) q), at-number i (omega arith), at-number (suc i) q)))

  good-apart : good_splits s ≡ true → (all_below (good_mask s) (splits_held_at s) && all_below (good_identifier s) (splits_held_at s)) ≡ true
  unfolding splits_good
  good-apart e =
      let o = both (all_below (good_order s) (splits_held_at s)) _ e in
      let p = both (every (proper (numbers_at s).taxa) (masks_at s)) _ o.1 in
      let r = both (rising (masks_at s)) (all_below (good_identifier s) (splits_held_at s)) p.1 in
      and-true (masks-all o.0 p.0 r.0) r.1

  good-together : (all_below (good_mask s) (splits_held_at s) && all_below (good_identifier s) (splits_held_at s)) ≡ true → good_splits s ≡ true
  unfolding splits_good
  good-together e =
      let h = both (all_below (good_mask s) (splits_held_at s)) (all_below (good_identifier s) (splits_held_at s)) e in
      and-true (all-ordered h.0) (and-true (all-proper h.0) (and-true (all-rising h.0) h.1))

  pub good-splits : good_splits s ≡ (all_below (good_mask s) (splits_held_at s) && all_below (good_identifier s) (splits_held_at s))
  good-splits = same_bool _ _ good-apart good-together
