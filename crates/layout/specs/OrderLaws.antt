-- The rows of the splits and their order by mask. Assumes nothing.
--
--   masks-length, number-mask, masks-numbered     the recorded masks, by the splits' numbers
-- where the splits are in order:
--   row_below                     the rows in the order are rows of the splits
--   splits-up                     the masks rise with the splits' numbers
--   row-numbered                  every row is that of one number
--   masks-mem, mem-masks          the recorded masks are those of the rows
--   mask-same                     "all different"
--   mask-proper                   each is proper
use Rattle.std.specs.Prelude.{ℕ, ◌≤◌, ◌<◌, ◌≡◌, ◌⊎◌, true, List, length, get_or}
use Rattle.std.proofs.Common.{arith, sym, ap, subst, ◌∙◌, inl, inr, ext_get_or}
use Rattle.trees.specs.Mask.{proper}
use Rattle.theorems.specs.ListLaws.{Mem, every-at, less-or-not, mem-get_d}
use Rattle.theorems.specs.RisingLaws.{Rising, rising-true}
use Rattle.head.specs.Head.{up_to}
use Rattle.head.specs.HeadLaws.{up_to-length, up_to-at}
use Rattle.layout.specs.Store.{Parts, splits_in, mask_in, order_in, split_in, masks_in}
use Rattle.layout.specs.WholeFacts.{SplitsIn}
use Rattle.layout.specs.UpToLaws.{length-map, map_at, map-mem, mem-map, mem-at, rising-at}
use Rattle.layout.specs.PigeonLaws.{each_stands}

module _ (p : Parts) (long : length p.order ≡ splits_in p) where
  pub masks-length : length (masks_in p) ≡ splits_in p
  masks-length = length-map (mask_in p) p.order ∙ long

  pub number-mask : (k : ℕ) → k < splits_in p → get_or (masks_in p) k 0 ≡ split_in p k
  number-mask k h = map_at (mask_in p) p.order k (omega (arith, long))

  pub masks-numbered : masks_in p ≡ up_to (split_in p) (splits_in p)
  masks-numbered =
      ext_get_or 0 _ _ (masks-length ∙ sym (up_to-length (split_in p) (splits_in p))) (λ i q.
      let h : i < splits_in p = omega (arith, masks-length) in
      number-mask i h ∙ sym (up_to-at (split_in p) (splits_in p) i 0 h))

  module _ {taxa : ℕ} {second : List ℕ} (f : SplitsIn taxa second p) where
    pub masks-rise : Rising (masks_in p)
    masks-rise = rising-true (masks_in p) f.masks-rising

    splits-rise : (i j : ℕ) → i < j → j < splits_in p → split_in p i < split_in p j
    splits-rise i j a b =
        omega (arith, rising-at (masks_in p) masks-rise i j a (omega (arith, masks-length)), number-mask i (omega arith), number-mask j b)

    pub splits-up : (i j : ℕ) → i ≤ j → j < splits_in p → split_in p i ≤ split_in p j
    splits-up i j a b = go (less-or-not i j)
      where
        go : (i < j) ⊎ (j ≤ i) → split_in p i ≤ split_in p j
        go (inl l) = omega (arith, splits-rise i j l b)
        go (inr l) = let e : i ≡ j = omega arith in rw e (omega arith)

    split-same : (i j : ℕ) → i < splits_in p → j < splits_in p → split_in p i ≡ split_in p j → i ≡ j
    split-same i j a b e = go (less-or-not i j) (less-or-not j i)
      where
        go : (i < j) ⊎ (j ≤ i) → (j < i) ⊎ (i ≤ j) → i ≡ j
        go (inl l) r = absurd (omega (arith, splits-rise i j l b))
        go (inr l) (inl r) = absurd (omega (arith, splits-rise j i r a))
        go (inr l) (inr r) = omega arith

    pub row-numbered : (k : ℕ) → k < splits_in p → (i : ℕ) × (i < splits_in p) × (order_in p i ≡ k)
    row-numbered = each_stands (splits_in p) (order_in p) f.rows-below (λ i j a b e. split-same i j a b (ap (mask_in p) e))

    pub row_below : (k : ℕ) → Mem k p.order → k < splits_in p
    row_below k h = let i = mem-at p.order k h in subst (λ (r : ℕ). r < splits_in p) i.2 (f.rows-below i.0 (omega (arith, i.1, long)))

    pub masks-mem : (m : ℕ) → Mem m (masks_in p) → (k : ℕ) × (k < splits_in p) × (m ≡ mask_in p k)
    masks-mem m h = let r = map-mem (mask_in p) p.order m h in (r.0, row_below r.0 r.1, r.2)

    pub mem-masks : (k : ℕ) → k < splits_in p → Mem (mask_in p k) (masks_in p)
    mem-masks k h =
        let r = row-numbered k h in
        mem-map (mask_in p) p.order k (subst (λ (x : ℕ). Mem x p.order) r.2 (mem-get_d p.order r.0 (omega (arith, r.1, long))))

    pub mask-same : (i j : ℕ) → i < splits_in p → j < splits_in p → mask_in p i ≡ mask_in p j → i ≡ j
    mask-same i j a b e =
        let x = row-numbered i a in
        let y = row-numbered j b in
        let d = split-same x.0 y.0 x.1 y.1 (ap (mask_in p) x.2 ∙ e ∙ sym (ap (mask_in p) y.2)) in
        sym x.2 ∙ ap (order_in p) d ∙ y.2

    pub mask-proper : (k : ℕ) → k < splits_in p → proper taxa (mask_in p k) ≡ true
    mask-proper k h = every-at (proper taxa) (masks_in p) f.masks-proper (mask_in p k) (mem-masks k h)
