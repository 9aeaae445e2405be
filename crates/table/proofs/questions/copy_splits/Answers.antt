use mathlib.Core.Path.{◌≡◌, refl, sym, ◌∙◌}
use native.Mathlib.Omega.{arith}
use Rattle.layout.specs.Store.{parts_at, splits_held_at, masks_at}
use Rattle.layout.specs.StoreLaws.{shaped-at}
use Rattle.layout.specs.WholeFacts.{whole-at-facts}
use Rattle.layout.specs.OrderLaws.{masks-length, number-mask}
use Rattle.store.specs.SplitLaws.{split-read}
use Rattle.rows.specs.ReadLaws.{long, count_small, row_below}
use Rattle.answers.specs.FrontLaws.{copied-length, copied_more, copied_all}
use Rattle.store.specs.Counts.{counts_at}
use Rattle.store.specs.CountsLaws.{counts-length, number-count, row_count}
use Rattle.answers.specs.FrontLaws.{copied-length, copied_more, copied_all}
use Rattle.table.proofs.questions.copy_splits.Goals as goal

pub splits_held-held-requires : goal.splits_held-held-requires
splits_held-held-requires c = long _ c.requires.s_value

pub loop-k-init : goal.loop-k-init
loop-k-init c = (omega arith, refl, refl)

pub row_of-row-requires : goal.row_of-row-requires
row_of-row-requires c = record { head_at = (whole-at-facts _ c.requires.s_value).head; k_bound = omega arith }

pub mask_at-requires : goal.mask_at-requires
mask_at-requires c = let w = c.requires.s_value in record { head_at = (whole-at-facts _ w).head; row_bound = omega (arith, c.row_of-row.ensures, row_below _ w c.loop-k.k (omega arith)) }

pub bounds-masks-k : goal.bounds-masks-k
bounds-masks-k c =
    let l = c.loop-k in
    let n = masks-length (parts_at c.args.s.now) (shaped-at c.args.s.now).order in
    omega (arith, copied-length (masks_at c.args.s.now) _ _ l.k l.invariant.1 (omega arith) (omega arith), c.requires.s_in_bounds)

pub count_at-requires : goal.count_at-requires
count_at-requires c = let w = c.requires.s_value in record { head_at = (whole-at-facts _ w).head; row_bound = omega (arith, c.row_of-row.ensures, row_below _ w c.loop-k.k (omega arith)) }

pub overflow_cast-counts : goal.overflow_cast-counts
overflow_cast-counts c =
    let b = c.type_inv.s in
    let r = row_below _ c.requires.s_value c.loop-k.k (omega arith) in
    omega (arith, count_small _ _ _ (omega (arith, c.row_of-row.ensures, r)) (λ i. omega (arith, b i)) c.count_at.ensures)

pub bounds-counts-k : goal.bounds-counts-k
bounds-counts-k c =
    let l = c.loop-k in
    let n = counts-length c.args.s.now in
    omega (arith, copied-length (counts_at c.args.s.now) _ _ l.k l.invariant.2 (omega arith) (omega arith), c.requires.s_in_bounds_2)

pub loop-k-preserved : goal.loop-k-preserved
loop-k-preserved c =
    let s = c.args.s.now in
    let l = c.loop-k in
    let n = masks-length (parts_at s) (shaped-at s).order in
    let m = counts-length s in
    let r = c.row_of-row.ensures in
    let p = split-read s l.k _ _ r c.mask_at.ensures ∙ sym (number-mask (parts_at s) (shaped-at s).order l.k (omega arith)) in
    let q = row_count s l.k _ _ r c.count_at.ensures ∙ sym (number-count s l.k (omega arith)) in (
      omega arith,
      copied_more (masks_at s) _ _ l.k l.invariant.1 _ (omega arith) (omega arith) p,
      copied_more (counts_at s) _ _ l.k l.invariant.2 _ (omega arith) (omega arith) q,
    )

pub shape_of-masks : goal.shape_of-masks
shape_of-masks c =
    let l = c.loop-k in
    let n = masks-length (parts_at c.args.s.now) (shaped-at c.args.s.now).order in
    copied-length (masks_at c.args.s.now) _ _ l.k l.invariant.1 (omega arith) (omega arith)

pub shape_of-counts : goal.shape_of-counts
shape_of-counts c =
    let l = c.loop-k in
    let n = counts-length c.args.s.now in
    copied-length (counts_at c.args.s.now) _ _ l.k l.invariant.2 (omega arith) (omega arith)

pub returns : goal.returns
returns c =
    let s = c.args.s.now in
    let l = c.loop-k in
    let e : l.k ≡ splits_held_at s = omega arith in record { masks_after = rw e at (copied_all _ _ _ _ l.invariant.1 (e ∙ sym (masks-length (parts_at s) (shaped-at s).order))); counts_after = rw e at (copied_all _ _ _ _ l.invariant.2 (e ∙ sym (counts-length s))) }
