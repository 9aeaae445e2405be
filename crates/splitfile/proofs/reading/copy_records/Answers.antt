use Rattle.std.proofs.Common.{◌≡◌, sym, refl, ◌∙◌, arith, length-set}
use Rattle.answers.specs.FrontLaws.{copied_more, copied_all}
use Rattle.splitfile.specs.EntryLaws.{masks-length, mask_at, counts-length, count_at}
use Rattle.splitfile.proofs.reading.copy_records.Goals as goal

pub loop-i-init : goal.loop-i-init
loop-i-init c = (omega arith, refl, refl, refl, refl)

pub loop-i-preserved : goal.loop-i-preserved
loop-i-preserved c =
    let a = c.args in
    let l = c.loop-i in
    let v = c.loop-i.invariant in
    let n = masks-length a.n a.file.now in
    let m = counts-length a.n a.file.now in
    let p = c.mask_of.ensures ∙ sym (mask_at a.n a.file.now l.i (omega arith)) in
    let q = c.count_of.ensures ∙ sym (count_at a.n a.file.now l.i (omega arith)) in (
      omega arith,
      simp length-set v.1,
      simp length-set v.2,
      copied_more _ _ _ l.i v.3 _ (omega arith) (omega arith) p,
      copied_more _ _ _ l.i v.4 _ (omega arith) (omega arith) q,
    )

pub shape_of-masks : goal.shape_of-masks
shape_of-masks c = c.loop-i.invariant.1

pub shape_of-counts : goal.shape_of-counts
shape_of-counts c = c.loop-i.invariant.2

pub returns : goal.returns
returns c =
    let a = c.args in
    let l = c.loop-i in
    let e : l.i ≡ a.n = omega arith in
    let n = masks-length a.n a.file.now in
    let m = counts-length a.n a.file.now in record { masks_after = rw e at (copied_all _ _ _ l.i l.invariant.3 (e ∙ sym n)); counts_after = rw e at (copied_all _ _ _ l.i l.invariant.4 (e ∙ sym m)) }
