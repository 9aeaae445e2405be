use Rattle.std.proofs.Common.{not, sym, refl, ap, ◌∙◌, arith}
use Rattle.splitfile.specs.FormLaws.{rising-not, rising-next, rising-end}
use Rattle.splitfile.proofs.form.are_rising.Goals as goal

pub loop-i-init : goal.loop-i-init
loop-i-init c = (omega arith, refl)

pub returns-then-not-is_next : goal.returns-then-not-is_next
returns-then-not-is_next c = sym (c.loop-i.invariant.1 ∙ rising-not _ _ _ _ _ _ (omega arith) (sym c.is_next.ensures ∙ c.if-not-is_next.true))

pub loop-i-preserved : goal.loop-i-preserved
loop-i-preserved c =
    let p = sym c.is_next.ensures ∙ c.if-not-is_next.false in
    (omega arith, c.loop-i.invariant.1 ∙ rw (c.union_of-seen.ensures, c.mask_of-before.ensures) (rising-next _ _ _ _ _ _ (omega arith) p))

pub returns : goal.returns
returns c =
    let a = c.args in
    let l = c.loop-i in
    ap not c.has_taxon.ensures ∙ sym (l.invariant.1 ∙ rising-end a.trees a.n a.file.now l.i l.seen l.before (omega arith))
