-- `newick::shape::read_leaf` meets its contract: no label, no leaf, or a leaf and its length. Assumes nothing.
use Rattle.std.proofs.Common.{arith}
use Rattle.newick.proofs.ShapeLaws.{read-leaf, read-stray, read-other}
use Rattle.newick.proofs.shape.read_leaf.Goals as goal

pub label_end-e-requires : goal.label_end-e-requires
label_end-e-requires c = c.requires.skipped.0.within

pub returns-then-text-e : goal.returns-then-text-e
returns-then-text-e c = λ depth nodes. read-stray _ depth _ _ nodes _ _ _ c.requires.skipped.0 c.label_end-e.ensures c.if-text-e.true c.fault.ensures

pub returns-then-e-at : goal.returns-then-e-at
returns-then-e-at c = λ depth nodes. read-other _ depth _ _ nodes _ _ _ c.requires.skipped.0 c.label_end-e.ensures (omega (arith, c.if-e-at.true)) c.requires.skipped.1 c.fault-then-e-at.ensures

pub note-requires : goal.note-requires
note-requires c =
    let r = c.requires.ready in
    (omega (arith, r.few-leaves, r.within, r.short), omega (arith, c.requires.skipped.0.within, r.short), omega (arith, c.if-text-e.false, r.short))

pub past_length-requires : goal.past_length-requires
past_length-requires c = c.if-text-e.false

pub overflow_add-result : goal.overflow_add-result
overflow_add-result c = let r = c.requires.ready in omega (arith, r.few-leaves, r.within, r.short)

pub returns : goal.returns
returns c =
    let l = c.label_end-e.ensures in
    λ depth nodes. read-leaf _ depth _ _ nodes _ _ _ _ c.requires.ready c.requires.skipped.0 l c.if-text-e.false (omega (arith, l.past, c.if-e-at.false)) c.note.ensures c.past_length.ensures
