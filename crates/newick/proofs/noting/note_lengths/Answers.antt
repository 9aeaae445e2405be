use Rattle.std.proofs.Common.{subst, arith}
use Rattle.newick.specs.Noting.{MeasuredBehind}
use Rattle.newick.proofs.NotingLaws.{noting-none, noting-asks, length-past, behind-length, noting-length, noting-outside, behind-closing, noting-closing, behind-comma, noting-comma, behind-quoted, noting-quoted, noting-done}
use Rattle.newick.proofs.noting.note_lengths.Goals as goal

pub next_stop-at-requires : goal.next_stop-at-requires
next_stop-at-requires c = record { from_in_bounds = omega arith; fine = c.requires.fine }

pub loop-at-init : goal.loop-at-init
loop-at-init c = noting-none _ _ _ c.next_stop-at.ensures

pub overflow_add-at : goal.overflow_add-at
overflow_add-at c = omega (arith, c.requires.text_len_bound)

pub length_behind-m-requires : goal.length_behind-m-requires
length_behind-m-requires c = record { at_in_bounds = (omega (arith, c.loop-at-test.true), c.requires.text_len_bound); fine = noting-asks _ _ _ _ _ _ c.loop-at.invariant c.loop-at-test.true c.if-b-eq58.true }

pub returns-in_default : goal.returns-in_default
returns-in_default c = noting-outside _ _ _ _ _ _ c.loop-at.invariant c.loop-at-test.true c.if-b-eq58.true (subst (MeasuredBehind _ _) c.in_default.is c.length_behind-m.ensures)

pub note_last-requires : goal.note_last-requires
note_last-requires c = c.loop-at.invariant.some-noted

pub next_stop-at-requires-then-b-eq58 : goal.next_stop-at-requires-then-b-eq58
next_stop-at-requires-then-b-eq58 c =
    let m = subst (MeasuredBehind _ _) c.in-Some.is c.length_behind-m.ensures in
    let t = c.if-b-eq58.true in record { from_in_bounds = (length-past _ _ _ _ _ _ c.loop-at.invariant c.loop-at-test.true t _ _ m).1; fine = behind-length _ _ _ _ _ _ c.loop-at.invariant c.loop-at-test.true t _ _ m }

pub loop-at-smaller-then-b-eq58 : goal.loop-at-smaller-then-b-eq58
loop-at-smaller-then-b-eq58 c =
    let p = length-past _ _ _ _ _ _ c.loop-at.invariant c.loop-at-test.true c.if-b-eq58.true _ _ (subst (MeasuredBehind _ _) c.in-Some.is c.length_behind-m.ensures) in
    omega (arith, p.0, c.next_stop-at-then-b-eq58.ensures.passed.past, c.loop-at-test.true)

pub loop-at-preserved-then-b-eq58 : goal.loop-at-preserved-then-b-eq58
loop-at-preserved-then-b-eq58 c = noting-length _ _ _ _ _ _ c.loop-at.invariant c.loop-at-test.true c.if-b-eq58.true _ _ (subst (MeasuredBehind _ _) c.in-Some.is c.length_behind-m.ensures) _ c.note_last.ensures _ c.next_stop-at-then-b-eq58.ensures

pub overflow_add-n : goal.overflow_add-n
overflow_add-n c = omega (arith, c.loop-at.invariant.few, c.requires.text_len_bound)

pub overflow_add-at-then-b-eq41 : goal.overflow_add-at-then-b-eq41
overflow_add-at-then-b-eq41 c = omega (arith, c.requires.text_len_bound)

pub next_stop-at-requires-then-b-eq41 : goal.next_stop-at-requires-then-b-eq41
next_stop-at-requires-then-b-eq41 c = record { from_in_bounds = omega (arith, c.loop-at-test.true); fine = behind-closing _ _ _ _ _ _ c.loop-at.invariant c.loop-at-test.true c.if-b-eq41.true }

pub loop-at-smaller-then-b-eq41 : goal.loop-at-smaller-then-b-eq41
loop-at-smaller-then-b-eq41 c = omega (arith, c.next_stop-at-then-b-eq41.ensures.passed.past)

pub loop-at-preserved-then-b-eq41 : goal.loop-at-preserved-then-b-eq41
loop-at-preserved-then-b-eq41 c = noting-closing _ _ _ _ _ _ c.loop-at.invariant c.loop-at-test.true c.if-b-eq41.true _ c.put.ensures _ c.next_stop-at-then-b-eq41.ensures

pub overflow_add-at-then-b-eq44 : goal.overflow_add-at-then-b-eq44
overflow_add-at-then-b-eq44 c = omega (arith, c.requires.text_len_bound)

pub next_stop-at-requires-then-b-eq44 : goal.next_stop-at-requires-then-b-eq44
next_stop-at-requires-then-b-eq44 c = record { from_in_bounds = omega (arith, c.loop-at-test.true); fine = behind-comma _ _ _ _ _ _ c.loop-at.invariant c.loop-at-test.true c.if-b-eq44.true }

pub loop-at-smaller-then-b-eq44 : goal.loop-at-smaller-then-b-eq44
loop-at-smaller-then-b-eq44 c = omega (arith, c.next_stop-at-then-b-eq44.ensures.passed.past)

pub loop-at-preserved-then-b-eq44 : goal.loop-at-preserved-then-b-eq44
loop-at-preserved-then-b-eq44 c = noting-comma _ _ _ _ _ _ c.loop-at.invariant c.loop-at-test.true c.if-b-eq44.true _ c.next_stop-at-then-b-eq44.ensures

pub next_stop-at-requires-in-loop-at : goal.next_stop-at-requires-in-loop-at
next_stop-at-requires-in-loop-at c = let p = behind-quoted _ _ _ _ _ _ c.loop-at.invariant c.loop-at-test.true c.if-b-eq58.false c.if-b-eq41.false c.if-b-eq44.false _ c.label_end.ensures in record { from_in_bounds = p.0.within; fine = p.0.fine }

pub loop-at-smaller : goal.loop-at-smaller
loop-at-smaller c =
    let p = behind-quoted _ _ _ _ _ _ c.loop-at.invariant c.loop-at-test.true c.if-b-eq58.false c.if-b-eq41.false c.if-b-eq44.false _ c.label_end.ensures in
    omega (arith, p.1, c.next_stop-at-in-loop-at.ensures.passed.past, c.loop-at-test.true)

pub loop-at-preserved : goal.loop-at-preserved
loop-at-preserved c = noting-quoted _ _ _ _ _ _ c.loop-at.invariant c.loop-at-test.true c.if-b-eq58.false c.if-b-eq41.false c.if-b-eq44.false _ c.label_end.ensures _ c.next_stop-at-in-loop-at.ensures

pub returns : goal.returns
returns c = noting-done _ _ _ _ _ _ c.loop-at.invariant (omega arith)
