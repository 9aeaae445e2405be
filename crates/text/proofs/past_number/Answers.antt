use native.Mathlib.Omega.{arith}
use mathlib.Core.Path.{sym, ap, ◌∙◌}
use Rattle.text.specs.Automaton.{is_end}
use Rattle.text.proofs.TokenLaws.{label-there}
use Rattle.text.proofs.NumberLaws.{walked_none, walked-turn, number-quote, number-good, number-odd, not_end}
use Rattle.text.proofs.past_number.Goals as goal

pub loop-k-init : goal.loop-k-init
loop-k-init c = walked_none _ _ c.requires.0

pub bounds-text-i : goal.bounds-text-i
bounds-text-i c = (label-there _ _ (sym c.has_label_byte.ensures ∙ c.loop-k-test.true)).0

pub move_of-q-requires : goal.move_of-q-requires
move_of-q-requires c = (c.loop-k.invariant.small, c.class_of-k.ensures.1)

pub overflow_add-i : goal.overflow_add-i
overflow_add-i c = omega (arith, (label-there c.args.text.now c.loop-k.i (sym c.has_label_byte.ensures ∙ c.loop-k-test.true)).0)

pub past_digits-i-requires : goal.past_digits-i-requires
past_digits-i-requires c = let h = (label-there c.args.text.now c.loop-k.i (sym c.has_label_byte.ensures ∙ c.loop-k-test.true)).0 in omega arith

pub loop-k-smaller : goal.loop-k-smaller
loop-k-smaller c = omega (arith, (label-there c.args.text.now c.loop-k.i (sym c.has_label_byte.ensures ∙ c.loop-k-test.true)).0, c.past_digits-i.ensures.past)

pub loop-k-preserved : goal.loop-k-preserved
loop-k-preserved c =
    let p = label-there _ _ (sym c.has_label_byte.ensures ∙ c.loop-k-test.true) in
    walked-turn _ _ _ _ _ _ _ c.loop-k.invariant p.0 p.1 c.class_of-k.ensures.0 c.move_of-q.ensures.0 c.move_of-q.ensures.1 c.past_digits-i.ensures

pub returns-then-has_byte : goal.returns-then-has_byte
returns-then-has_byte c = number-quote _ _ _ _ c.loop-k.invariant (sym c.has_label_byte.ensures ∙ c.loop-k-test.false) (sym c.has_byte.ensures ∙ c.if-has_byte.true)

pub returns-then-q-eq2 : goal.returns-then-q-eq2
returns-then-q-eq2 c = number-good _ _ _ _ c.loop-k.invariant (sym c.has_label_byte.ensures ∙ c.loop-k-test.false) (sym c.has_byte.ensures ∙ c.if-has_byte.false) (ap is_end c.if-q-eq2.true)

pub returns-then-q-eq4 : goal.returns-then-q-eq4
returns-then-q-eq4 c = number-good _ _ _ _ c.loop-k.invariant (sym c.has_label_byte.ensures ∙ c.loop-k-test.false) (sym c.has_byte.ensures ∙ c.if-has_byte.false) (ap is_end c.if-q-eq4.true)

pub returns-then-q-eq7 : goal.returns-then-q-eq7
returns-then-q-eq7 c = number-good _ _ _ _ c.loop-k.invariant (sym c.has_label_byte.ensures ∙ c.loop-k-test.false) (sym c.has_byte.ensures ∙ c.if-has_byte.false) (ap is_end c.if-q-eq7.true)

pub returns : goal.returns
returns c = number-odd _ _ _ _ c.loop-k.invariant (sym c.has_label_byte.ensures ∙ c.loop-k-test.false) (sym c.has_byte.ensures ∙ c.if-has_byte.false) c.requires.1 (not_end _ c.if-q-eq2.false c.if-q-eq4.false c.if-q-eq7.false)
