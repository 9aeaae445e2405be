-- `lengths::times` meets its contract. Assumes nothing.
use mathlib.Core.Path.{sym, ap, ◌∙◌}
use borrow.Author.Rules.{rules}
use mathlib.Core.Option.{some}
use Rattle.trees.specs.Value.{signed}
use Rattle.theorems.specs.FloatLaws.{whole-fits}
use Rattle.theorems.specs.ValueLaws.{times-ten, measured-in, measured-large, measured-far, inside-up, outside-up}
use Rattle.lengths.specs.Answer.{value_given}
use Rattle.lengths.proofs.times.Goals as goal

pub int_to_float-n : goal.int_to_float-n
int_to_float-n c = whole-fits _ (search rules)

pub returns-then-k-le22 : goal.returns-then-k-le22
unfolding value_given
returns-then-k-le22 c =
    let a = c.args in
    ap some (c.with_sign.ensures ∙ ap (signed a.minus a.n) (times-ten a.n a.k _ (search rules) c.ten.ensures))
    ∙ sym (measured-in a.minus a.n _ (search rules) (inside-up a.k (search rules)))

pub returns-else-k-le22 : goal.returns-else-k-le22
unfolding value_given
returns-else-k-le22 c = sym (measured-far _ _ _ (outside-up _ (search rules)))

pub returns-else-n-le9007199254740992 : goal.returns-else-n-le9007199254740992
unfolding value_given
returns-else-n-le9007199254740992 c = sym (measured-large _ _ _ (search rules))
