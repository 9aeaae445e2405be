-- `doubles::get_length` meets its contract: all ones are no length, and other bits a double. Assumes nothing.
use mathlib.Core.Path.{sym, ap, ◌∙◌}
use mathlib.Core.Option.{some}
use lib.Ieee.{binary64, of_bits}
use Rattle.theorems.specs.ProperDoubleLaws.{proper-pattern}
use Rattle.doubles.specs.Double.{double_at}
use Rattle.doubles.specs.Stored.{branch_given}
use Rattle.doubles.specs.StoredLaws.{length_none, length_some, good-some}
use Rattle.doubles.proofs.get_length.Goals as goal

pub returns-then-bits : goal.returns-then-bits
unfolding branch_given
returns-then-bits c = sym (length_none _ _ (sym c.get64-bits.ensures ∙ c.if-bits.true))

pub float_from_bits-result : goal.float_from_bits-result
unfolding double_at
float_from_bits-result c = proper-pattern _ (rw c.get64-bits.ensures (sym (good-some _ _ (λ e. c.if-bits.false (c.get64-bits.ensures ∙ e))) ∙ c.requires.at_value))

pub returns : goal.returns
unfolding branch_given double_at
returns c = ap (λ n. some (of_bits binary64 n)) c.get64-bits.ensures ∙ sym (length_some _ _ (λ e. c.if-bits.false (c.get64-bits.ensures ∙ e)))
