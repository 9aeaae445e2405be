-- `newick::noting::length_behind` meets its contract. Assumes nothing.
use Rattle.std.proofs.Common.{sym, refl, ap, ◌∙◌, arith}
use Rattle.theorems.specs.ValueLaws.{length-proper}
use Rattle.theorems.specs.ProperDoubleLaws.{proper-number}
use Rattle.lengths.specs.Answer.{value_given}
use Rattle.newick.proofs.NotingLaws.{length-stands, measured-outside, measured-inside}
use Rattle.newick.proofs.noting.length_behind.Goals as goal

pub length_at-t-requires : goal.length_at-t-requires
length_at-t-requires c = record { length_stands = length-stands _ _ _ c.requires.fine c.skip_blanks-b.ensures; text_len_bound = omega (arith, c.requires.at_in_bounds.1) }

pub float_to_bits-result : goal.float_to_bits-result
unfolding value_given
float_to_bits-result c = proper-number _ (length-proper _ _ (sym c.length_at-t.ensures.value ∙ ap value_given c.in_ok-x.was))

pub returns-in_err-x : goal.returns-in_err-x
unfolding value_given
returns-in_err-x c = rw c.from_residual.ensures (measured-outside _ _ _ c.requires.fine c.skip_blanks-b.ensures _ c.length_at-t.ensures.run (sym c.length_at-t.ensures.value ∙ ap value_given c.in_err-x.was))

pub returns : goal.returns
unfolding value_given
returns c = measured-inside _ _ _ c.requires.fine c.skip_blanks-b.ensures _ c.length_at-t.ensures.run _ _ (sym c.length_at-t.ensures.value ∙ ap value_given c.in_ok-x.was) refl
