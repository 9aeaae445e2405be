-- `doubles::holds_length` meets its contract: all ones are no length, and other bits a double. Assumes nothing.
use mathlib.Core.Path.{sym, ap, ◌∙◌}
use lib.Ieee.{binary64, of_bits}
use Rattle.trees.specs.Value.{proper}
use Rattle.doubles.specs.Double.{double_at}
use Rattle.doubles.specs.StoredLaws.{good_none, good-some}
use Rattle.doubles.proofs.holds_length.Goals as goal

pub returns-then-held : goal.returns-then-held
returns-then-held c = sym (good_none _ _ (sym c.get64-held.ensures ∙ c.if-held.true))

pub returns : goal.returns
unfolding double_at
returns c = c.is_proper.ensures ∙ ap (λ n. proper (of_bits binary64 n)) c.get64-held.ensures ∙ sym (good-some _ _ (λ e. c.if-held.false (c.get64-held.ensures ∙ e)))
