-- `text::ends::end_in_block` meets its contract: without a semicolon no text ends. Assumes nothing.
use mathlib.Core.Path.{sym, ◌∙◌}
use native.Mathlib.Omega.{arith}
use Rattle.text.proofs.PieceLaws.{plain_end}
use Rattle.text.proofs.ends.end_in_block.Goals as goal

pub returns : goal.returns
returns c = record { value = sym (plain_end _ _ (sym c.holds.ensures ∙ c.if-holds.false)); upper_bound = omega arith }
