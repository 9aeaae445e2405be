-- `summary::texts::add_capped` meets its contract. Assumes nothing.
use native.Mathlib.Omega.{arith}
use Rattle.summary.specs.TextsLaws.{capped_small, capped-large}
use Rattle.summary.proofs.texts.add_capped.Goals as goal

pub returns-then-a-b : goal.returns-then-a-b
returns-then-a-b c = capped-large _ (omega arith)

pub returns : goal.returns
returns c = capped_small _ (omega arith)
