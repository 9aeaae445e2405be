-- `summary::begin` meets its contract: each return is a law. Assumes nothing.
use native.Mathlib.Omega.{arith}
use Rattle.summary.specs.CallLaws.{begun-names, begun-lent, begun-done}
use Rattle.summary.proofs.begin.Goals as goal

pub returns-then-names-lt4288 : goal.returns-then-names-lt4288
returns-then-names-lt4288 c = begun-names _ _ (omega arith)

pub returns-then-lent-lt22024 : goal.returns-then-lent-lt22024
returns-then-lent-lt22024 c = begun-lent _ _ (omega arith)

pub returns : goal.returns
returns c = begun-done _ _ (omega arith) (omega arith)
