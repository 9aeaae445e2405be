-- `nexus::keyed::bare_from` meets its contract. Assumes nothing.
use native.Mathlib.Omega.{arith}
use Rattle.nexus.specs.NamingLaws.{bare-here, bare_none}
use Rattle.nexus.proofs.keyed.bare_from.Goals as goal

pub returns-then-past_plain-raw : goal.returns-then-past_plain-raw
returns-then-past_plain-raw c = bare_none _

pub returns-then-raw-from-gt-MOST_TEXT : goal.returns-then-raw-from-gt-MOST_TEXT
returns-then-raw-from-gt-MOST_TEXT c = bare_none _

pub returns : goal.returns
returns c = bare-here _ _ c.skip-from.ensures _ c.past_plain.ensures (omega arith) (omega arith)
