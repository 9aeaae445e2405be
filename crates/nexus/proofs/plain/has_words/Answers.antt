-- `nexus::plain::has_words` meets its contract. Assumes nothing.
use mathlib.Core.Path.{sym}
use mathlib.Core.Bool.{true≢false}
use Rattle.nexus.proofs.plain.has_words.Goals as goal

pub returns-then-n-gt16 : goal.returns-then-n-gt16
returns-then-n-gt16 c = λ e. absurd (true≢false (sym e))

pub returns-then-left-lt16 : goal.returns-then-left-lt16
returns-then-left-lt16 c = λ e. absurd (true≢false (sym e))
