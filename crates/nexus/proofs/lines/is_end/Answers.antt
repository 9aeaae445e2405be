-- `nexus::lines::is_end` meets its contract. Assumes nothing.
use mathlib.Core.Path.{sym}
use Rattle.trees.specs.Plain.{bytes}
use Rattle.opening.specs.GivenLaws.{failed, passed}
use Rattle.nexus.specs.LineLaws.{end-not, end_is}
use Rattle.nexus.proofs.lines.is_end.Goals as goal

pub returns-then-not-is_word : goal.returns-then-not-is_word
unfolding bytes
returns-then-not-is_word c = sym (end-not _ _ c.first_token-w.ensures (failed _ _ c.is_word.ensures c.if-not-is_word.true-raw))

pub returns : goal.returns
unfolding bytes
returns c =
    sym
    (end_is _ _ c.first_token-w.ensures _
    (passed _ _ c.is_word.ensures c.if-not-is_word.false-raw) c.skip.ensures)
