-- `nexus::lines::block_begun` meets its contract. Assumes nothing.
use mathlib.Core.Path.{sym, ◌∙◌}
use Rattle.trees.specs.Plain.{bytes}
use Rattle.opening.specs.GivenLaws.{failed, passed}
use Rattle.nexus.specs.LineLaws.{not-begin, no_name, more-behind, trees-begun, other-begun}
use Rattle.nexus.proofs.lines.block_begun.Goals as goal

pub returns-then-not-is_word : goal.returns-then-not-is_word
unfolding bytes
returns-then-not-is_word c = not-begin _ _ c.first_token-w.ensures (failed _ _ c.is_word.ensures c.if-not-is_word.true-raw)

pub returns-then-x : goal.returns-then-x
unfolding bytes
returns-then-x c =
    no_name _ _ c.first_token-w.ensures _ c.first_token-x.ensures
    (passed _ _ c.is_word.ensures c.if-not-is_word.false-raw) c.if-x.true

pub returns-then-skip-c : goal.returns-then-skip-c
unfolding bytes
returns-then-skip-c c =
    more-behind _ _ c.first_token-w.ensures _ c.first_token-x.ensures
    (passed _ _ c.is_word.ensures c.if-not-is_word.false-raw) c.if-x.false _ c.skip.ensures
    c.if-skip-c.true

pub returns-then-is_word : goal.returns-then-is_word
unfolding bytes
returns-then-is_word c =
    trees-begun _ _ c.first_token-w.ensures _ c.first_token-x.ensures
    (passed _ _ c.is_word.ensures c.if-not-is_word.false-raw) c.if-x.false _
    c.skip.ensures c.if-skip-c.false
    (sym c.is_word-2.ensures ∙ c.if-is_word.true)

pub returns : goal.returns
unfolding bytes
returns c =
    other-begun _ _ c.first_token-w.ensures _ c.first_token-x.ensures
    (passed _ _ c.is_word.ensures c.if-not-is_word.false-raw) c.if-x.false _
    c.skip.ensures c.if-skip-c.false
    (sym c.is_word-2.ensures ∙ c.if-is_word.false)
