-- `nexus::lines::text_from` meets its contract. Assumes nothing.
use Rattle.trees.specs.Plain.{bytes}
use Rattle.opening.specs.GivenLaws.{failed, passed}
use Rattle.nexus.specs.LineLaws.{not-tree, name-lacks, equals-lacks, line-text}
use Rattle.nexus.proofs.lines.text_from.Goals as goal

pub returns-then-not-is_word : goal.returns-then-not-is_word
unfolding bytes
returns-then-not-is_word c = not-tree _ _ c.first_token-w.ensures (failed _ _ c.is_word.ensures c.if-not-is_word.true-raw)

pub returns-then-end-name : goal.returns-then-end-name
unfolding bytes
returns-then-end-name c =
    name-lacks _ _ c.first_token-w.ensures
    (passed _ _ c.is_word.ensures c.if-not-is_word.false-raw) _ _
    c.skip-name.ensures c.name_end-end.ensures c.if-end-name.true

pub returns-then-not-has_byte : goal.returns-then-not-has_byte
unfolding bytes
returns-then-not-has_byte c =
    equals-lacks _ _ c.first_token-w.ensures
    (passed _ _ c.is_word.ensures c.if-not-is_word.false-raw) _ _ c.skip-name.ensures
    c.name_end-end.ensures c.if-end-name.false _
    c.skip-equals.ensures (failed _ _ c.has_byte.ensures c.if-not-has_byte.true-raw)

pub returns : goal.returns
unfolding bytes
returns d =
    line-text _ _ d.first_token-w.ensures
    (passed _ _ d.is_word.ensures d.if-not-is_word.false-raw) _ _ d.skip-name.ensures
    d.name_end-end.ensures d.if-end-name.false _
    d.skip-equals.ensures (passed _ _ d.has_byte.ensures d.if-not-has_byte.false-raw)
