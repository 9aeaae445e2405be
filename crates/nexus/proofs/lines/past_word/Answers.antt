-- `nexus::lines::past_word` meets its contract. Assumes nothing.
use Rattle.nexus.specs.OtherLaws.{word-past, bracket-past, quoted-past, byte_past}
use Rattle.nexus.proofs.lines.past_word.Goals as goal

pub returns-then-at-end : goal.returns-then-at-end
returns-then-at-end c = word-past _ _ _ c.requires c.if-at-end.true

pub returns-then-c-at-eq91 : goal.returns-then-c-at-eq91
returns-then-c-at-eq91 c = bracket-past _ _ _ c.requires c.if-c-at-eq91.true

pub returns-then-c-at-eq39 : goal.returns-then-c-at-eq39
returns-then-c-at-eq39 c = quoted-past _ _ _ c.requires _ c.if-c-at-eq39.true c.past_next.ensures

pub returns : goal.returns
returns c = byte_past _ _ _ c.requires c.if-at-end.false c.if-c-at-eq91.false c.if-c-at-eq39.false
