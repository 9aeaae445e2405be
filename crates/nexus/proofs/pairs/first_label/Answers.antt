-- `nexus::pairs::first_label` meets its contract: a token or nothing, what stands in quotes and is no label, a label in quotes. Assumes nothing.
use Rattle.opening.specs.GivenLaws.{failed, passed}
use Rattle.nexus.specs.LabelLaws.{has_there, label-none, label-quoted, label-bare}
use Rattle.nexus.proofs.pairs.first_label.Goals as goal

pub returns-then-not-has_byte : goal.returns-then-not-has_byte
returns-then-not-has_byte c =
    label-bare _ _ _ c.skip-at.ensures (failed _ _ c.has_byte.ensures c.if-not-has_byte.true-raw) _
    c.token_end.ensures

pub quoted_end-end-requires : goal.quoted_end-end-requires
quoted_end-end-requires c = has_there _ _ _ (passed _ _ c.has_byte.ensures c.if-not-has_byte.false-raw)

pub returns-then-c-end : goal.returns-then-c-end
returns-then-c-end c =
    let q = has_there _ _ _ (passed _ _ c.has_byte.ensures c.if-not-has_byte.false-raw) in
    label-none _ _ _ c.skip-at.ensures q.0 q.1 _ c.quoted_end-end.ensures c.if-c-end.true

pub returns : goal.returns
returns c =
    let q = has_there _ _ _ (passed _ _ c.has_byte.ensures c.if-not-has_byte.false-raw) in
    label-quoted _ _ _ c.skip-at.ensures q.0 q.1 _ c.quoted_end-end.ensures c.if-c-end.false
