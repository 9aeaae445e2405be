-- `newick::placing::with_length` meets its contract. Assumes nothing.
use Rattle.newick.proofs.WordLaws.{word-here, pattern-here, number-here, with-unset, with_none, with-absent, with-both}
use Rattle.newick.proofs.placing.with_length.Goals as goal

pub returns-then-x-eq-UNSET : goal.returns-then-x-eq-UNSET
returns-then-x-eq-UNSET c = with-unset _ _ c.if-x-eq-UNSET.true

pub returns-then-x-eq-NO_LENGTH : goal.returns-then-x-eq-NO_LENGTH
returns-then-x-eq-NO_LENGTH c = with_none _ _ c.if-x-eq-UNSET.false c.if-x-eq-NO_LENGTH.true

pub returns-then-y-eq-NO_LENGTH : goal.returns-then-y-eq-NO_LENGTH
returns-then-y-eq-NO_LENGTH c = with-absent _ _ c.if-x-eq-UNSET.false c.if-x-eq-NO_LENGTH.false c.if-y-eq-NO_LENGTH.true

pub float_from_bits-result : goal.float_from_bits-result
float_from_bits-result c = pattern-here _ (word-here _ c.requires.fact c.if-x-eq-UNSET.false) c.if-x-eq-NO_LENGTH.false

pub float_from_bits-result-2 : goal.float_from_bits-result-2
float_from_bits-result-2 c = pattern-here _ c.requires.read_word c.if-y-eq-NO_LENGTH.false

pub float_to_bits-result : goal.float_to_bits-result
float_to_bits-result c = number-here _ _ (word-here _ c.requires.fact c.if-x-eq-UNSET.false) c.requires.read_word c.if-x-eq-NO_LENGTH.false c.if-y-eq-NO_LENGTH.false

pub returns : goal.returns
returns c = with-both _ _ c.if-x-eq-UNSET.false c.if-x-eq-NO_LENGTH.false c.if-y-eq-NO_LENGTH.false
