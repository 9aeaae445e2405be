-- `lengths::with_digit` meets its contract. Assumes nothing.
use Rattle.lengths.specs.NearLaws.{near-more, near-full}
use Rattle.lengths.proofs.with_digit.Goals as goal

pub returns-then-n-le1152921504606846976 : goal.returns-then-n-le1152921504606846976
returns-then-n-le1152921504606846976 c = λ m h. near-more m _ _ c.if-n-le1152921504606846976.true h

pub returns : goal.returns
returns c = λ m h. near-full m _ _ c.if-n-le1152921504606846976.false h
