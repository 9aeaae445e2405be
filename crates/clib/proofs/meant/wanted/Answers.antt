-- `clib::meant::wanted` meets its contract. Assumes nothing.
use Rattle.clib.specs.AnswersLaws.{wanted-apart, wanted-alone}
use Rattle.clib.proofs.meant.wanted.Goals as goal

pub returns-then-asked : goal.returns-then-asked
returns-then-asked c = wanted-apart _ c.if-asked.true

pub returns : goal.returns
returns c = wanted-alone _ c.if-asked.false
