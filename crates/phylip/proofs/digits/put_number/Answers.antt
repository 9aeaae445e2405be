-- `phylip::digits::put_number` meets its contract: one law for each number of digits. Assumes nothing.
use native.Mathlib.Omega.{arith}
use Rattle.phylip.specs.LineLaws.{number-one, number-two, number-three, number-four}
use Rattle.phylip.proofs.digits.put_number.Goals as goal

pub returns-then-n-lt10 : goal.returns-then-n-lt10
returns-then-n-lt10 c = number-one _ _ (omega arith) c.digit.ensures c.put_byte.ensures

pub returns-then-n-lt100 : goal.returns-then-n-lt100
returns-then-n-lt100 c = number-two _ _ _ (omega arith) (omega arith) c.digit-then-n-lt100.ensures c.digit-then-n-lt100-2.ensures c.put_byte-then-n-lt100.ensures c.put_byte-then-n-lt100-2.ensures

pub returns-then-n-lt1000 : goal.returns-then-n-lt1000
returns-then-n-lt1000 c = number-three _ (omega arith) (omega arith) c.put_three.ensures

pub returns : goal.returns
returns c = number-four _ _ (omega arith) (omega arith) c.digit-2.ensures c.put_byte-2.ensures c.put_three-2.ensures
