-- `phylip::line::put_line` meets its contract. Assumes nothing.
use native.Mathlib.Omega.{arith}
use Rattle.phylip.specs.LineLaws.{line-put}
use Rattle.phylip.proofs.line.put_line.Goals as goal

pub overflow_add-result : goal.overflow_add-result
overflow_add-result c = omega (arith, c.put_values-e.ensures.upper_bound)

pub returns : goal.returns
returns c = line-put _ _ c.put_name.ensures c.put_values-e.ensures.put c.put_byte.ensures
