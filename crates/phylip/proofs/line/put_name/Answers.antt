-- `phylip::line::put_name` meets its contract. Assumes nothing.
use native.Mathlib.Omega.{arith}
use mathlib.Core.Path.{refl}
use Rattle.phylip.specs.DigitLaws.{digits-few}
use Rattle.phylip.specs.LineLaws.{name-put}
use Rattle.phylip.proofs.line.put_name.Goals as goal

pub put_spaces-requires : goal.put_spaces-requires
put_spaces-requires c = record { at_le_end = omega (arith, c.put_number-e.ensures.ends, digits-few c.args.i c.requires.i_bound); end_bound = omega arith }

pub returns : goal.returns
returns c = name-put _ _ refl c.requires.i_bound c.put_byte.ensures c.put_number-e.ensures c.put_spaces.ensures
