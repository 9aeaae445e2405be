-- `opening::names::place_name` meets its contract: the label is read behind the byte for its length. Assumes nothing.
use native.Mathlib.Omega.{arith}
use Rattle.opening.specs.PlacesLaws.{placed-long, placed-short}
use Rattle.opening.proofs.names.place_name.Goals as goal

pub read_label-length-requires : goal.read_label-length-requires
read_label-length-requires c = record { b_le_e = omega arith; e_in_bounds = omega arith; most_name_in_bounds = omega arith }

pub returns-then-length-gt32 : goal.returns-then-length-gt32
returns-then-length-gt32 c = placed-long _ _ _ _ _ c.read_label-length.ensures c.if-length-gt32.true

pub returns : goal.returns
returns c = placed-short _ _ _ _ _ c.read_label-length.ensures (omega arith) c.if-length-gt32.false
