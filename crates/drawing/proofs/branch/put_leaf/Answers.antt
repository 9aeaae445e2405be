-- `drawing::branch::put_leaf` meets its contract. Assumes nothing.
use native.Mathlib.Omega.{arith}
use Rattle.putting.specs.PutLaws.{put_then}
use Rattle.drawing.proofs.branch.put_leaf.Goals as goal

pub put_end-requires : goal.put_end-requires
put_end-requires c = omega (arith, c.write_name-e.ensures.ends, c.put_word-b.ensures.ends)

pub returns : goal.returns
returns c = put_then c.put_word-b.ensures (put_then c.write_name-e.ensures c.put_end.ensures)
