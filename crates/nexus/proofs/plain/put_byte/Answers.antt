-- `nexus::plain::put_byte` meets its contract. Assumes nothing.
use native.Mathlib.Omega.{arith}
use Rattle.nexus.specs.TextLaws.{put-over, put_byte}
use Rattle.nexus.proofs.plain.put_byte.Goals as goal

pub returns-then-to-eq-MOST_TEXT : goal.returns-then-to-eq-MOST_TEXT
returns-then-to-eq-MOST_TEXT c = put-over _ _ _ (omega arith)

pub returns : goal.returns
returns c = put_byte _ _ _ c.requires.out_len (omega (arith, c.if-to-eq-MOST_TEXT.false))
