-- `writer::write_tree` meets its contract: the text, made in an array of 4,352 bytes, is copied where there is room. Assumes nothing.
use mathlib.Core.Path.{refl}
use native.Mathlib.Omega.{arith}
use Rattle.writer.specs.TextLaws.{wrote_nothing, wrote-all}
use Rattle.writer.proofs.write_tree.Goals as goal

pub returns-then-out-n : goal.returns-then-out-n
returns-then-out-n c = let p = c.write_root-n.ensures.put in wrote_nothing _ _ _ _ (omega (arith, p.ends)) c.if-out-n.true refl

pub returns : goal.returns
returns c = wrote-all _ _ _ _ _ _ c.write_root-n.ensures.put (omega (arith, c.write_root-n.ensures.put.ends)) c.if-out-n.false c.copy_from.ensures
