-- `writer::names::write_name` meets its contract: the name is written plain, or in quotes. Assumes nothing.
use Prim.Native.Nat.{◌+◌, ◌*◌}
use mathlib.Core.Path.{sym, ◌∙◌}
use lib.Seq.{slice}
use Rattle.writer.specs.NameLaws.{name-from, put-plain, put-in-quotes}
use Rattle.writer.proofs.names.write_name.Goals as goal

pub returns-then-is_plain : goal.returns-then-is_plain
returns-then-is_plain c =
    let n = c.name_end-e in
    let a = c.args in
    let w = slice (17 + 33 * a.i.0) n.result a.head.now in
    rw (name-from a.head.now a.i.0 n.result n.ensures.0)
    (put-plain w (sym c.is_plain.ensures ∙ c.if-is_plain.true) c.put_underscored.ensures)

pub returns : goal.returns
returns c =
    let n = c.name_end-e in
    let a = c.args in
    let w = slice (17 + 33 * a.i.0) n.result a.head.now in
    rw (name-from a.head.now a.i.0 n.result n.ensures.0)
    (put-in-quotes w (sym c.is_plain.ensures ∙ c.if-is_plain.false) c.put_byte.ensures c.put_doubled-end.ensures.put c.put_byte-2.ensures)
