-- `opening::names::is_name` meets its contract: the definition, one test after the other. Assumes nothing.
use mathlib.Core.Path.{sym, ◌∙◌}
use native.Mathlib.Omega.{arith}
use Rattle.opening.specs.NameTestLaws.{short-not, long-not, name-bytes}
use Rattle.opening.proofs.names.is_name.Goals as goal

pub returns-then-n-lt1 : goal.returns-then-n-lt1
returns-then-n-lt1 c =
    let a = c.args in
    sym (short-not a.s.now a.i _ c.name_length-n.ensures.0 (omega arith) c.if-n-lt1.true)

pub returns-then-n-gt32 : goal.returns-then-n-gt32
returns-then-n-gt32 c =
    let a = c.args in
    sym (long-not a.s.now a.i _ c.name_length-n.ensures.0 (omega arith) c.if-n-gt32.true)

pub returns : goal.returns
returns c =
    let a = c.args in
    c.all_quoted_bytes.ensures
    ∙ sym (name-bytes a.s.now a.i _ c.name_length-n.ensures.0 (omega arith) (omega arith) (omega arith))
