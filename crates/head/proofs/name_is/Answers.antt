-- `head::name_is` meets its contract: a name is a slice of the bytes, and runs of other lengths differ. Assumes nothing.
use Rattle.std.proofs.Common.{◌+◌, ◌*◌, get_or, sym, ◌∙◌, arith}
use lib.Seq.{length-slice}
use Rattle.head.specs.HeadLaws.{name-slice}
use Rattle.head.specs.FindLaws.{run-unlike}
use Rattle.head.proofs.name_is.Goals as goal

pub returns-then-e-b : goal.returns-then-e-b
returns-then-e-b c =
    let a = c.args in
    let n = c.name_length-n.ensures in
    let p = length-slice (17 + 33 * a.i) (17 + 33 * a.i + get_or a.s.now (16 + 33 * a.i) 0) a.s.now (omega arith) in
    let q = length-slice a.b a.e a.text.now (omega arith) in
    sym (rw (name-slice a.s.now a.i) (run-unlike _ _ (λ e. c.if-e-b.true (omega arith))))

pub returns : goal.returns
returns c =
    let a = c.args in
    let n = c.name_length-n.ensures in
    c.same_runs.ensures ∙ rw (name-slice a.s.now a.i, n.0)
