use mathlib.Core.Path.{sym, ◌∙◌}
use native.Mathlib.Omega.{arith}
use Rattle.writer.specs.SearchLaws.{search-start, search-more, search-end}
use Rattle.writer.proofs.widest_in.Goals as goal

pub loop-j-init : goal.loop-j-init
loop-j-init c = let a = c.args in (omega arith, search-start a.m a.i.0 a.list.now a.k)

pub loop-j-preserved : goal.loop-j-preserved
loop-j-preserved c =
    let a = c.args in
    let l = c.loop-j in
    (omega arith, l.invariant.1 ∙ search-more a.m a.i.0 a.list.now a.k l.j l.best _ (omega arith) (omega arith) c.wider_of-best.ensures)

pub returns : goal.returns
returns c =
    let a = c.args in
    let l = c.loop-j in
    sym (l.invariant.1 ∙ search-end a.m a.i.0 a.list.now a.k l.j l.best (omega arith))
