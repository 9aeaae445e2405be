-- `consensus::writing::give_both` meets its contract. Assumes nothing.
use Rattle.std.proofs.lemmas.Result.{err_from_is_err_and}
use Rattle.consensus.specs.BothLaws.{give-short, give-second, give-both}
use Rattle.consensus.proofs.writing.give_both.Goals as goal

pub returns-then-strict-n : goal.returns-then-strict-n
returns-then-strict-n c = give-short _ _ _ _ _ c.requires.n_in_bounds c.if-strict-n.true

pub returns-in_err-m : goal.returns-in_err-m
returns-in_err-m c =
    let a = c.args in
    let p = err_from_is_err_and c.from_residual.result c.from_residual.ensures.1 in
    rw (p.1, p.2) (give-second a.text.now a.strict.now a.majority.now a.n _ c.requires.n_in_bounds c.if-strict-n.false _ _ c.in_err-m.ensures)

pub returns : goal.returns
returns c =
    let a = c.args in
    give-both a.text.now a.strict.now a.majority.now a.n _ c.requires.n_in_bounds c.if-strict-n.false _ _ _
    c.copy_from.ensures c.in_ok-m.ensures
