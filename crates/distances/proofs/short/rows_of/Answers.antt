-- `distances::short::rows_of` meets its contract. Assumes nothing.
use Rattle.std.proofs.Common.{◌≡◌, ◌+◌, ◌-◌, ◌*◌, arith}
use Rattle.distances.specs.Short.{rows_in}
use Rattle.distances.proofs.short.rows_of.Goals as goal

pub returns : goal.returns
unfolding rows_in
returns c =
    let i = c.args.i in
    let n = c.from.result in
    let e : 64 * i + n - 64 * i ≡ n = omega arith in
    rw (e, c.from.ensures)
