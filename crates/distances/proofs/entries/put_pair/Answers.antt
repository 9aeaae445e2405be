-- `distances::entries::put_pair` meets its contract. Assumes nothing.
use Rattle.std.proofs.Common.{ℕ, set, ap₂, arith, length-set}
use Rattle.distances.proofs.entries.put_pair.Goals as goal

pub bounds-out-there : goal.bounds-out-there
bounds-out-there c = rw length-set (omega (arith, c.entry-there.ensures.upper_bound))

pub returns : goal.returns
returns c =
    let a = c.args in
    ap₂ (λ (x y : ℕ). set (set a.out.now x a.d) y a.d) c.entry-here.ensures.value c.entry-there.ensures.value
