use Rattle.std.proofs.Common.{◌≡◌, arith}
use Rattle.store.specs.SumLaws.{doubled-none, doubled-more}
use Rattle.store.proofs.sums.double.Goals as goal

pub loop-v-init : goal.loop-v-init
loop-v-init c = (omega arith, doubled-none _ _ _ _ c.requires.sums_len)

pub loop-v-preserved : goal.loop-v-preserved
loop-v-preserved c =
    let d = doubled-more _ _ _ _ _ _ c.loop-v.invariant.1 (omega arith) c.requires.width_bound in
    (omega arith, d)

pub returns : goal.returns
returns c =
    let l = c.loop-v in
    let e : l.v ≡ c.args.width = omega arith in
    rw e at l.invariant.1
