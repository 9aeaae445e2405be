use Prim.Native.Nat.{◌+◌, ◌-◌, ◌<◌}
use mathlib.Core.Path.{◌≡◌}
use native.Mathlib.Omega.{arith}
use Rattle.head.specs.Head.{numbers_at}
use Rattle.layout.specs.InsideLaws.{ranges}
use Rattle.layout.specs.Store.{held_at}
use Rattle.layout.specs.WholeFacts.{whole-at-facts}
use Rattle.rows.specs.ReadLaws.{long}
use Rattle.putting.specs.PutLaws.{putting-more, putting-end}
use Rattle.grouping.specs.GroupLines.{stand_in_line}
use Rattle.grouping.specs.StandInLineLaws.{stand-ins-start, stand-ins-more, stand-ins-end, from-length, from_all, stand-ins-few}
use Rattle.grouping.proofs.stand_ins.put_all.Goals as goal

pub taxa-n-requires : goal.taxa-n-requires
taxa-n-requires c = long _ c.requires.s_value

pub loop-less-init : goal.loop-less-init
loop-less-init c =
    let a = c.args in
    let taxa = c.taxa-n.ensures.value in
    let e : c.taxa-n.result - 0 ≡ c.taxa-n.result = omega arith in
    rw e (omega (arith, from_all (numbers_at a.s.now).taxa a.i.0 a.list.now c.taxa-n.result taxa), stand-ins-start a.s.now a.i.0 c.requires.list_value taxa _ _)

pub put_sharing-e-requires : goal.put_sharing-e-requires
put_sharing-e-requires c =
    let a = c.args in
    let few = stand-ins-few (numbers_at a.s.now).taxa a.i.0 a.list.now in record { s_value = c.requires.s_value; list_value = c.requires.list_value; counts_value = c.requires.counts_value; i_bound = c.requires.i_bound; at_bound = omega (arith, c.loop-less.invariant.0, c.requires.at_bound, few, (ranges _ (whole-at-facts _ c.requires.s_value).head).most-taxa) }

pub loop-less-preserved : goal.loop-less-preserved
loop-less-preserved c =
    let a = c.args in
    let n = (numbers_at a.s.now).taxa in
    let l = c.loop-less in
    let k = c.taxa-n.result - l.less in
    let some : 0 < k = omega arith in
    let e : k - 1 ≡ c.taxa-n.result - (l.less + 1) = omega arith in
    rw (← e) (
      omega (arith, l.invariant.0, c.put_sharing-e.ensures.upper_bound, from-length n a.i.0 a.list.now k some),
      putting-more l.invariant.1 (stand-ins-more n a.i.0 a.list.now (stand_in_line (held_at a.s.now) a.i.0) k some) c.put_sharing-e.ensures.put,
    )

pub shape_of-out : goal.shape_of-out
shape_of-out c = c.loop-less.invariant.1.room

pub returns : goal.returns
returns c =
    let a = c.args in
    let n = (numbers_at a.s.now).taxa in
    let l = c.loop-less in
    let few = stand-ins-few n a.i.0 a.list.now in record { put = putting-end l.invariant.1 (stand-ins-end n a.i.0 a.list.now _ (c.taxa-n.result - l.less) (omega arith)); upper_bound = omega (arith, l.invariant.0, few, (ranges _ (whole-at-facts _ c.requires.s_value).head).most-taxa) }
