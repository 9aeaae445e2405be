use native.Mathlib.Omega.{arith}
use Rattle.putting.specs.PutLaws.{put_one, putting-start, putting-more, putting-end}
use Rattle.writer.specs.NameLaws.{underscored-more, underscored-end}
use Rattle.writer.proofs.names.put_underscored.Goals as goal

pub loop-i-init : goal.loop-i-init
loop-i-init c = (omega arith, omega arith, omega arith, putting-start _ _ _)

pub loop-i-preserved : goal.loop-i-preserved
loop-i-preserved c =
    let l = c.loop-i in
    let a = c.args in (
      omega arith,
      omega arith,
      omega arith,
      putting-more l.invariant.3 (underscored-more a.s.now l.i a.e (omega arith) (omega arith) _ c.underscored.ensures) (put_one c.put_byte.ensures),
    )

pub shape_of-out : goal.shape_of-out
shape_of-out c = c.loop-i.invariant.3.room

pub returns : goal.returns
returns c =
    let l = c.loop-i in
    putting-end l.invariant.3 (underscored-end _ l.i _ l.invariant.1 (omega arith))
