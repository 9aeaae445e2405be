use native.Mathlib.Omega.{arith}
use Rattle.putting.specs.PutLaws.{putting-start, putting-more, putting-end}
use Rattle.writer.specs.NameLaws.{doubled-more, doubled-end}
use Rattle.writer.proofs.names.put_doubled.Goals as goal

pub loop-i-init : goal.loop-i-init
loop-i-init c = (omega arith, omega arith, omega arith, putting-start _ _ _)

pub loop-i-preserved : goal.loop-i-preserved
loop-i-preserved c =
    let l = c.loop-i in
    let a = c.args in (
      omega arith,
      omega arith,
      omega (arith, c.put_quoted-end.ensures.upper_bound),
      putting-more l.invariant.3 (doubled-more a.s.now l.i a.e (omega arith) (omega arith)) c.put_quoted-end.ensures.put,
    )

pub shape_of-out : goal.shape_of-out
shape_of-out c = c.loop-i.invariant.3.room

pub returns : goal.returns
returns c = let l = c.loop-i in record { put = putting-end l.invariant.3 (doubled-end _ l.i _ l.invariant.1 (omega arith)); upper_bound = omega arith }
