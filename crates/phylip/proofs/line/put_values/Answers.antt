use native.Mathlib.Omega.{arith}
use mathlib.Core.Path.{refl}
use Rattle.putting.specs.PutLaws.{put_one, put_then, putting-start, putting-more, putting-end}
use Rattle.phylip.specs.LineLaws.{values-more, values-end, values_length}
use Rattle.phylip.proofs.line.put_values.Goals as goal

pub loop-j-init : goal.loop-j-init
loop-j-init c = (omega arith, omega arith, putting-start _ _ _)

pub overflow_add-e : goal.overflow_add-e
overflow_add-e c = omega (arith, c.loop-j.invariant.1)

pub put_number-e-requires : goal.put_number-e-requires
put_number-e-requires c = let l = c.loop-j in record { n_bound = omega (arith, c.requires.values.small l.j (omega arith)); at_bound = omega (arith, l.invariant.1) }

pub loop-j-preserved : goal.loop-j-preserved
loop-j-preserved c =
    let l = c.loop-j in
    let row = c.args.row.now in
    let q = putting-more l.invariant.2 (values-more row l.j _ (omega arith) refl) (put_then (put_one c.put_byte.ensures) c.put_number-e.ensures) in
    (omega arith, omega (arith, q.ends, values_length row c.requires.values, c.requires.row_len_bound), q)

pub shape_of-out : goal.shape_of-out
shape_of-out c = c.loop-j.invariant.2.room

pub returns : goal.returns
returns c = let l = c.loop-j in record { put = putting-end l.invariant.2 (values-end _ l.j (omega arith)); upper_bound = l.invariant.1 }
