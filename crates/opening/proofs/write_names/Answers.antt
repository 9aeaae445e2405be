use mathlib.Core.Path.{refl, sym, ◌∙◌}
use mathlib.Core.List.{[]}
use native.Mathlib.Omega.{arith}
use Rattle.head.specs.Head.{name_at}
use Rattle.head.specs.HeadLaws.{up_to-length, up_to-at}
use Rattle.opening.specs.Places.{first_names}
use Rattle.opening.specs.WritingLaws.{names_more, names-all}
use Rattle.opening.proofs.write_names.Goals as goal

pub loop-i-init : goal.loop-i-init
loop-i-init c = (omega arith, refl, refl)

pub write_name-requires : goal.write_name-requires
write_name-requires c = record { head_bytes_in_bounds = omega arith; head_bytes_in_bounds_2 = omega arith; i_bound = omega arith }

pub loop-i-preserved : goal.loop-i-preserved
loop-i-preserved c =
    let l = c.loop-i in
    let a = c.args in
    let ns = first_names a.n a.names.now in
    let m = up_to-length (name_at a.names.now) a.n in
    let e = up_to-at (name_at a.names.now) a.n l.i [] (omega arith) in (
      omega arith,
      omega arith,
      rw (c.write_name.ensures, ← e) (sym (names_more ns l.s l.i (omega arith)) ∙ l.invariant.2),
    )

pub returns : goal.returns
returns c =
    let l = c.loop-i in
    let a = c.args in
    let m = up_to-length (name_at a.names.now) a.n in
    sym (names-all (first_names a.n a.names.now) l.s l.i (omega arith)) ∙ l.invariant.2
