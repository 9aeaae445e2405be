use Prim.Native.Nat.{◌+◌, ◌*◌}
use mathlib.Core.Path.{refl, sym, ◌∙◌}
use native.Mathlib.Omega.{arith}
use Rattle.opening.specs.WritingLaws.{puts-more, puts-all}
use Rattle.opening.proofs.write_first.Goals as goal

pub loop-i-init : goal.loop-i-init
loop-i-init c = (omega arith, refl, refl)

pub overflow_cast-list : goal.overflow_cast-list
overflow_cast-list c = omega (arith, c.requires.by_index c.loop-i.i)

pub loop-i-preserved : goal.loop-i-preserved
loop-i-preserved c =
    let a = c.args in
    let l = c.loop-i in (
      omega arith,
      omega arith,
      rw c.put16.ensures (sym (puts-more 2 a.list.now l.s 2128 l.i (omega arith)) ∙ l.invariant.2),
    )

pub returns : goal.returns
returns c =
    let l = c.loop-i in
    sym (puts-all 2 c.args.list.now l.s (2128 + 2 * l.i) l.i (omega arith)) ∙ l.invariant.2
