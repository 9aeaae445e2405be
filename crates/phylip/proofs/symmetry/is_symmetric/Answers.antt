use native.Mathlib.Omega.{arith}
use mathlib.Core.Path.{sym, ◌∙◌}
use Rattle.phylip.specs.SymmetryLaws.{settled-start, settled-more, settled-not, settled-done}
use Rattle.phylip.proofs.symmetry.is_symmetric.Goals as goal

pub loop-i-init : goal.loop-i-init
loop-i-init c = (omega arith, settled-start _ _ _)

pub agrees-requires : goal.agrees-requires
agrees-requires c = let s = c.loop-i.invariant.1.size in record { i_lt_t = omega arith; t_in_bounds = omega (arith, s) }

pub shape_of-at-then-not-agrees : goal.shape_of-at-then-not-agrees
shape_of-at-then-not-agrees c = c.agrees.ensures.size ∙ c.loop-i.invariant.1.size

pub returns-then-not-agrees : goal.returns-then-not-agrees
returns-then-not-agrees c =
    let l = c.loop-i in
    sym (settled-not _ _ _ _ _ l.invariant.1 (omega arith) _ _ c.agrees.ensures (c.if-not-agrees.true))

pub loop-i-preserved : goal.loop-i-preserved
loop-i-preserved c =
    let l = c.loop-i in
    let h = c.agrees.ensures.yes (c.if-not-agrees.false) in
    (omega arith, settled-more _ _ _ _ _ l.invariant.1 (omega arith) _ c.agrees.ensures.size h.0 h.1)

pub shape_of-at : goal.shape_of-at
shape_of-at c = c.loop-i.invariant.1.size

pub returns : goal.returns
returns c = sym (settled-done _ _ _ _ _ c.loop-i.invariant.1 (omega arith))
