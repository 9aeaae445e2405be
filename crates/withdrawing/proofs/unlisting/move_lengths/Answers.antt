-- `unlisting::move_lengths` meets its contract: nothing, or one copy. Assumes nothing.
use native.Mathlib.Omega.{arith}
use mathlib.Core.Path.{sym}
use Rattle.head.specs.Head.{numbers_at}
use Rattle.layout.specs.InsideLaws.{trees-few}
use Rattle.withdrawing.specs.MovedTreesLaws.{moved-unkept, moved-kept, lengths-room}
use Rattle.withdrawing.proofs.unlisting.move_lengths.Goals as goal

pub returns-then-kept-eq0 : goal.returns-then-kept-eq0
returns-then-kept-eq0 c = sym (moved-unkept _ _ _ _ (omega (arith, c.kept.ensures.value)))

pub lengths_from-to-requires : goal.lengths_from-to-requires
lengths_from-to-requires c = record { head_bytes_in_bounds = c.requires.head_at.head-there; i_bound = omega (arith, c.requires.m_value, trees-few _ c.requires.head_at) }

pub overflow_mul-m : goal.overflow_mul-m
overflow_mul-m c = omega (arith, c.requires.m_value, trees-few _ c.requires.head_at)

pub copy_within-requires : goal.copy_within-requires
copy_within-requires c =
    let r = lengths-room _ c.requires.head_at _ _ c.requires.m_value (omega (arith, c.kept.ensures.value, c.if-kept-eq0.false)) in
    let e = c.lengths_from-to.ensures.value in record { n_in_bounds = omega (arith, r, e, c.requires.head_at.reached); n_in_bounds_2 = omega (arith, r, e, c.requires.head_at.reached) }

pub returns : goal.returns
returns c =
    let a = c.args in
    let z = moved-kept (numbers_at a.s.now) a.k.0 a.m a.s.now (λ e. omega (arith, c.kept.ensures.value, c.if-kept-eq0.false)) in
    rw (z, ← c.lengths_from-to.ensures.value) c.copy_within.ensures
