use Rattle.std.proofs.Common.{arith}
use Rattle.newick.proofs.PlacedLaws.{searching-all, searching-low, searching-high, searching-done}
use Rattle.newick.proofs.placing.find_record.Goals as goal

pub loop-low-init : goal.loop-low-init
loop-low-init c = searching-all _ _ _

pub overflow_add-middle : goal.overflow_add-middle
overflow_add-middle c = omega (arith, c.loop-low.invariant.within)

pub mask_of-requires : goal.mask_of-requires
mask_of-requires c = omega (arith, c.loop-low.invariant.within, c.requires.k_in_bounds)

pub overflow_add-low : goal.overflow_add-low
overflow_add-low c = omega (arith, c.loop-low.invariant.within)

pub loop-low-preserved-then-comes_before : goal.loop-low-preserved-then-comes_before
loop-low-preserved-then-comes_before c = searching-low _ _ _ _ _ c.loop-low.invariant c.requires.rising _ (omega arith) (omega arith) _ c.mask_of.ensures _ c.comes_before.ensures c.if-comes_before.true

pub loop-low-preserved : goal.loop-low-preserved
loop-low-preserved c = searching-high _ _ _ _ _ c.loop-low.invariant c.requires.rising _ (omega arith) (omega arith) _ c.mask_of.ensures _ c.comes_before.ensures c.if-comes_before.false

pub returns : goal.returns
returns c = searching-done _ _ _ _ _ c.loop-low.invariant c.requires.rising c.requires.mem (omega arith)
