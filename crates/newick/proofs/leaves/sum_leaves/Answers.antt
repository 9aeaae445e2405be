use Rattle.std.proofs.Common.{◌<◌, ◌∙◌, arith}
use Rattle.std.proofs.lemmas.Result.{err_from_is_err_and}
use Rattle.newick.proofs.SummingLaws.{summing-none, summing-more, summing-wrong, summing-done}
use Rattle.newick.proofs.leaves.sum_leaves.Goals as goal

pub loop-j-init : goal.loop-j-init
loop-j-init c = summing-none _ _ _ _ c.args.sums.now _ c.requires.wide_in_bounds c.put_record.ensures

pub overflow_cast-b : goal.overflow_cast-b
overflow_cast-b c =
    let p = c.requires.k_le_most_leaves.1 in
    omega (arith, p.begins c.loop-j.j (omega arith), p.ends c.loop-j.j (omega arith))

pub overflow_cast-e : goal.overflow_cast-e
overflow_cast-e c =
    let p = c.requires.k_le_most_leaves.1 in
    omega (arith, p.ends c.loop-j.j (omega arith))

pub add_leaf-requires : goal.add_leaf-requires
add_leaf-requires c = let below : c.loop-j.j < c.args.k = omega arith in record { prepared = c.requires.prepared; b_le_e = (c.requires.k_le_most_leaves.1.begins _ below, c.requires.k_le_most_leaves.1.ends _ below); hashed = c.loop-j.invariant.hashed }

pub shape_of-sums-in_err-x : goal.shape_of-sums-in_err-x
shape_of-sums-in_err-x c = c.loop-j.invariant.size ∙ c.put_record.auto.s

pub returns-in_err-x : goal.returns-in_err-x
returns-in_err-x c =
    let p = err_from_is_err_and c.from_residual.result c.from_residual.ensures.1 in
    rw (p.1, p.2) (summing-wrong _ _ _ _ _ _ _ _ c.loop-j.invariant (omega arith) _ _ c.add_leaf.ensures c.in_err-x.was)

pub loop-j-preserved : goal.loop-j-preserved
loop-j-preserved c =
    summing-more _ _ _ _ _ _ _ _ c.loop-j.invariant (omega arith) _ _ _ c.add_leaf.ensures c.in_ok-x.was
    (omega (arith, c.requires.wide_in_bounds, c.put_record.auto.s)) c.put_record-in-loop-j.ensures

pub shape_of-sums : goal.shape_of-sums
shape_of-sums c = c.loop-j.invariant.size ∙ c.put_record.auto.s

pub returns : goal.returns
returns c = summing-done _ _ _ _ _ _ _ _ c.loop-j.invariant (omega arith)
