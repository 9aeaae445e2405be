use Rattle.std.proofs.Common.{sym, ◌∙◌, arith}
use Rattle.opening.specs.GivenLaws.{failed, passed}
use Rattle.layout.specs.InsideLaws.{trees-few, branch-inside}
use Rattle.store.specs.BranchTestLaws.{branches-full, lengths-start, lengths-end, length-fails, length-passes}
use Rattle.store.proofs.branches.lengths_good.Goals as goal

pub lengths_from-from-requires : goal.lengths_from-from-requires
lengths_from-from-requires c = record { head_bytes_in_bounds = c.requires.head_at.head-there; i_bound = omega (arith, c.requires.i_bound, trees-few _ c.requires.head_at) }

pub splits_in-n-requires : goal.splits_in-n-requires
splits_in-n-requires c = record { head_at = c.requires.head_at; i_bound = c.requires.i_bound }

pub loop-j-init : goal.loop-j-init
loop-j-init c = (omega arith, c.lengths_from-from.ensures.value, c.splits_in-n.ensures ∙ sym (branches-full _ _ c.requires.i_bound c.requires.bound), lengths-start _ _)

pub holds_length-requires : goal.holds_length-requires
holds_length-requires c =
    let v = c.loop-j in
    let f = branches-full _ _ c.requires.i_bound c.requires.bound in
    omega (arith, branch-inside _ c.requires.head_at _ v.j c.requires.i_bound (omega (arith, v.invariant.2)) (omega (arith, v.invariant.2, f, c.requires.i_len_bound)), v.invariant.1)

pub returns-then-not-holds_length : goal.returns-then-not-holds_length
returns-then-not-holds_length c =
    let v = c.loop-j in
    sym (length-fails _ _ v.j v.invariant.3 c.requires.i_bound _ v.invariant.1 (omega (arith, v.invariant.2)) (failed _ _ c.holds_length.ensures c.if-not-holds_length.true-raw))

pub loop-j-preserved : goal.loop-j-preserved
loop-j-preserved c =
    let v = c.loop-j in (
      omega arith,
      v.invariant.1,
      v.invariant.2,
      length-passes _ _ v.j v.invariant.3 c.requires.i_bound _ v.invariant.1 (omega (arith, v.invariant.2)) (passed _ _ c.holds_length.ensures c.if-not-holds_length.false-raw),
    )

pub returns : goal.returns
returns c = let v = c.loop-j in sym (lengths-end _ _ v.j v.invariant.3 (omega (arith, v.invariant.2)))
