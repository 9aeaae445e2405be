use mathlib.Core.Path.{◌≡◌, refl, sym, ap, ◌∙◌}
use native.Mathlib.Omega.{arith}
use lib.ListN.{length, length-set}
use Rattle.doubles.specs.Stored.{branch_given}
use Rattle.layout.specs.Store.{branches_at}
use Rattle.layout.specs.WholeFacts.{whole-at-facts}
use Rattle.store.specs.BranchTestLaws.{branches-full}
use Rattle.rows.specs.ReadLaws.{rows_at}
use Rattle.comparing.specs.Weighed.{if_copied}
use Rattle.comparing.specs.WeighedLaws.{absent-one, front-none, front-more, front-all, length-good}
use Rattle.comparing.proofs.weighed.copy_lengths.Goals as goal

pub splits_in-n-requires : goal.splits_in-n-requires
splits_in-n-requires c = record { head_at = (whole-at-facts _ c.requires.s_value).head; i_bound = c.requires.i_bound }

pub loop-j-init : goal.loop-j-init
loop-j-init c = (omega arith, c.splits_in-n.ensures ∙ sym (branches-full _ _ c.requires.i_bound c.requires.bound), refl, front-none)

pub length_in-requires : goal.length_in-requires
length_in-requires c =
    let l = c.loop-j in
    let few = (rows_at _ c.requires.s_value _ c.requires.i_bound).few in
    let full = branches-full _ _ c.requires.i_bound c.requires.bound in record { head_at = (whole-at-facts _ c.requires.s_value).head; i_bound = c.requires.i_bound; j_in_bounds = omega (arith, l.invariant.1); j_lt_most_splits = omega (arith, l.invariant.1, full, few); none_value = length-good _ c.requires.s_value _ c.requires.i_bound l.j }

pub shape_of-lengths-in_default : goal.shape_of-lengths-in_default
shape_of-lengths-in_default c = c.loop-j.invariant.2

-- a split without a length
pub returns-in_default : goal.returns-in_default
unfolding branch_given if_copied
returns-in_default c =
    let l = c.loop-j in
    absent-one _ l.j (omega (arith, l.invariant.1)) (sym c.length_in.ensures ∙ ap branch_given c.in_default.is)

pub bounds-lengths-j : goal.bounds-lengths-j
bounds-lengths-j c =
    let v = c.loop-j.invariant in
    omega (arith, v.1, v.2, branches-full _ _ c.requires.i_bound c.requires.bound, c.requires.i_in_bounds)

pub loop-j-preserved : goal.loop-j-preserved
unfolding branch_given
loop-j-preserved c =
    let l = c.loop-j in
    let full = branches-full _ _ c.requires.i_bound c.requires.bound in
    let e = sym c.length_in.ensures ∙ ap branch_given c.in-Some.is in (
      omega arith,
      l.invariant.1,
      length-set l.lengths l.j _ ∙ l.invariant.2,
      front-more _ _ l.j l.invariant.3 _ (omega (arith, l.invariant.1)) (omega (arith, l.invariant.1, l.invariant.2, full, c.requires.i_in_bounds)) e,
    )

pub shape_of-lengths : goal.shape_of-lengths
shape_of-lengths c = c.loop-j.invariant.2

pub returns : goal.returns
unfolding if_copied
returns c =
    let l = c.loop-j in
    let full = branches-full _ _ c.requires.i_bound c.requires.bound in
    let e : l.j ≡ length (branches_at c.args.s.now c.args.i.0) = omega (arith, l.invariant.1) in
    rw (← full, ← e) (front-all _ _ l.j l.invariant.3 e)
