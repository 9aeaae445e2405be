-- `comparing::weighed::weigh` meets its contract. Assumes nothing.
-- ---- either tree's lengths
use mathlib.Core.Path.{refl, sym, ◌∙◌}
use native.Mathlib.Omega.{arith}
use lib.Seq.{length-take-le}
use Rattle.answers.specs.AnswerLaws.{weight-refused, weight-given}
use Rattle.layout.specs.WholeFacts.{whole-at-facts}
use Rattle.rows.specs.ReadLaws.{rows_at}
use Rattle.comparing.specs.WeighedLaws.{given-not, given-front, first_absent, second-absent, both-given}
use Rattle.comparing.proofs.weighed.weigh.Goals as goal

pub copy_lengths-requires : goal.copy_lengths-requires
copy_lengths-requires c = record { s_value = c.requires.s_value; bound = c.requires.bound; i_bound = c.requires.a_bound.0; i_in_bounds = omega (arith, (rows_at _ c.requires.s_value _ c.requires.a_bound.0).few) }

pub returns-then-not-copy_lengths : goal.returns-then-not-copy_lengths
returns-then-not-copy_lengths c = weight-refused _ _ (first_absent _ _ _ (given-not _ _ _ _ c.copy_lengths.ensures (c.if-not-copy_lengths.true)))

pub copy_lengths-requires-2 : goal.copy_lengths-requires-2
copy_lengths-requires-2 c = record { s_value = c.requires.s_value; bound = c.requires.bound; i_bound = c.requires.a_bound.1; i_in_bounds = omega (arith, (rows_at _ c.requires.s_value _ c.requires.a_bound.1).few) }

pub returns-then-not-copy_lengths-2 : goal.returns-then-not-copy_lengths-2
returns-then-not-copy_lengths-2 c =
    let p = given-front _ _ _ _ c.copy_lengths.ensures (c.if-not-copy_lengths.false) _ refl in
    weight-refused _ _ (second-absent _ _ _ _ p (given-not _ _ _ _ c.copy_lengths-2.ensures (c.if-not-copy_lengths-2.true)))

pub splits_in-n-requires : goal.splits_in-n-requires
splits_in-n-requires c = record { head_at = (whole-at-facts _ c.requires.s_value).head; i_bound = c.requires.a_bound.0 }

pub splits_in-m-requires : goal.splits_in-m-requires
splits_in-m-requires c = record { head_at = (whole-at-facts _ c.requires.s_value).head; i_bound = c.requires.a_bound.1 }

-- ---- their fronts: a tree has at most 62 splits
pub slice_bounds-xs-end : goal.slice_bounds-xs-end
slice_bounds-xs-end c = omega (arith, c.splits_in-n.ensures, (rows_at _ c.requires.s_value _ c.requires.a_bound.0).few)

pub slice_bounds-weigh_given-end : goal.slice_bounds-weigh_given-end
slice_bounds-weigh_given-end c = sym (length-take-le _ _ (omega (arith, c.copy_lengths.auto.lengths, c.splits_in-n.ensures, (rows_at _ c.requires.s_value _ c.requires.a_bound.0).few)))

pub slice_bounds-ys-end : goal.slice_bounds-ys-end
slice_bounds-ys-end c = omega (arith, c.splits_in-m.ensures, (rows_at _ c.requires.s_value _ c.requires.a_bound.1).few)

pub slice_bounds-weigh_given-end-2 : goal.slice_bounds-weigh_given-end-2
slice_bounds-weigh_given-end-2 c = sym (length-take-le _ _ (omega (arith, c.copy_lengths-2.auto.lengths, c.splits_in-m.ensures, (rows_at _ c.requires.s_value _ c.requires.a_bound.1).few)))

pub weigh_given-requires : goal.weigh_given-requires
weigh_given-requires c =
    let n = c.splits_in-n.ensures in
    let m = c.splits_in-m.ensures in
    let f = (rows_at _ c.requires.s_value _ c.requires.a_bound.0).few in
    let g = (rows_at _ c.requires.s_value _ c.requires.a_bound.1).few in record {
      s_value = c.requires.s_value;
      a_bound = c.requires.a_bound;
      xs_len = (
        length-take-le _ _ (omega (arith, c.copy_lengths.auto.lengths, n, f)) ∙ n,
        length-take-le _ _ (omega (arith, c.copy_lengths-2.auto.lengths, m, g)) ∙ m,
      );
    }

pub returns : goal.returns
returns c =
    let p = given-front _ _ _ _ c.copy_lengths.ensures (c.if-not-copy_lengths.false) _ c.splits_in-n.ensures in
    let q = given-front _ _ _ _ c.copy_lengths-2.ensures (c.if-not-copy_lengths-2.false) _ c.splits_in-m.ensures in
    weight-given _ _ _ (both-given _ _ _ _ p _ q) c.weigh_given.ensures
