-- `comparing::weighed::weigh_given` meets its contract. Assumes nothing.
use native.Mathlib.Omega.{arith}
use Rattle.layout.specs.WholeFacts.{whole-at-facts}
use Rattle.rows.specs.ReadLaws.{rows_at}
use Rattle.comparing.specs.WeighedLaws.{tree-front, tree-count, tree-rises, weighted-as}
use Rattle.comparing.proofs.weighed.weigh_given.Goals as goal

pub copy_tree-requires : goal.copy_tree-requires
copy_tree-requires c = let r = rows_at _ c.requires.s_value _ c.requires.a_bound.0 in record { head_at = (whole-at-facts _ c.requires.s_value).head; i_bound = c.requires.a_bound.0; rows_at = r; i_in_bounds = omega (arith, r.few) }

pub copy_tree-requires-2 : goal.copy_tree-requires-2
copy_tree-requires-2 c = let r = rows_at _ c.requires.s_value _ c.requires.a_bound.1 in record { head_at = (whole-at-facts _ c.requires.s_value).head; i_bound = c.requires.a_bound.1; rows_at = r; i_in_bounds = omega (arith, r.few) }

pub slice_bounds-first-end : goal.slice_bounds-first-end
slice_bounds-first-end c = omega (arith, c.requires.xs_len.0, (rows_at _ c.requires.s_value _ c.requires.a_bound.0).few)

pub slice_bounds-weighted-end : goal.slice_bounds-weighted-end
slice_bounds-weighted-end c = tree-count _ _ _ _ _ c.requires.xs_len.0 c.copy_tree.ensures

pub slice_bounds-second-end : goal.slice_bounds-second-end
slice_bounds-second-end c = omega (arith, c.requires.xs_len.1, (rows_at _ c.requires.s_value _ c.requires.a_bound.1).few)

pub slice_bounds-weighted-end-2 : goal.slice_bounds-weighted-end-2
slice_bounds-weighted-end-2 c = tree-count _ _ _ _ _ c.requires.xs_len.1 c.copy_tree-2.ensures

pub weighted-requires : goal.weighted-requires
weighted-requires c =
    let f = c.copy_tree.ensures in
    let g = c.copy_tree-2.ensures in
    let n = c.requires.xs_len in record { xs_len = (tree-count _ _ _ _ _ n.0 f, tree-count _ _ _ _ _ n.1 g); a_value = (tree-rises _ _ _ _ _ n.0 f c.requires.s_value c.requires.a_bound.0, tree-rises _ _ _ _ _ n.1 g c.requires.s_value c.requires.a_bound.1) }

pub returns : goal.returns
returns c =
    let f = tree-front _ _ _ _ _ c.requires.xs_len.0 c.copy_tree.ensures in
    let g = tree-front _ _ _ _ _ c.requires.xs_len.1 c.copy_tree-2.ensures in
    weighted-as _ _ _ _ _ _ _ c.weighted.ensures f g
