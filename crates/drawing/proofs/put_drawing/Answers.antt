-- `drawing::put_drawing` meets its contract: of no trees nothing is put; else the branches of all taxa. Assumes nothing.
use Prim.Native.Nat.{ℕ}
use native.Mathlib.Omega.{arith}
use mathlib.Core.Path.{◌≡◌, refl, sym, ap, ◌∙◌}
use lib.ListN.{length, take, replicate, length-replicate}
use lib.Seq.{length-take-le}
use Rattle.trees.specs.Mask.{every_taxon}
use Rattle.layout.specs.WholeFacts.{whole-at-facts}
use Rattle.rows.specs.ReadLaws.{long}
use Rattle.writer.specs.RootLaws.{taxa-most}
use Rattle.grouping.specs.MajorityLaws.{majority-few}
use Rattle.drawing.specs.RootLaws.{drawing-ready, root-ones, root-some, groups-are, counts-are, groups-counted, root_none, root-put}
use Rattle.drawing.proofs.put_drawing.Goals as goal

pub trees_held-requires : goal.trees_held-requires
trees_held-requires c = long _ c.requires.s_value

pub returns-then-trees_held-eq0 : goal.returns-then-trees_held-eq0
returns-then-trees_held-eq0 c = let w = c.requires.s_value in record { put = root_none _ w (sym c.trees_held.ensures ∙ c.if-trees_held-eq0.true) _ _; upper_bound = omega arith }

pub majority_groups-k-requires : goal.majority_groups-k-requires
majority_groups-k-requires c = let n = length-replicate {A = ℕ} 64 0 in record { s_value = c.requires.s_value; in_bounds = omega (arith, n); in_bounds_2 = omega (arith, n) }

pub taxa-requires : goal.taxa-requires
taxa-requires c = long _ c.requires.s_value

pub every_taxon-all-requires : goal.every_taxon-all-requires
every_taxon-all-requires c =
    let l = taxa-most _ (whole-at-facts _ c.requires.s_value).head.opening-good in
    omega (arith, c.taxa.ensures.value)

pub slice_bounds-list-end : goal.slice_bounds-list-end
slice_bounds-list-end c = omega (arith, c.majority_groups-k.ensures.value, majority-few _ c.requires.s_value)

pub slice_bounds-draw_branches-end : goal.slice_bounds-draw_branches-end
slice_bounds-draw_branches-end c = let g = c.majority_groups-k in sym (length-take-le _ _ (omega (arith, g.auto.masks, g.ensures.value, majority-few _ c.requires.s_value, length-replicate {A = ℕ} 64 0)))

pub slice_bounds-counts-end : goal.slice_bounds-counts-end
slice_bounds-counts-end c = omega (arith, c.majority_groups-k.ensures.value, majority-few _ c.requires.s_value)

pub slice_bounds-draw_branches-end-2 : goal.slice_bounds-draw_branches-end-2
slice_bounds-draw_branches-end-2 c = let g = c.majority_groups-k in sym (length-take-le _ _ (omega (arith, g.auto.counts, g.ensures.value, majority-few _ c.requires.s_value, length-replicate {A = ℕ} 64 0)))

pub slice_bounds-draw_branches-end-3 : goal.slice_bounds-draw_branches-end-3
slice_bounds-draw_branches-end-3 c = sym (length-take-le 0 c.args.s.now (omega arith))

pub draw_branches-requires : goal.draw_branches-requires
draw_branches-requires c =
    let w = c.requires.s_value in
    let a = c.every_taxon-all.ensures ∙ ap every_taxon c.taxa.ensures.value in
    let masks = groups-are _ w c.majority_groups-k.ensures.value (replicate 64 0) c.majority_groups-k.ensures.masks_after in
    let counts = counts-are _ w c.majority_groups-k.ensures.value (replicate 64 0) c.majority_groups-k.ensures.counts_after in
    let o = root-ones _ w a in
    let n : length (take 0 c.args.s.now) ≡ 0 = refl in record { head_bytes_in_bounds = long _ w; ready = drawing-ready _ w a masks; counted = groups-counted _ w masks counts; m_len_bound = omega (arith, n, o); r_bound = omega (arith, n, o, c.requires.at_bound) }

pub shape_of-out : goal.shape_of-out
shape_of-out c = c.draw_branches.auto.out

pub returns : goal.returns
returns c =
    let w = c.requires.s_value in
    let a = c.every_taxon-all.ensures ∙ ap every_taxon c.taxa.ensures.value in
    let masks = groups-are _ w c.majority_groups-k.ensures.value (replicate 64 0) c.majority_groups-k.ensures.masks_after in
    let o = root-ones _ w a in record { put = root-put _ w a (λ z. c.if-trees_held-eq0.false (c.trees_held.ensures ∙ z)) masks c.draw_branches.ensures.put; upper_bound = omega (arith, o, c.draw_branches.ensures.fits (root-some _ w a)) }
