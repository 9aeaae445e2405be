-- `writer::write_root` meets its contract: brackets around the branches of all taxa, and a semicolon. Assumes nothing.
use mathlib.Core.Path.{ap, ◌∙◌}
use native.Mathlib.Omega.{arith}
use Rattle.trees.specs.Mask.{every_taxon}
use Rattle.writer.specs.RootLaws.{taxa-most, root-ready, root-room, root-put}
use Rattle.writer.proofs.write_root.Goals as goal

pub every_taxon-all-requires : goal.every_taxon-all-requires
every_taxon-all-requires c = let l = taxa-most _ c.requires.head_value in omega (arith, c.taxa.ensures.value)

pub write_branches-e-requires : goal.write_branches-e-requires
write_branches-e-requires c =
    let a = c.every_taxon-all.ensures ∙ ap every_taxon c.taxa.ensures.value in
    let l = root-room _ c.requires.head_value _ c.requires.list_value _ a in record { head_bytes_in_bounds = c.requires.head_bytes_in_bounds; k_in_bounds = c.requires.k_in_bounds; ready = root-ready _ c.requires.head_value _ c.requires.list_value _ a; r_bound = omega arith }

pub overflow_add-e : goal.overflow_add-e
overflow_add-e c =
    let a = c.every_taxon-all.ensures ∙ ap every_taxon c.taxa.ensures.value in
    let l = root-room _ c.requires.head_value _ c.requires.list_value _ a in
    omega (arith, c.write_branches-e.ensures.ends)

pub overflow_add-result : goal.overflow_add-result
overflow_add-result c =
    let a = c.every_taxon-all.ensures ∙ ap every_taxon c.taxa.ensures.value in
    let l = root-room _ c.requires.head_value _ c.requires.list_value _ a in
    omega (arith, c.write_branches-e.ensures.ends)

pub returns : goal.returns
returns c =
    let a = c.every_taxon-all.ensures ∙ ap every_taxon c.taxa.ensures.value in
    let l = root-room _ c.requires.head_value _ c.requires.list_value _ a in
    let e = c.write_branches-e.ensures in record { put = root-put _ c.requires.head_value _ c.requires.list_value _ a c.put_byte.ensures e c.put_byte-2.ensures c.put_byte-3.ensures; upper_bound = omega (arith, e.ends) }
