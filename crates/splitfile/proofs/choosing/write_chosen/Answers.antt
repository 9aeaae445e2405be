-- `splitfile::choosing::write_chosen` meets its contract. Assumes nothing.
use Rattle.std.proofs.Common.{sym}
use Rattle.std.proofs.lemmas.Result.{err_from_is_err_and}
use Rattle.head.specs.Head.{opening_at}
use Rattle.layout.specs.WholeFacts.{whole-at-facts}
use Rattle.rows.specs.ReadLaws.{long}
use Rattle.consensus.specs.AskedLaws.{text-answered}
use Rattle.splitfile.specs.ChosenTreeLaws.{chosen-there, chosen-tree, agreed-given, agreed-not}
use Rattle.splitfile.proofs.choosing.write_chosen.Goals as goal

pub slice_bounds-write_tree-end : goal.slice_bounds-write_tree-end
slice_bounds-write_tree-end c = sym c.in_ok-k.ensures.list_len_2

pub write_tree-requires : goal.write_tree-requires
unfolding opening_at
write_tree-requires c =
    let w = c.requires.s_value in
    let f = c.requires.file_value in
    let d = c.in_ok-k.ensures.chosen_as in record { head_bytes_in_bounds = long _ w; head_value = (whole-at-facts _ w).head.opening-good; k_in_bounds = chosen-there c.args.s.now _ _ _ f _ _ d; list_value = chosen-tree c.args.s.now _ _ _ f _ _ d }

pub returns-in_err-k : goal.returns-in_err-k
returns-in_err-k c =
    let p = err_from_is_err_and c.from_residual.result c.from_residual.ensures.1 in
    rw (p.1, p.2) (agreed-not _ _ _ _ c.requires.file_value _ c.requires.s_value _ c.in_err-k.ensures.list_len_2 _ c.in_err-k.ensures.chosen_as)

pub returns : goal.returns
returns c =
    rw c.ok_or.ensures.value (agreed-given _ _ _ _ c.requires.file_value _ _ c.in_ok-k.ensures.chosen_as c.args.out.now _ _ (text-answered _ _ _ _ _ c.write_tree.ensures))
