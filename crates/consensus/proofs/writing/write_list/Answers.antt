-- `consensus::writing::write_list` meets its contract. Assumes nothing.
use Rattle.layout.specs.WholeFacts.{whole-at-facts}
use Rattle.rows.specs.ReadLaws.{long}
use Rattle.consensus.specs.AskedLaws.{text-answered}
use Rattle.head.specs.Head.{opening_at}
use Rattle.consensus.proofs.writing.write_list.Goals as goal

pub write_tree-requires : goal.write_tree-requires
unfolding opening_at
write_tree-requires c =
    record { head_bytes_in_bounds = long _ c.requires.s_value; head_value = (whole-at-facts _ c.requires.s_value).head.opening-good; k_in_bounds = c.requires.n_in_bounds; list_value = c.requires.list_value }

pub returns : goal.returns
returns c = rw c.ok_or.ensures.value (text-answered _ _ _ _ _ c.write_tree.ensures)
