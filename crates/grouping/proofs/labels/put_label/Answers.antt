-- `grouping::labels::put_label` meets its contract. Assumes nothing.
use native.Mathlib.Omega.{arith}
use Rattle.head.specs.HeadLaws.{names-at}
use Rattle.layout.specs.InsideLaws.{ranges}
use Rattle.layout.specs.WholeFacts.{whole-at-facts}
use Rattle.rows.specs.ReadLaws.{long}
use Rattle.consensus.specs.FewLaws.{names-good}
use Rattle.grouping.specs.LabelLaws.{label-put, label-short}
use Rattle.grouping.proofs.labels.put_label.Goals as goal

pub write_name-requires : goal.write_name-requires
write_name-requires c = let w = c.requires.s_value in record { head_bytes_in_bounds = long _ w; i_bound = omega (arith, c.requires.i_bound, (ranges _ (whole-at-facts _ w).head).most-taxa); at_bound = omega arith }

pub returns : goal.returns
returns c =
    let w = c.requires.s_value in
    let below = c.requires.i_bound in
    let p = label-put _ _ (names-at _ _ below) c.put_byte.ensures c.write_name.ensures in record { put = p; upper_bound = label-short _ _ _ (names-good _ w) below p }
