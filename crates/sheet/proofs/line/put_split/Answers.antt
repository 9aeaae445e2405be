-- `sheet::line::put_split` meets its contract. Assumes nothing.
use native.Mathlib.Omega.{arith}
use Rattle.layout.specs.WholeFacts.{whole-at-facts}
use Rattle.rows.specs.ReadLaws.{row_below}
use Rattle.sheet.specs.LineLaws.{split-put}
use Rattle.sheet.proofs.line.put_split.Goals as goal

pub row_of-row-requires : goal.row_of-row-requires
row_of-row-requires c = record { head_at = (whole-at-facts _ c.requires.s_value).head; k_bound = c.requires.k_bound }

pub mask_at-mask-requires : goal.mask_at-mask-requires
mask_at-mask-requires c = record { head_at = (whole-at-facts _ c.requires.s_value).head; row_bound = rw c.row_of-row.ensures (row_below _ c.requires.s_value _ c.requires.k_bound) }

pub count_at-count-requires : goal.count_at-count-requires
count_at-count-requires c = record { head_at = (whole-at-facts _ c.requires.s_value).head; row_bound = rw c.row_of-row.ensures (row_below _ c.requires.s_value _ c.requires.k_bound) }

pub returns : goal.returns
returns c = let e = c.put_end.ensures in record { put = split-put _ c.requires.s_value _ _ _ _ c.requires.k_bound c.row_of-row.ensures c.mask_at-mask.ensures c.count_at-count.ensures c.put_number-a.ensures.put c.put_counted-b.ensures.put e; upper_bound = omega (arith, c.put_number-a.ensures.upper_bound.0, c.put_counted-b.ensures.upper_bound.0, e.ends) }
