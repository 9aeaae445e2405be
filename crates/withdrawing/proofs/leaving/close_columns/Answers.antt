-- `leaving::close_columns` meets its contract: each column is closed, and the others lie elsewhere. Assumes nothing.
use native.Mathlib.Omega.{arith}
use mathlib.Core.Path.{refl, ◌∙◌}
use lib.ListN.{take}
use Rattle.head.specs.Head.{numbers_at}
use Rattle.layout.specs.StoreLaws.{identifiers-from, counts-from, links-from, order_from_lem}
use Rattle.withdrawing.specs.ColumnLaws.{rows-within, columns-closed}
use Rattle.withdrawing.proofs.leaving.close_columns.Goals as goal

pub gather-requires : goal.gather-requires
gather-requires c = let n = numbers_at c.args.s.now in record { m_in_bounds = c.requires.m_in_bounds; within = rows-within _ (take c.args.m c.args.rows.now) c.requires.columned 8 c.masks_from-masks.result c.args.s.now refl (omega (arith, c.masks_from-masks.ensures.value, c.masks_from-masks.ensures.upper_bound, order_from_lem n)) }

pub gather-requires-2 : goal.gather-requires-2
gather-requires-2 c = let n = numbers_at c.args.s.now in record { m_in_bounds = c.requires.m_in_bounds; within = rows-within _ (take c.args.m c.args.rows.now) c.requires.columned 8 c.identifiers_from-identifiers.result c.gather.new.s c.gather.ensures.size (omega (arith, c.identifiers_from-identifiers.ensures.value, c.identifiers_from-identifiers.ensures.upper_bound, identifiers-from n, order_from_lem n)) }

pub gather-requires-3 : goal.gather-requires-3
gather-requires-3 c = let n = numbers_at c.args.s.now in record { m_in_bounds = c.requires.m_in_bounds; within = rows-within _ (take c.args.m c.args.rows.now) c.requires.columned 4 c.counts_from-counts.result c.gather-2.new.s (c.gather-2.ensures.size ∙ c.gather.ensures.size) (omega (arith, c.counts_from-counts.ensures.value, c.counts_from-counts.ensures.upper_bound, counts-from n, order_from_lem n)) }

pub gather-requires-4 : goal.gather-requires-4
gather-requires-4 c = let n = numbers_at c.args.s.now in record { m_in_bounds = c.requires.m_in_bounds; within = rows-within _ (take c.args.m c.args.rows.now) c.requires.columned 2 c.links_from-links.result c.gather-3.new.s (c.gather-3.ensures.size ∙ c.gather-2.ensures.size ∙ c.gather.ensures.size) (omega (arith, c.links_from-links.ensures.value, c.links_from-links.ensures.upper_bound, links-from n, order_from_lem n)) }

pub returns : goal.returns
returns c =
    columns-closed _ _ c.requires.columned _ _ _ _
    (rw c.masks_from-masks.ensures.value at c.gather.ensures)
    (rw c.identifiers_from-identifiers.ensures.value at c.gather-2.ensures)
    (rw c.counts_from-counts.ensures.value at c.gather-3.ensures)
    (rw c.links_from-links.ensures.value at c.gather-4.ensures)
