use Rattle.std.proofs.Common.{sym, refl, arith}
use Rattle.layout.specs.WholeFacts.{whole-at-facts}
use Rattle.layout.specs.InsideLaws.{trees-few}
use Rattle.rows.specs.ReadLaws.{long, count_small, row_below}
use Rattle.splitfile.specs.EntryLaws.{put-record-length, with_none, with-next, with_all}
use Rattle.splitfile.specs.WritingLaws.{splits-length, split-record}
use Rattle.splitfile.proofs.writing.put_splits.Goals as goal

pub splits_held-held-requires : goal.splits_held-held-requires
splits_held-held-requires c = long _ c.requires.s_value

pub trees_held-trees-requires : goal.trees_held-trees-requires
trees_held-trees-requires c = long _ c.requires.s_value

pub overflow_cast-trees : goal.overflow_cast-trees
overflow_cast-trees c = omega (arith, c.trees_held-trees.ensures, trees-few _ (whole-at-facts _ c.requires.s_value).head)

pub loop-k-init : goal.loop-k-init
loop-k-init c = (omega arith, refl, sym (with_none _))

pub row_of-row-requires : goal.row_of-row-requires
row_of-row-requires c = record { head_at = (whole-at-facts _ c.requires.s_value).head; k_bound = omega arith }

-- the row is one of the rows
pub mask_at-m-requires : goal.mask_at-m-requires
mask_at-m-requires c = let w = c.requires.s_value in record { head_at = (whole-at-facts _ w).head; row_bound = omega (arith, c.row_of-row.ensures, row_below _ w c.loop-k.k (omega arith)) }

pub count_at-requires : goal.count_at-requires
count_at-requires c = let w = c.requires.s_value in record { head_at = (whole-at-facts _ w).head; row_bound = omega (arith, c.row_of-row.ensures, row_below _ w c.loop-k.k (omega arith)) }

pub overflow_cast-count_at : goal.overflow_cast-count_at
overflow_cast-count_at c =
    let w = c.requires.s_value in
    let b = c.type_inv.s in
    let r = row_below _ w c.loop-k.k (omega arith) in
    omega (arith, count_small _ _ _ (omega (arith, c.row_of-row.ensures, r)) (λ i. omega (arith, b i)) c.count_at.ensures)

pub loop-k-preserved : goal.loop-k-preserved
loop-k-preserved c =
    let l = c.loop-k in
    let w = c.requires.s_value in
    let n = splits-length _ w in
    let e = c.put_record.ensures in
    let is = split-record _ w l.k _ _ _ _ (omega arith) c.row_of-row.ensures c.mask_at-m.ensures c.count_at.ensures c.trees_held-trees.ensures in
    (omega arith, rw (e, put-record-length) l.invariant.1, rw (e, is) (with-next _ _ _ l.k l.invariant.2 _ (omega arith) (omega arith)))

pub shape_of-out : goal.shape_of-out
shape_of-out c = c.loop-k.invariant.1

pub returns : goal.returns
returns c =
    let l = c.loop-k in
    with_all _ _ _ l.k l.invariant.2 (omega (arith, splits-length _ c.requires.s_value))
