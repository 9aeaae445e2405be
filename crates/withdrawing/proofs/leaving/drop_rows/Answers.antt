-- `leaving::drop_rows` meets its contract: nothing leaves, or the steps leave the parts without the rows that no tree lists. Assumes nothing.
use native.Mathlib.Omega.{arith}
use borrow.Author.Rules.{rules}
use Rattle.layout.specs.InsideLaws.{splits-few}
use Rattle.withdrawing.specs.DroppingLaws.{found-few, names-asked, order-asked, columns-asked, dropped, none_dropped}
use Rattle.withdrawing.proofs.leaving.drop_rows.Goals as goal

pub splits_held-n-requires : goal.splits_held-n-requires
splits_held-n-requires c = c.requires.0.head-there

pub rows_left-m-requires : goal.rows_left-m-requires
rows_left-m-requires c =
    let e = c.splits_held-n.ensures.value in
    let few = splits-few _ c.requires.0 in record { head_at = c.requires; n_value = e; n_in_bounds = (omega arith, omega arith) }

-- here and below, the entries that are found have a place behind the rows
pub returns-then-m-n : goal.returns-then-m-n
returns-then-m-n c =
    let p = c.requires in
    none_dropped _ p.0 p.1 _ _ _ _ c.splits_held-n.ensures.value c.rows_left-m.ensures (omega (arith, c.rows_left-m.auto.entries, c.splits_held-n.ensures.value, splits-few _ p.0)) c.if-m-n.true

pub name_anew-requires : goal.name_anew-requires
name_anew-requires c =
    let p = c.requires in
    let e = c.splits_held-n.ensures.value in record { head_at = p; n_value = e; becoming = names-asked _ p.0 p.1 _ _ _ _ e c.rows_left-m.ensures (omega (arith, c.rows_left-m.auto.entries, c.splits_held-n.ensures.value, splits-few _ p.0)) }

pub close_order-requires : goal.close_order-requires
close_order-requires c =
    let p = c.requires in
    order-asked _ p.0 p.1 _ _ _ _ c.splits_held-n.ensures.value c.rows_left-m.ensures (omega (arith, c.rows_left-m.auto.entries, c.splits_held-n.ensures.value, splits-few _ p.0)) _ c.name_anew.ensures

pub close_columns-requires : goal.close_columns-requires
close_columns-requires c =
    let p = c.requires in
    let e = c.splits_held-n.ensures.value in record { m_in_bounds = omega (arith, c.rows_left-m.auto.rows, found-few _ p.0 p.1 _ _ _ _ e c.rows_left-m.ensures (omega (arith, c.rows_left-m.auto.entries, c.splits_held-n.ensures.value, splits-few _ p.0))); columned = columns-asked _ p.0 p.1 _ _ _ _ e c.rows_left-m.ensures (omega (arith, c.rows_left-m.auto.entries, c.splits_held-n.ensures.value, splits-few _ p.0)) _ c.name_anew.ensures _ c.close_order.ensures }

pub overflow_cast-m : goal.overflow_cast-m
overflow_cast-m c =
    let p = c.requires in
    omega (arith, found-few _ p.0 p.1 _ _ _ _ c.splits_held-n.ensures.value c.rows_left-m.ensures (omega (arith, c.rows_left-m.auto.entries, c.splits_held-n.ensures.value, splits-few _ p.0)))

pub returns : goal.returns
returns c =
    let p = c.requires in
    dropped _ p.0 p.1 _ _ _ _ c.splits_held-n.ensures.value c.rows_left-m.ensures (omega (arith, c.rows_left-m.auto.entries, c.splits_held-n.ensures.value, splits-few _ p.0)) _ c.name_anew.ensures _ c.close_order.ensures
    _ _ c.close_columns.ensures c.put16.ensures (λ i. search rules)
