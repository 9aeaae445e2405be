-- `phylip::reading::read_matrix` meets its contract: a law for each return. Assumes nothing.
use native.Mathlib.Omega.{arith}
use mathlib.Core.Path.{sym, ◌∙◌}
use Rattle.phylip.specs.ReadingLaws.{first-within, first_read, values-fit, read-unfirst, read-unrows, read-unsymmetric, read_short, read-given}
use Rattle.phylip.proofs.reading.read_matrix.Goals as goal

pub returns-then-not-is_first : goal.returns-then-not-is_first
returns-then-not-is_first c = read-unfirst _ _ (sym c.is_first.ensures ∙ c.if-not-is_first.true)

pub overflow_add-start : goal.overflow_add-start
overflow_add-start c =
    let h = first-within _ _ (sym c.is_first.ensures ∙ c.if-not-is_first.false) c.number_at-first.ensures in
    omega (arith, h)

pub are_rows-requires : goal.are_rows-requires
are_rows-requires c = (first_read _ _ (sym c.is_first.ensures ∙ c.if-not-is_first.false) c.number_at-first.ensures).few

pub returns-then-not-are_rows : goal.returns-then-not-are_rows
returns-then-not-are_rows c =
    let h = first_read _ _ (sym c.is_first.ensures ∙ c.if-not-is_first.false) c.number_at-first.ensures in
    read-unrows _ _ _ _ h _ _ _ c.are_rows.ensures (c.if-not-are_rows.true)

pub is_symmetric-requires : goal.is_symmetric-requires
is_symmetric-requires c =
    let h = first_read _ _ (sym c.is_first.ensures ∙ c.if-not-is_first.false) c.number_at-first.ensures in
    omega (arith, c.are_rows.ensures.size, h.few)

pub returns-then-not-is_symmetric : goal.returns-then-not-is_symmetric
returns-then-not-is_symmetric c =
    let h = first_read _ _ (sym c.is_first.ensures ∙ c.if-not-is_first.false) c.number_at-first.ensures in
    read-unsymmetric _ _ _ _ h _ _ _ c.are_rows.ensures (c.if-not-are_rows.false) (sym c.is_symmetric.ensures ∙ c.if-not-is_symmetric.true)

pub overflow_mul-t : goal.overflow_mul-t
overflow_mul-t c =
    let h = first_read _ _ (sym c.is_first.ensures ∙ c.if-not-is_first.false) c.number_at-first.ensures in
    omega (arith, values-fit _ h.few)

pub returns-then-out-t : goal.returns-then-out-t
returns-then-out-t c =
    let h = first_read _ _ (sym c.is_first.ensures ∙ c.if-not-is_first.false) c.number_at-first.ensures in
    read_short _ _ _ _ h _ _ _ c.are_rows.ensures (c.if-not-are_rows.false) (sym c.is_symmetric.ensures ∙ c.if-not-is_symmetric.false) (omega arith)

pub fill_rows-requires : goal.fill_rows-requires
fill_rows-requires c = record { i_value = sym c.are_rows.ensures.is ∙ c.if-not-are_rows.false; t_in_bounds = omega arith }

pub returns : goal.returns
returns c =
    let h = first_read _ _ (sym c.is_first.ensures ∙ c.if-not-is_first.false) c.number_at-first.ensures in
    read-given _ _ _ _ h _ _ _ c.are_rows.ensures (c.if-not-are_rows.false) (sym c.is_symmetric.ensures ∙ c.if-not-is_symmetric.false) (omega arith) _
    c.fill_rows.ensures
