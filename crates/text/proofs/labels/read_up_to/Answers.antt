-- `text::labels::read_up_to` meets its contract, by the label's first byte. Assumes nothing.
use native.Mathlib.Omega.{arith}
use mathlib.Core.Path.{sym, ◌∙◌}
use Rattle.text.specs.LabelsLaws.{quoted-reads, unquoted-reads}
use Rattle.text.proofs.labels.read_up_to.Goals as goal

pub read_quoted-requires : goal.read_quoted-requires
read_quoted-requires c =
    let a = c.args in
    let q = quoted-reads a.text.now a.b a.e (omega arith) (omega arith) (sym c.opens_quotes.ensures ∙ c.if-opens_quotes.true) in record { b_le_e = omega (arith, q.0); e_in_bounds = omega arith; most_in_bounds = omega arith }

pub returns-then-opens_quotes : goal.returns-then-opens_quotes
returns-then-opens_quotes c =
    let a = c.args in
    let q = quoted-reads a.text.now a.b a.e (omega arith) (omega arith) (sym c.opens_quotes.ensures ∙ c.if-opens_quotes.true) in
    rw q.1 c.read_quoted.ensures

pub returns : goal.returns
returns c = rw (unquoted-reads _ (sym c.opens_quotes.ensures ∙ c.if-opens_quotes.false)) c.read_unquoted.ensures
