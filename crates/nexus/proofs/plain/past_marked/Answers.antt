-- `nexus::plain::past_marked` meets its contract. Assumes nothing.
use native.Mathlib.Omega.{arith}
use mathlib.Core.Path.{refl, sym, ◌∙◌}
use Rattle.nexus.specs.KeptLaws.{kept-none, kept-behind, kept-marked}
use Rattle.nexus.proofs.plain.past_marked.Goals as goal

pub returns-then-is_mark : goal.returns-then-is_mark
returns-then-is_mark c = let k = c.past_kept.ensures in record { kept_as = kept-marked _ _ _ _ (omega arith) (sym c.is_mark.ensures ∙ c.if-is_mark.true) (kept-behind _ _ _ _ refl k); quote_past = λ e. omega (arith, k.run.past) }

pub returns-then-b-eq39 : goal.returns-then-b-eq39
returns-then-b-eq39 c = let q = c.past_quotes.ensures in record { kept_as = q.kept _; quote_past = λ e. q.past }

pub returns-then-free : goal.returns-then-free
returns-then-free c = record { kept_as = kept-none _ _ _ (omega arith); quote_past = λ e. absurd (c.if-b-eq39.false e) }

pub returns : goal.returns
returns c = record { kept_as = kept-behind _ _ _ _ c.if-free.false c.past_kept-2.ensures; quote_past = λ e. absurd (c.if-b-eq39.false e) }
