-- `nexus::pairs::is_none` meets its contract. Assumes nothing.
use mathlib.Core.Logic.{inl, inr}
use mathlib.Core.Bool.{true≢false}
use borrow.Author.Tests.{eqb-true, eqb-false}
use Rattle.nexus.proofs.pairs.is_none.Goals as goal

pub returns-then-key : goal.returns-then-key
returns-then-key c = record { none = λ e. inl c.if-key.true; both = λ e. absurd (true≢false e) }

pub returns : goal.returns
returns c = record { none = λ e. inr (eqb-true _ _ e); both = λ e. (c.if-key.false, eqb-false _ _ e) }
