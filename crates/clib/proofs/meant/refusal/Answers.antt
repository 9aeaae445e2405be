-- `clib::meant::refusal` meets its contract. Assumes nothing.
use mathlib.Core.Path.{refl, sym}
use Rattle.clib.specs.Answers.{refusals, refusal_of}
use Rattle.clib.specs.AnswersLaws.{refusal-none, refusal-above}
use Rattle.clib.proofs.meant.refusal.Goals as goal

pub returns-then-k-eq0 : goal.returns-then-k-eq0
returns-then-k-eq0 c = sym (refusal-none _ c.if-k-eq0.true)

pub returns-then-k-gt25 : goal.returns-then-k-gt25
returns-then-k-gt25 c = sym (refusal-above _ c.if-k-gt25.true)

pub returns : goal.returns
unfolding refusal_of refusals
returns c = refl
