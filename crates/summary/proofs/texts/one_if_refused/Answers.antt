-- `summary::texts::one_if_refused` meets its contract. Assumes nothing.
use mathlib.Core.Path.{sym, ap}
use Rattle.trees.specs.Batch.{refused_after}
use Rattle.answers.specs.Answers.{finish_given}
use Rattle.summary.proofs.texts.one_if_refused.Goals as goal

pub returns-in-Err : goal.returns-in-Err
unfolding refused_after finish_given
returns-in-Err c = sym (ap (λ q. refused_after 0 (finish_given q)) c.in-Err.is)

pub returns-in-Ok : goal.returns-in-Ok
unfolding refused_after finish_given
returns-in-Ok c = sym (ap (λ q. refused_after 0 (finish_given q)) c.in-Ok.is)
