-- `release::parts::put_newick` meets its contract. Assumes nothing.
use mathlib.Core.Path.{sym, ◌∙◌}
use Rattle.rows.specs.ReadLaws.{long}
use Rattle.release.specs.ReleaseLaws.{newick-none, newick-put}
use Rattle.release.proofs.parts.put_newick.Goals as goal

pub trees_held-requires : goal.trees_held-requires
trees_held-requires c = long _ c.requires

pub returns-then-trees_held-eq0 : goal.returns-then-trees_held-eq0
returns-then-trees_held-eq0 c = newick-none _ (sym c.trees_held.ensures ∙ c.if-trees_held-eq0.true) _

pub returns : goal.returns
returns c = newick-put _ (λ z. c.if-trees_held-eq0.false (c.trees_held.ensures ∙ z)) c.put_majority-e.ensures.put c.put_strict.ensures.put
