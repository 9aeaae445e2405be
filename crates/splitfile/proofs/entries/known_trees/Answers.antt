-- `splitfile::entries::known_trees` meets its contract. Assumes nothing.
use Rattle.std.proofs.Common.{sym, ◌∙◌, arith}
use Rattle.splitfile.specs.EntryLaws.{trees-none, trees-first}
use Rattle.splitfile.proofs.entries.known_trees.Goals as goal

pub returns-then-n-eq0 : goal.returns-then-n-eq0
returns-then-n-eq0 c = sym (trees-none _ _ (omega arith))

pub returns : goal.returns
returns c = c.trees_of.ensures ∙ sym (trees-first _ _ (λ e. omega arith))
