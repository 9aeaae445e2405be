-- `opening::names::names_good` meets its contract: the definition, in two parts. Assumes nothing.
use mathlib.Core.Path.{sym, ◌∙◌}
use Rattle.opening.specs.GivenLaws.{failed, passed}
use Rattle.opening.specs.NameTestLaws.{good-not, good-names}
use Rattle.opening.proofs.names.names_good.Goals as goal

pub returns-then-not-all_names : goal.returns-then-not-all_names
returns-then-not-all_names c = sym (good-not _ _ (failed _ _ c.all_names.ensures c.if-not-all_names.true-raw))

pub returns : goal.returns
returns c =
    c.all_different.ensures
    ∙ sym (good-names _ _ (passed _ _ c.all_names.ensures c.if-not-all_names.false-raw))
