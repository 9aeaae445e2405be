-- `opening::names::read_names` meets its contract: the names are read into their places and tested there. Assumes nothing.
use mathlib.Core.Path.{sym, ap, ◌∙◌}
use mathlib.Core.Bool.{true≢false}
use Rattle.trees.specs.Names.{good_names}
use Rattle.opening.proofs.names.read_names.Goals as goal

pub returns-then-not-place_names : goal.returns-then-not-place_names
returns-then-not-place_names c = record { value = sym (c.place_names.ensures.list_value (c.if-not-place_names.true)); names_after = λ e. absurd (true≢false (sym e)) }

pub returns : goal.returns
returns c =
    let a = c.args in
    let e = c.place_names.ensures.names_after (c.if-not-place_names.false) in record { value = c.names_good.ensures ∙ ap (good_names a.taxa) e; names_after = λ _. e }
