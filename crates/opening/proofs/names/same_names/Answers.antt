-- `opening::names::same_names` meets its contract: the runs that it compares are the names. Assumes nothing.
use mathlib.Core.Path.{sym, ap₂, ◌∙◌}
use Rattle.std.proofs.Common.{◌+◌, ◌*◌}
use Rattle.std.proofs.lemmas.Slice.{between_is}
use Rattle.trees.specs.Plain.{same_bytes}
use Rattle.opening.specs.NameTestLaws.{name-run, same_pointwise}
use Rattle.opening.proofs.names.same_names.Goals as goal

pub returns : goal.returns
returns c =
    let a = c.args in
    let m = c.name_length-m.ensures in
    let n = c.name_length-n.ensures in
    c.eq.ensures
    ∙ same_pointwise _ _
    ∙ ap₂ same_bytes (between_is a.s.now (17 + 33 * a.i) _) (between_is a.s.now (17 + 33 * a.j) _)
    ∙ sym (ap₂ same_bytes (name-run a.s.now a.i _ m.0) (name-run a.s.now a.j _ n.0))
