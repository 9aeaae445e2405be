-- `opening::names::all_quoted_bytes` meets its contract. Assumes nothing.
use Rattle.std.proofs.Common.{rules, ◌∙◌, ap}
use Rattle.std.specs.List.{between}
use Rattle.std.proofs.lemmas.Slice.{between_is}
use Rattle.std.proofs.lemmas.Iterator.{YieldsList-from_slice}
use Rattle.std.proofs.lemmas.Iterator.Search.{all_from_yields_List}
use borrow.Author.Tests.{tests}
use Rattle.trees.specs.Plain.{every}
use Rattle.trees.specs.Text.{is_quoted_byte}
use Rattle.opening.specs.GivenLaws.{every_all}
use Rattle.opening.proofs.names.all_quoted_bytes.Goals as goal

pub returns : goal.returns
returns c =
    let a = c.args in
    all_from_yields_List is_quoted_byte _ _ c.all.result c.all.ensures.ran (YieldsList-from_slice (between a.b a.e a.s.now) cc) (λ x b q k. search (rules, tests))
    ∙ every_all _ _
    ∙ ap (every is_quoted_byte) (between_is a.s.now a.b a.e)
