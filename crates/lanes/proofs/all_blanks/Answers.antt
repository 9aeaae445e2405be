-- `lanes::all_blanks` meets its contract. Assumes nothing.
use Rattle.std.proofs.Common.{rules, ◌∙◌}
use Rattle.std.proofs.lemmas.Iterator.{YieldsList-from_slice}
use Rattle.std.proofs.lemmas.Iterator.Search.{all_from_yields_List}
use borrow.Author.Tests.{tests}
use Rattle.trees.specs.Text.{is_blank}
use Rattle.opening.specs.GivenLaws.{every_all}
use Rattle.lanes.proofs.all_blanks.Goals as goal

pub returns : goal.returns
returns c =
    all_from_yields_List is_blank _ _ c.all.result c.all.ensures.ran (YieldsList-from_slice c.args.bytes.now cc) (λ x b q k. search (rules, tests))
    ∙ every_all _ _
