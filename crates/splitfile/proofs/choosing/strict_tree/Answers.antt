-- `splitfile::choosing::strict_tree` meets its contract. Assumes nothing.
use Rattle.answers.specs.AnswerLaws.{filled-as}
use Rattle.splitfile.specs.ChosenTreeLaws.{strict-by}
use Rattle.splitfile.proofs.choosing.strict_tree.Goals as goal

pub returns : goal.returns
returns c =
    let a = c.args in
    filled-as _ a.out.now _ (strict-by _ _ _) _ _ c.write_by.ensures
