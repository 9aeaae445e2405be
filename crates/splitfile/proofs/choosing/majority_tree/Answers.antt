-- `splitfile::choosing::majority_tree` meets its contract. Assumes nothing.
use Rattle.answers.specs.AnswerLaws.{filled-as}
use Rattle.splitfile.specs.ChosenTreeLaws.{majority-by}
use Rattle.splitfile.proofs.choosing.majority_tree.Goals as goal

pub returns : goal.returns
returns c =
    let a = c.args in
    filled-as _ a.out.now _ (majority-by _ _ _) _ _ c.write_by.ensures
