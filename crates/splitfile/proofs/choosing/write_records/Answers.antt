-- `splitfile::choosing::write_records` meets its contract. Assumes nothing.
use Rattle.answers.specs.AnswerLaws.{filled-refused, filled-as}
use Rattle.splitfile.specs.ChosenTreeLaws.{chosen_none, chosen-some}
use Rattle.splitfile.proofs.choosing.write_records.Goals as goal

pub returns-then-n-eq0 : goal.returns-then-n-eq0
returns-then-n-eq0 c = filled-refused _ _ _ (chosen_none _ _ _ _ _ c.if-n-eq0.true)

pub returns : goal.returns
returns c = filled-as _ c.args.out.now _ (chosen-some _ _ _ _ _ c.if-n-eq0.false c.requires.file_value _ _ c.least_count-least.ensures c.known_trees.ensures) _ _ c.write_chosen.ensures
