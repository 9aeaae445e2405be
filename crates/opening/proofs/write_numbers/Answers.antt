-- `opening::write_numbers` meets its contract: six calls, and each number in range fits two bytes. Assumes nothing.
use mathlib.Core.Path.{ap, ◌∙◌}
use Rattle.fields.specs.Field.{put}
use Rattle.opening.specs.WritingLaws.{numbers-put}
use Rattle.opening.proofs.write_numbers.Goals as goal

pub returns : goal.returns
returns c =
    numbers-put _ _ _ _ _ _ _ _ c.put16.ensures c.put16-2.ensures c.put16-3.ensures c.put16-4.ensures c.put16-5.ensures
    (c.put16-6.ensures ∙ ap (put 2 _ 14) c.flag.ensures)
