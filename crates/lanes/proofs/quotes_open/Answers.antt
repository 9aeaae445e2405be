-- `lanes::quotes_open` meets its contract: what the length says, or the text. Assumes nothing.
use mathlib.Core.Path.{ap, ◌∙◌}
use mathlib.Core.Bool.{false}
use Rattle.trees.specs.Text.{open_after}
use Rattle.lanes.specs.LaneLaws.{open-over, open-held}
use Rattle.lanes.proofs.quotes_open.Goals as goal

pub returns-then-n-gt-MOST_TEXT : goal.returns-then-n-gt-MOST_TEXT
returns-then-n-gt-MOST_TEXT c = open-over _ c.requires.s_value _ c.requires.l_bound _ c.lane_length-n.ensures.value c.if-n-gt-MOST_TEXT.true

pub returns : goal.returns
returns c =
    c.open_after.ensures ∙ ap (open_after false) c.text_of.ensures
    ∙ open-held _ c.requires.s_value _ c.requires.l_bound _ c.lane_length-n.ensures.value c.if-n-gt-MOST_TEXT.false
