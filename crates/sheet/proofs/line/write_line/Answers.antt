-- `sheet::line::write_line` meets its contract: each line has its number. Assumes nothing.
use native.Mathlib.Omega.{arith}
use mathlib.Core.Path.{◌∙◌}
use Rattle.trees.specs.Plain.{bytes}
use Rattle.layout.specs.WholeFacts.{whole-at-facts}
use Rattle.layout.specs.InsideLaws.{trees-few}
use Rattle.rows.specs.ReadLaws.{long}
use Rattle.putting.specs.PutLaws.{put_as}
use Rattle.sheet.specs.LineLaws.{majority-line, strict-line}
use Rattle.sheet.specs.SheetLaws.{line-counts, line-split, line_row, line-majority, line-strict}
use Rattle.sheet.proofs.line.write_line.Goals as goal

pub splits_held-splits-requires : goal.splits_held-splits-requires
splits_held-splits-requires c = long _ c.requires.s_value

pub trees_held-trees-requires : goal.trees_held-trees-requires
trees_held-trees-requires c = long _ c.requires.s_value

pub returns-then-j-eq0 : goal.returns-then-j-eq0
returns-then-j-eq0 c = record { put = put_as (line-counts _ c.requires.s_value _ _ c.if-j-eq0.true) c.put_counts.ensures.put; upper_bound = omega (arith, c.put_counts.ensures.upper_bound) }

pub put_split-requires : goal.put_split-requires
put_split-requires c = record { s_value = c.requires.s_value; k_bound = omega (arith, c.if-j-eq0.false, c.if-j-splits.true, c.splits_held-splits.ensures.value); at_bound = omega arith }

pub returns-then-j-splits : goal.returns-then-j-splits
returns-then-j-splits c = record { put = put_as (line-split _ c.requires.s_value _ _ c.if-j-eq0.false (omega (arith, c.splits_held-splits.ensures.value))) c.put_split.ensures.put; upper_bound = omega (arith, c.put_split.ensures.upper_bound) }

pub overflow_add-splits : goal.overflow_add-splits
overflow_add-splits c = omega (arith, c.splits_held-splits.ensures.upper_bound, c.trees_held-trees.ensures, trees-few _ (whole-at-facts _ c.requires.s_value).head)

pub returns-then-j-splits-2 : goal.returns-then-j-splits-2
returns-then-j-splits-2 c = record { put = put_as (line_row _ c.requires.s_value _ _ _ c.splits_held-splits.ensures.value (omega arith) (omega (arith, c.trees_held-trees.ensures))) c.row_line.ensures.put; upper_bound = c.row_line.ensures.upper_bound }

pub returns-then-j-splits-3 : goal.returns-then-j-splits-3
unfolding bytes
returns-then-j-splits-3 c = record { put = put_as (majority-line _ ∙ line-majority _ c.requires.s_value _ _ (omega (arith, c.if-j-splits-3.true, c.splits_held-splits.ensures.value, c.trees_held-trees.ensures))) c.put_majority.ensures.put; upper_bound = c.put_majority.ensures.upper_bound }

pub returns : goal.returns
unfolding bytes
returns c = record { put = put_as (strict-line _ ∙ line-strict _ c.requires.s_value _ _ (omega (arith, c.if-j-splits-3.false, c.splits_held-splits.ensures.value, c.trees_held-trees.ensures, c.requires.j_bound))) c.put_strict.ensures.put; upper_bound = c.put_strict.ensures.upper_bound }
