-- `sheet::line::put_counts` meets its contract. Assumes nothing.
use mathlib.Core.Path.{◌∙◌}
use native.Mathlib.Omega.{arith}
use Rattle.rows.specs.ReadLaws.{long}
use Rattle.sheet.specs.LineLaws.{counts-put}
use Rattle.sheet.proofs.line.put_counts.Goals as goal

pub taxa-requires : goal.taxa-requires
taxa-requires c = long _ c.requires.s_value

pub trees_held-trees-requires : goal.trees_held-trees-requires
trees_held-trees-requires c = long _ c.requires.s_value

pub splits_held-splits-requires : goal.splits_held-splits-requires
splits_held-splits-requires c = long _ c.requires.s_value

pub returns : goal.returns
returns c = let e = c.put_end.ensures in record { put = counts-put _ c.requires.s_value _ _ _ _ (c.from-taxa.ensures ∙ c.taxa.ensures.value) c.trees_held-trees.ensures c.splits_held-splits.ensures.value c.put_counted-a.ensures.put c.put_counted-b.ensures.put c.put_counted-c.ensures.put c.put_counted-d.ensures.put e; upper_bound = omega (arith, c.put_counted-a.ensures.upper_bound.0, c.put_counted-b.ensures.upper_bound.0, c.put_counted-c.ensures.upper_bound.0, c.put_counted-d.ensures.upper_bound.0, e.ends) }
