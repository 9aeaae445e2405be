-- `grouping::groups::put_line` meets its contract. Assumes nothing.
use native.Mathlib.Omega.{arith}
use Rattle.grouping.specs.MajorityLaws.{count_small}
use Rattle.grouping.specs.LineLaws.{group-line}
use Rattle.grouping.proofs.groups.put_line.Goals as goal

pub put_group-requires : goal.put_group-requires
put_group-requires c = record { s_value = c.requires.s_value; count_bound = omega (arith, c.requires.trees_value, count_small _ c.requires.s_value c.args.m); at_bound = omega (arith, c.requires.at_bound, c.put_word-e.ensures.ends) }

pub returns : goal.returns
returns c = let w = c.put_word-e.ensures in record { put = group-line _ c.args.m c.requires.trees_value w c.put_group.ensures.put; upper_bound = omega (arith, w.ends, c.put_group.ensures.upper_bound) }
