-- `sheet::line::put_majority` meets its contract. Assumes nothing.
use Prim.Native.Nat.{ℕ}
use native.Mathlib.Omega.{arith}
use lib.ListN.{replicate, length-replicate}
use Rattle.sheet.specs.LineLaws.{majority-shown, majority-put}
use Rattle.sheet.proofs.line.put_majority.Goals as goal

pub tree_line-requires : goal.tree_line-requires
tree_line-requires c = let m = c.write_majority-answer.ensures in record { shown = majority-shown _ c.requires.s_value (replicate 4352 0) _ _ m.0 m.1 (omega (arith, length-replicate {A = ℕ} 4352 0)) _ c.requires.word_len_bound; at_bound = c.requires.at_bound }

pub returns : goal.returns
returns c = let m = c.write_majority-answer.ensures in record { put = majority-put _ c.requires.s_value (replicate 4352 0) _ _ m.0 m.1 (omega (arith, length-replicate {A = ℕ} 4352 0)) c.args.word.now c.tree_line.ensures.put; upper_bound = c.tree_line.ensures.upper_bound }
