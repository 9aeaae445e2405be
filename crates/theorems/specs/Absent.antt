-- A tree that is written has "no lengths".
--
--   absent k s           the lengths of its splits s: absent ones where lengths are kept (k is 1), else none at all
--   without_lengths k s   its splits s with these
use Rattle.std.specs.Prelude.{ℕ, List, [], eqb, length, replicate, if◌then◌else◌}
use Rattle.std.proofs.Math.Option.{none}
use Rattle.trees.specs.Value.{Length}
use Rattle.trees.specs.Verdict.{Branches}

unfoldable pub absent : ℕ → List ℕ → List Length
absent kept s = if eqb kept 0 then [] else replicate (length s) none

unfoldable pub without_lengths : ℕ → List ℕ → Branches
unfolding absent
without_lengths kept s = record { splits = s; lengths = absent kept s }
