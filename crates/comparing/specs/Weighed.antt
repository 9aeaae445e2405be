-- The weighted distance of two trees of whole bytes that keep lengths.
--
--   if_copied b k xs        the first k elements of a buffer xs, where a call says that lengths were copied there
--   weighted_kept s i j     the weighted distance of the trees i and j, or 18 where a split of either has no length
use Rattle.std.specs.Prelude.{ℕ, Bool, List, take, Float, if◌then◌else◌}
use Rattle.std.proofs.Math.Option.{Option, none, some}
use Rattle.trees.specs.Plain.{Answer}
use Rattle.trees.specs.Questions.{if_both_given}
use Rattle.trees.specs.Weighted.{weighted}
use Rattle.layout.specs.Store.{tree_at, branches_at}

unfoldable pub if_copied : Bool → ℕ → List Float → Option (List Float)
if_copied b k xs = if b then some (take k xs) else none

abbrev pub weighted_kept : List ℕ → ℕ → ℕ → Answer Float
weighted_kept s i j = if_both_given (branches_at s i) (branches_at s j) (λ xs ys. weighted (tree_at s i) xs (tree_at s j) ys)
