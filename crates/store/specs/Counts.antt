-- The counts of the recorded splits, in order of mask.
--
--   split_count s k    the count of split number k
--   counts_at s        the counts, by the splits' numbers
use Rattle.std.specs.Prelude.{ℕ, List}
use Rattle.head.specs.Head.{up_to}
use Rattle.layout.specs.Store.{splits_held_at, count_at, order_at}

unfoldable pub split_count : List ℕ → ℕ → ℕ
split_count s k = count_at s (order_at s k)

unfoldable pub counts_at : List ℕ → List ℕ
unfolding up_to split_count
counts_at s = up_to (split_count s) (splits_held_at s)
