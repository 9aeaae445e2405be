-- `store::sums::sum_over` meets its contract. The loop's invariant: the sum so far and the sum over the rest, which is all of the mask
-- from byte b on, make the sum over m. Assumes nothing.
use Rattle.std.proofs.Common.{◌≡◌, ℕ, ◌+◌, ◌-◌, ◌*◌, ◌%◌, ◌^◌, ◌<◌, ◌≤◌, List, drop}
use Rattle.trees.specs.Hash.{sum_over}
use Rattle.store.specs.Sums.{Sums}
use Rattle.store.proofs.sums.sum_over.Given as goal

abbrev pub invariant-loop-b : goal.invariant-loop-b
invariant-loop-b l =
    (l.b ≤ 8) × (l.sum < 2 ^ 64) × (l.rest < 256 ^ (8 - l.b))
    × ((cs : List ℕ) → Sums cs 8 l.sums → (l.sum + sum_over (drop (8 * l.b) cs) l.rest) % 2 ^ 64 ≡ sum_over cs l.m % 2 ^ 64)
