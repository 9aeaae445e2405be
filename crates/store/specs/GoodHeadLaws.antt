-- What a head in order says of the sums of its first constants. Assumes nothing.
--
--   first-most       the constants of the first list are at most 8,191
--   sum-most         so their sums are below 2^20
--   sum-read         and their table gives them as they are
use Rattle.std.specs.Prelude.{◌≡◌, ℕ, ◌^◌, ◌<◌, false, List, slice_index}
use Rattle.std.proofs.Common.{arith}
use Rattle.trees.specs.Hash.{sum_over}
use Rattle.theorems.specs.OpeningLaws.{good-opening, first_below}
use Rattle.head.specs.Head.{first_at, opening_at}
use Rattle.head.specs.HeadLaws.{first-length}
use Rattle.layout.specs.WholeFacts.{HeadAt}
use Rattle.layout.specs.InsideLaws.{ranges, places-few}
use Rattle.store.specs.Sums.{constants_at, Sums, SumBy}
use Rattle.store.specs.SumLaws.{sum_over-most, first-sum}

module _ (s : List ℕ) (h : HeadAt s) where
  first-most : (i : ℕ) → slice_index (first_at s) i < 8192
  unfolding opening_at
  first-most i = omega (arith, first_below (opening_at s) (good-opening (opening_at s) h.opening-good) i, places-few s h)

  pub sum-most : (m : ℕ) → sum_over (first_at s) m < 2 ^ 20
  sum-most m = omega (arith, sum_over-most 8192 (first_at s) m first-most, first-length s, (ranges s h).most-taxa)

  pub sum-read : (t : List ℕ) (m r : ℕ) → Sums (constants_at false s) 8 t → SumBy t m r → r ≡ sum_over (first_at s) m
  sum-read t m r c d = omega (arith, first-sum s t m r c d, sum-most m)
