-- What the loops over the splits test, a split at a time. Assumes nothing.
--
--   mask_before s k     the mask before split number k; 0 before the first
--   good_mask s k       split number k has a row, and its mask is proper and above the one before
--   place_at s k        the place of the split in row k
--   Highest s k h      h has for each place the highest of its rows below k, and one more
use Rattle.std.specs.Prelude.{◌≡◌, ℕ, zero, suc, ◌<◌, Bool, ◌&&◌, List, nat_lt, slice_index}
use Rattle.trees.specs.Mask.{proper}
use Rattle.trees.specs.Hash.{place}
use Rattle.head.specs.Head.{numbers_at, first_at}
use Rattle.layout.specs.Store.{mask_at, split_at}
use Rattle.layout.specs.WholeStore.{good_order, highest_below, order_good}

unfoldable pub mask_before : List ℕ → ℕ → ℕ
mask_before s zero = 0
mask_before s (suc k) = split_at s k

unfoldable pub good_mask : List ℕ → ℕ → Bool
unfolding order_good proper numbers_at mask_before
good_mask s k = good_order s k && (proper (numbers_at s).taxa (split_at s k) && nat_lt (mask_before s k) (split_at s k))

unfoldable pub place_at : List ℕ → ℕ → ℕ
unfolding place first_at numbers_at
place_at s k = place (first_at s) (numbers_at s).places (mask_at s k)

-- there are at most 8,192 places
pub record Highest (s : List ℕ) (k : ℕ) (h : List ℕ) : Type 0 where
  pub each : (p : ℕ) → p < 8192 → slice_index h p ≡ highest_below s p k
