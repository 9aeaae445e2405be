-- Numbers of any size in 64 bits: where a number is above 2^60, any other above 2^60 may stand for it. Whole numbers and exponents so large
-- are outside the exact range, so it makes no difference which.
--
--   Near m n    n stands for m: it is m, or both are above 2^60
use Rattle.std.specs.Prelude.{ℕ, ◌^◌, ◌<◌, ◌≡◌}

pub data Near (m n : ℕ) : Type 0 where
  exactly : m ≡ n → Near m n
  beyond : 2 ^ 60 < m → 2 ^ 60 < n → Near m n
