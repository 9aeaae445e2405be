-- Tables of sums of constants over a mask's taxa, a byte of the mask at a time.
--
--   constants_at second s     the second list of a store's constants, or the first
--   byte_sum cs b v           the sum, modulo 2^64, over the taxa of a mask whose byte b is v and whose other bytes are 0
--   Sums cs n t              the table t has the sums of the first n bytes, that of the value v of byte b at 256 b + v
--   SumBy t m r              r is the sum over the taxa of m, modulo 2^64, of the constants that t is the table of
--   Blank n t                t has 0 for each value of the bytes that n taxa do not reach
--   ByteSums cs b w old t    t has the sums of byte b for the values below w, and is as old outside the byte
--   Doubled at w c n old t   t has, behind the w elements from `at`, the first n of them with c added, and is as old before and behind
use Rattle.std.specs.Prelude.{◌≡◌, ℕ, ◌+◌, ◌*◌, ◌%◌, ◌^◌, ◌<◌, ◌≤◌, Bool, true, false, List, length, drop, slice_index}
use Rattle.trees.specs.Hash.{sum_over}
use Rattle.head.specs.Head.{first_at, second_at}

unfoldable pub constants_at : Bool → List ℕ → List ℕ
unfolding first_at second_at
constants_at true s = second_at s
constants_at false s = first_at s

-- the lowest taxon of byte b is taxon 8 b
unfoldable pub byte_sum : List ℕ → ℕ → ℕ → ℕ
unfolding sum_over
byte_sum cs b v = sum_over (drop (8 * b) cs) v % 2 ^ 64

pub record Sums (cs : List ℕ) (n : ℕ) (t : List ℕ) : Type 0 where
  pub each : (b v : ℕ) → b < n → v < 256 → slice_index t (256 * b + v) ≡ byte_sum cs b v

pub record SumBy (t : List ℕ) (m r : ℕ) : Type 0 where
  pub of : (cs : List ℕ) → Sums cs 8 t → r ≡ sum_over cs m % 2 ^ 64

pub record Blank (n : ℕ) (t : List ℕ) : Type 0 where
  pub long : length t ≡ 2048
  pub zero : (b v : ℕ) → b < 8 → n ≤ 8 * b → v < 256 → slice_index t (256 * b + v) ≡ 0

pub record ByteSums (cs : List ℕ) (b w : ℕ) (old t : List ℕ) : Type 0 where
  pub long : length t ≡ 2048
  pub here : (v : ℕ) → v < w → slice_index t (256 * b + v) ≡ byte_sum cs b v
  pub kept : (k : ℕ) → k < 256 * b → slice_index t k ≡ slice_index old k
  pub behind : (k : ℕ) → 256 * b + 256 ≤ k → slice_index t k ≡ slice_index old k

pub record Doubled (at w c n : ℕ) (old t : List ℕ) : Type 0 where
  pub long : length t ≡ 2048
  pub added : (v : ℕ) → v < n → slice_index t (at + w + v) ≡ (slice_index old (at + v) + c) % 2 ^ 64
  pub kept : (k : ℕ) → k < at + w → slice_index t k ≡ slice_index old k
  pub behind : (k : ℕ) → at + 2 * w ≤ k → slice_index t k ≡ slice_index old k
