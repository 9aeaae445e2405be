-- What filling a buffer leaves there.
--
--   values_filled out k n s       the buffer `out` with the n values of s from k on
--   rows_filled out k m t s       the buffer `out` with the values of the m rows of s from k on
--   RowFilled f i n k r old out  the n values at i are written from k on, and r is the place behind them
use Rattle.std.specs.Prelude.{ℕ, ◌≡◌, List}
use Rattle.std.proofs.lemmas.List.Edits.{sets}
use Rattle.phylip.specs.Walk.{rest, nexts, values, rows_read}

unfoldable pub values_filled : List ℕ → ℕ → ℕ → List ℕ → List ℕ
values_filled out k n s = sets out k (values n s)

unfoldable pub rows_filled : List ℕ → ℕ → ℕ → ℕ → List ℕ → List ℕ
rows_filled out k m t s = sets out k (rows_read m t s)

pub record RowFilled (f : List ℕ) (i n k r : ℕ) (old out : List ℕ) : Type 0 where
  pub behind : rest f r ≡ nexts n (rest f i)
  pub filled : out ≡ values_filled old k n (rest f i)
