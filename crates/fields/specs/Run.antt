-- A run of bytes copied into a list or cleared in it.
--   copied    the list with a run of bytes, of another list or of its own, put into it
--   cleared   the list with a run of its bytes made 0
use Rattle.std.specs.Prelude.{ℕ, List, take, drop, replicate}
use Rattle.std.proofs.lemmas.List.Edits.{sets}

-- s with the n bytes of t from `from` in the n bytes from `to`
unfoldable pub copied : List ℕ → ℕ → List ℕ → ℕ → ℕ → List ℕ
copied s to t from n = sets s to (take n (drop from t))

-- s with 0 in the n bytes from at
unfoldable pub cleared : List ℕ → ℕ → ℕ → List ℕ
cleared s at n = sets s at (replicate n 0)
