-- Lines that are written one behind another, up to one that does not fit.
--
--   Run ls bytes lines old m            the lines at the front of ls that fit into old stand there in m: so many bytes, so many lines
--   Printing ls from j old m at         those from number `from` to number j stand there, in `at` bytes, and the rest is still to come
use Rattle.std.specs.Prelude.{ℕ, ◌+◌, ◌-◌, ◌≤◌, ◌≡◌, List, ◌++◌, length, drop}
use Rattle.putting.specs.Lines.{bytes_of}
use Rattle.sheet.specs.Asked.{fitted}

pub record Run (ls : List (List ℕ)) (bytes lines : ℕ) (old m : List ℕ) : Type 0 where
  pub counted : lines ≡ length (fitted (length old) ls)
  pub used : bytes ≡ length (bytes_of (fitted (length old) ls))
  pub stored : m ≡ bytes_of (fitted (length old) ls) ++ drop bytes old

pub record Printing (ls : List (List ℕ)) (from j : ℕ) (old m : List ℕ) (at : ℕ) : Type 0 where
  pub done : List (List ℕ)
  pub counted : length done + from ≡ j
  pub used : at ≡ length (bytes_of done)
  pub fits : at ≤ length old
  pub rest : done ++ fitted (length old - at) (drop j ls) ≡ fitted (length old) (drop from ls)
  pub stored : m ≡ bytes_of done ++ drop at old
