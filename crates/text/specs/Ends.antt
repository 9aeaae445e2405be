-- Where the texts of a piece end.
--
--   block_bytes      how many bytes are looked at together: few enough to be counted in a byte
use Rattle.std.specs.Prelude.{ℕ}

abbrev pub block_bytes : ℕ
block_bytes = 64
