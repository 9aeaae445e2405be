-- What a file's records are read as.
--
--   counts_of rs           the counts of the records rs
--   splits_read rs a b     what they are read as, into buffers of a masks and b counts; 4 where either is too short
use Rattle.std.specs.Prelude.{ℕ, ◌||◌, List, map, length, nat_lt, if◌then◌else◌}
use Rattle.trees.specs.Plain.{Answer, refused, gives}
use Rattle.trees.specs.SplitFile.{Record, trees_of, masks_of}
use Rattle.trees.specs.SplitFileCall.{Splits}

abbrev pub counts_of : List Record → List ℕ
counts_of rs = map (λ r. r.count) rs

-- "4 last"
abbrev pub splits_read : List Record → ℕ → ℕ → Answer Splits
splits_read rs a b =
    if nat_lt a (length rs) || nat_lt b (length rs) then refused 4
    else gives (record { trees = trees_of rs; masks = masks_of rs; counts = counts_of rs })
