-- The records of a file at their places among its bytes.
--
--   mask_in f i, count_in f i, trees_in f i     the mask, the count and the number of trees of record i of the bytes f
--   record_in f i          record i
--   put_record s i r       the bytes s with r as their record i
--   with_records rs s      the bytes s with the records rs at their front
use Rattle.std.specs.Prelude.{ℕ, ◌+◌, ◌*◌, List, ◌++◌, length, drop}
use Rattle.trees.specs.SplitFile.{Record, record_bytes, bytes_of}
use Rattle.fields.specs.Field.{number, put}

-- "mask (8, little-endian), count (4), trees (4, the same in all)"
abbrev pub mask_in : List ℕ → ℕ → ℕ
mask_in f i = number 8 f (record_bytes * i)

abbrev pub count_in : List ℕ → ℕ → ℕ
count_in f i = number 4 f (record_bytes * i + 8)

abbrev pub trees_in : List ℕ → ℕ → ℕ
trees_in f i = number 4 f (record_bytes * i + 12)

abbrev pub record_in : List ℕ → ℕ → Record
record_in f i = record { mask = mask_in f i; count = count_in f i; trees = trees_in f i }

unfoldable pub put_record : List ℕ → ℕ → Record → List ℕ
unfolding put
put_record s i r = put 4 (put 4 (put 8 s (record_bytes * i) r.mask) (record_bytes * i + 8) r.count) (record_bytes * i + 12) r.trees

abbrev pub with_records : List Record → List ℕ → List ℕ
with_records rs s = bytes_of rs ++ drop (record_bytes * length rs) s
