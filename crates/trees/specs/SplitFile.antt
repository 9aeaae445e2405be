-- Split files: the splits of some trees, each with its count, without the trees.
--
--   low_first k x          the number x in k bytes, the lowest first
--   number_of bs           the number that the bytes bs hold, the lowest first
--   Record                a record: a mask, how many trees have it, and how many trees there are
--   record_bytes           how many bytes a record takes
--   bytes_of rs            the bytes of the records rs, one behind the other
--   records_in k f         the first k records of the bytes f
--   trees_of rs            how many trees the records rs are of; 0 where there is no record
--   masks_of rs            their masks
--   proper_record n t r    r is a record of n taxa and t trees
--   well_formed n rs       the records rs are those of a file over n taxa
--   splits_of ts           the records of the trees ts
--   count_for m rs         the count of the mask m in rs; 0 where there is none
--   merged a b            the records of two files together
--   fits rs               no count and no number of trees passes 32 bits
--   strict_in, majority_in  the masks of rs that are strict, and those that are in the majority
use Rattle.std.specs.Prelude.{ℕ, zero, suc, ◌+◌, ◌*◌, ◌/◌, ◌%◌, ◌^◌, Bool, ◌&&◌, List, [], ◌∷◌, ◌++◌, map, leb, ltb, eqb, length, take, drop, if◌then◌else◌}
use Rattle.trees.specs.Plain.{every, keep}
use Rattle.trees.specs.Mask.{proper}
use Rattle.trees.specs.Consensus.{recorded, count, insert_all}
use Rattle.trees.specs.Whole.{rising}

-- ---- bytes

-- "little-endian"
unfoldable pub low_first : ℕ → ℕ → List ℕ
low_first zero x = []
low_first (suc k) x = x % 256 ∷ low_first k (x / 256)

unfoldable pub number_of : List ℕ → ℕ
number_of [] = 0
number_of (b ∷ bs) = b + 256 * number_of bs

pub record Record : Type 0 where
  pub mask : ℕ
  pub count : ℕ
  pub trees : ℕ

-- "files of 16-byte records"
abbrev pub record_bytes : ℕ
record_bytes = 16

-- "no header: mask (8, little-endian), count (4), trees (4, the same in all)"
unfoldable pub bytes_of : List Record → List ℕ
unfolding low_first
bytes_of [] = []
bytes_of (r ∷ rs) = low_first 8 r.mask ++ low_first 4 r.count ++ low_first 4 r.trees ++ bytes_of rs

unfoldable pub records_in : ℕ → List ℕ → List Record
unfolding number_of
records_in zero f = []
records_in (suc k) f =
    record { mask = number_of (take 8 f); count = number_of (take 4 (drop 8 f)); trees = number_of (take 4 (drop 12 f)) } ∷ records_in k (drop record_bytes f)

-- ---- what a file must be

-- "An empty file has no known number of trees"
unfoldable pub trees_of : List Record → ℕ
trees_of [] = 0
trees_of (r ∷ rs) = r.trees

unfoldable pub masks_of : List Record → List ℕ
masks_of rs = map (λ r. r.mask) rs

-- "counts are from 1 to the trees", and the trees "the same in all"
unfoldable pub proper_record : ℕ → ℕ → Record → Bool
unfolding proper
proper_record n t r = proper n r.mask && (leb 1 r.count && (leb r.count r.trees && eqb r.trees t))

-- "Masks rise"
unfoldable pub well_formed : ℕ → List Record → Bool
unfolding every proper_record trees_of rising masks_of
well_formed n rs = every (proper_record n (trees_of rs)) rs && rising (masks_of rs)

-- ---- the file of a collection

-- "The night job keeps only splits": a record for each recorded split
unfoldable pub splits_of : List (List ℕ) → List Record
unfolding recorded count
splits_of ts = map (λ m. record { mask = m; count = count ts m; trees = length ts }) (recorded ts)

-- ---- two files together

unfoldable pub count_for : ℕ → List Record → ℕ
count_for m [] = 0
count_for m (r ∷ rs) = if eqb m r.mask then r.count else count_for m rs

-- "merged by adding counts and trees"
unfoldable pub merged : List Record → List Record → List Record
unfolding count_for trees_of insert_all masks_of
merged a b = map (λ m. record { mask = m; count = count_for m a + count_for m b; trees = trees_of a + trees_of b }) (insert_all (masks_of a) (masks_of b))

-- "a sum past 32 bits"
unfoldable pub fits : List Record → Bool
unfolding every
fits rs = every (λ r. ltb r.count (2 ^ 32) && ltb r.trees (2 ^ 32)) rs

-- ---- consensus

-- "strict if all t trees have it"
unfoldable pub strict_in : List Record → List ℕ
unfolding masks_of keep
strict_in rs = masks_of (keep (λ r. eqb r.count r.trees) rs)

-- "majority if twice its count is more than t"
unfoldable pub majority_in : List Record → List ℕ
unfolding masks_of keep
majority_in rs = masks_of (keep (λ r. ltb r.trees (2 * r.count)) rs)
