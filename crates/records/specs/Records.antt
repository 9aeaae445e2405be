-- A tree's splits with their places and identifiers: records of words, one behind the other.
--   wide                the words of a record
--   most_words           the words of 64 records, which no tree's splits exceed
--   record_of o m        the record of the mask m over the opening o: m, its place, its identifier
--   records_of o l       the records of the masks l over the opening o
--   with_records o l s   the words s with the records of the masks l at their front
--   masks_of k s         the masks of the first k records of the words s: each is the first word of its record
--   put_in j v l         the list l with the words v at place j
use Rattle.std.specs.Prelude.{ℕ, zero, suc, ◌*◌, List, [], ◌∷◌, ◌++◌, length, get_or, take, drop}
use Rattle.trees.specs.Hash.{place, identifier}
use Rattle.trees.specs.Opening.{Opening}

abbrev pub wide : ℕ
wide = 3

abbrev pub most_words : ℕ
most_words = 192

abbrev pub record_of : Opening → ℕ → List ℕ
record_of o m = m ∷ place o.first o.numbers.places m ∷ identifier o.second m ∷ []

unfoldable pub records_of : Opening → List ℕ → List ℕ
records_of o [] = []
records_of o (m ∷ l) = record_of o m ++ records_of o l

abbrev pub with_records : Opening → List ℕ → List ℕ → List ℕ
with_records o l s = records_of o l ++ drop (wide * length l) s

unfoldable pub masks_of : ℕ → List ℕ → List ℕ
masks_of zero s = []
masks_of (suc k) s = get_or s 0 0 ∷ masks_of k (drop wide s)

-- what stands before j stays, what stands from j on moves up
unfoldable pub put_in : {A : Type 0} → ℕ → List A → List A → List A
put_in j v l = take j l ++ (v ++ drop j l)
