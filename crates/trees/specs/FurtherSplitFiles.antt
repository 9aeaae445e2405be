-- Further samples, of our own: split files.
--
--   bytes-hold        records in bytes, and back
--   files-read        files that are well formed, and each kind of file that is not
--   written-hold      the file of a collection, and what a file reads as
--   merges-hold       two files merged
--   chosen-hold       the strict and the majority tree of a file
use Rattle.std.specs.Prelude.{ℕ, ◌^◌, List, [], ◌∷◌, map, ◌≡◌, refl, take}
use Rattle.trees.specs.Plain.{bytes, Answer, refused, gives}
use Rattle.trees.specs.Names.{names_in}
use Rattle.trees.specs.Held.{Held}
use Rattle.trees.specs.SplitFile.{Record, bytes_of, records_in, splits_of, merged}
use Rattle.trees.specs.SplitFileCall.{records_from, file_of, reading_of, merging_of, strict_file_of, majority_file_of}
use Rattle.trees.specs.FurtherWithdrawals.{holding_trees}

abbrev r : ℕ → ℕ → ℕ → Record
r m c t = record { mask = m; count = c; trees = t }

-- ---- bytes

pub bytes-hold :
    (bytes_of (r 258 3 65536 ∷ r (2 ^ 63) 4294967295 4294967295 ∷ [])
    ≡ 2 ∷ 1 ∷ 0 ∷ 0 ∷ 0 ∷ 0 ∷ 0 ∷ 0 ∷ 3 ∷ 0 ∷ 0 ∷ 0 ∷ 0 ∷ 0 ∷ 1 ∷ 0 ∷ 0 ∷ 0 ∷ 0 ∷ 0 ∷ 0 ∷ 0 ∷ 0 ∷ 128 ∷ 255 ∷ 255 ∷ 255 ∷ 255 ∷ 255 ∷ 255 ∷ 255 ∷ 255 ∷ [])
    × (records_in 2 (bytes_of (r 258 3 65536 ∷ r (2 ^ 63) 4294967295 4294967295 ∷ [])) ≡ r 258 3 65536 ∷ r (2 ^ 63) 4294967295 4294967295 ∷ [])
unfolding bytes_of records_in
bytes-hold = (refl, refl)

-- ---- reading

-- over 5 taxa
unfoldable pub files : List (List Record × Answer (List Record))
files =
    ([], gives [])
    ∷ (r 6 1 1 ∷ [], gives (r 6 1 1 ∷ []))
    ∷ (r 20 1 2 ∷ r 24 1 2 ∷ r 28 2 2 ∷ [], gives (r 20 1 2 ∷ r 24 1 2 ∷ r 28 2 2 ∷ []))
    ∷ (r 6 4294967295 4294967295 ∷ [], gives (r 6 4294967295 4294967295 ∷ []))
    ∷ (r 7 1 1 ∷ [], refused 20)
    ∷ (r 2 1 1 ∷ [], refused 20)
    ∷ (r 30 1 1 ∷ [], refused 20)
    ∷ (r 38 1 1 ∷ [], refused 20)
    ∷ (r 6 0 1 ∷ [], refused 20)
    ∷ (r 6 0 0 ∷ [], refused 20)
    ∷ (r 6 2 1 ∷ [], refused 20)
    ∷ (r 20 1 2 ∷ r 24 1 3 ∷ [], refused 20)
    ∷ (r 20 1 2 ∷ r 24 1 2 ∷ r 28 1 1 ∷ [], refused 20)
    ∷ (r 24 1 2 ∷ r 24 1 2 ∷ [], refused 20)
    ∷ (r 20 1 2 ∷ r 28 1 2 ∷ r 24 1 2 ∷ [], refused 20)
    ∷ []

pub files-read :
    (map (λ x. records_from 5 (bytes_of x.0)) files ≡ map (λ x. x.1) files)
    × (records_from 5 (take 15 (bytes_of (r 6 1 1 ∷ []))) ≡ refused 19)
    × (records_from 5 (take 24 (bytes_of (r 6 1 1 ∷ r 10 1 1 ∷ []))) ≡ refused 19)
    × (records_from 5 (7 ∷ bytes_of (r 7 0 0 ∷ [])) ≡ refused 19)
unfolding files records_from bytes_of
files-read = (refl, refl, refl, refl)

-- ---- a collection's file

abbrev held : Held
held = holding_trees ((24 ∷ 28 ∷ []) ∷ (20 ∷ 28 ∷ []) ∷ []) ([] ∷ [] ∷ [])

abbrev file : List ℕ
file = bytes_of (r 20 1 2 ∷ r 24 1 2 ∷ r 28 2 2 ∷ [])

pub written-hold :
    (splits_of held.trees ≡ r 20 1 2 ∷ r 24 1 2 ∷ r 28 2 2 ∷ [])
    × (file_of held 48 ≡ gives file)
    × (file_of held 47 ≡ refused 4)
    × (file_of (holding_trees ([] ∷ []) ([] ∷ [])) 0 ≡ gives [])
    × (reading_of held file 3 3 ≡ gives (record { trees = 2; masks = 20 ∷ 24 ∷ 28 ∷ []; counts = 1 ∷ 1 ∷ 2 ∷ [] }))
    × (reading_of held file 2 3 ≡ refused 4)
    × (reading_of held file 3 2 ≡ refused 4)
    × (reading_of held [] 0 0 ≡ gives (record { trees = 0; masks = []; counts = [] }))
    × (reading_of held (bytes_of (r 7 1 1 ∷ [])) 0 0 ≡ refused 20)
unfolding splits_of file_of reading_of bytes_of
written-hold = (refl, refl, refl, refl, refl, refl, refl, refl, refl)

-- ---- two files

abbrev short : List ℕ
short = take 15 (bytes_of (r 6 1 1 ∷ []))

abbrev bad : List ℕ
bad = bytes_of (r 6 2 1 ∷ [])

pub merges-hold :
    (merged (r 20 1 2 ∷ r 28 2 2 ∷ []) (r 6 3 3 ∷ r 28 1 3 ∷ []) ≡ r 6 3 5 ∷ r 20 1 5 ∷ r 28 3 5 ∷ [])
    × (merging_of held (bytes_of (r 20 1 2 ∷ r 28 2 2 ∷ [])) (bytes_of (r 6 3 3 ∷ r 28 1 3 ∷ [])) 48
    ≡ gives (bytes_of (r 6 3 5 ∷ r 20 1 5 ∷ r 28 3 5 ∷ [])))
    × (merging_of held (bytes_of (r 20 1 2 ∷ r 28 2 2 ∷ [])) (bytes_of (r 6 3 3 ∷ r 28 1 3 ∷ [])) 47 ≡ refused 4)
    × (merging_of held (bytes_of (r 6 1 4294967294 ∷ [])) (bytes_of (r 6 1 1 ∷ [])) 16 ≡ gives (bytes_of (r 6 2 4294967295 ∷ [])))
    × (merging_of held (bytes_of (r 6 1 4294967295 ∷ [])) (bytes_of (r 6 1 1 ∷ [])) 0 ≡ refused 22)
    × (merging_of held [] file 0 ≡ refused 21)
    × (merging_of held file [] 0 ≡ refused 21)
    × (merging_of held [] bad 0 ≡ refused 20)
    × (merging_of held short bad 0 ≡ refused 19)
    × (merging_of held bad short 0 ≡ refused 20)
    × (merging_of held file short 0 ≡ refused 19)
unfolding merged merging_of bytes_of
merges-hold = (refl, refl, refl, refl, refl, refl, refl, refl, refl, refl, refl)

-- ---- the trees of a file

pub chosen-hold :
    (strict_file_of held file 14 ≡ gives (bytes "(A,B,(C,D,E));"))
    × (majority_file_of held file 14 ≡ gives (bytes "(A,B,(C,D,E));"))
    × (majority_file_of held file 13 ≡ refused 4)
    × (majority_file_of held (bytes_of (r 20 1 3 ∷ r 24 2 3 ∷ r 28 2 3 ∷ [])) 16 ≡ gives (bytes "(A,B,(C,(D,E)));"))
    × (strict_file_of held (bytes_of (r 20 1 3 ∷ r 24 2 3 ∷ r 28 2 3 ∷ [])) 12 ≡ gives (bytes "(A,B,C,D,E);"))
    × (majority_file_of held (bytes_of (r 20 2 4 ∷ r 24 2 4 ∷ [])) 12 ≡ gives (bytes "(A,B,C,D,E);"))
    × (majority_file_of held (bytes_of (r 20 2 3 ∷ r 24 2 3 ∷ [])) 0 ≡ refused 23)
    × (strict_file_of held (bytes_of (r 20 3 3 ∷ r 24 3 3 ∷ [])) 0 ≡ refused 23)
    × (strict_file_of held [] 0 ≡ refused 14)
    × (majority_file_of held [] 0 ≡ refused 14)
    × (majority_file_of held bad 0 ≡ refused 20)
    × (strict_file_of held short 0 ≡ refused 19)
unfolding strict_file_of majority_file_of bytes_of names_in bytes
chosen-hold = (refl, refl, refl, refl, refl, refl, refl, refl, refl, refl, refl, refl)
