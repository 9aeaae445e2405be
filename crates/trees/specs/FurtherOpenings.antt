-- Further samples, of our own: openings. Both sides of every limit, and every kind of refused opening.
--
--   sizings          numbers with the bytes that they ask for, or 2
--   openings         openings with their refusals, 0 for none
--   good_openings     openings that are in order, and ones that are not
use Rattle.std.specs.Prelude.{ℕ, Bool, true, false, List, [], ◌∷◌, map, ◌≡◌, refl}
use Prim.Native.String.{String}
use Rattle.trees.specs.Plain.{bytes, Answer, refused, gives}
use Rattle.trees.specs.Names.{names_in}
use Rattle.trees.specs.Opening.{Numbers, Opening, sizing, opening}
use Rattle.trees.specs.Whole.{good_opening}

-- taxa, lanes, tree room, split room, places; lengths are not kept
abbrev of : ℕ → ℕ → ℕ → ℕ → ℕ → Numbers
of n l t s m = record { taxa = n; lanes = l; tree_room = t; split_room = s; places = m; kept = 0 }

-- the same, but for whether lengths are kept
abbrev kept : ℕ → Numbers → Numbers
kept k x = record { taxa = x.taxa; lanes = x.lanes; tree_room = x.tree_room; split_room = x.split_room; places = x.places; kept = k }

-- 4096 + 4616 a lane + 128 a tree + 24 a split + 2 a place; 512 a tree more where lengths are kept
unfoldable pub sizings : List (String × Numbers × Answer ℕ)
sizings =
    ("the least", of 4 1 1 1 1, gives 8866)
    ∷ ("three taxa", of 3 1 1 1 1, refused 2)
    ∷ ("64 taxa", of 64 1 1 1 1, gives 8866)
    ∷ ("65 taxa", of 65 1 1 1 1, refused 2)
    ∷ ("no lanes", of 4 0 1 1 1, refused 2)
    ∷ ("eight lanes", of 4 8 1 1 1, gives 41178)
    ∷ ("nine lanes", of 4 9 1 1 1, refused 2)
    ∷ ("no tree room", of 4 1 0 1 1, refused 2)
    ∷ ("room for 1,024 trees", of 4 1 1024 1 1, gives 139810)
    ∷ ("room for 1,025 trees", of 4 1 1025 1 1, refused 2)
    ∷ ("no split room", of 4 1 1 0 0, refused 2)
    ∷ ("room for 4,096 splits", of 4 1 1 4096 1, gives 107146)
    ∷ ("room for 4,097 splits", of 4 1 1 4097 1, refused 2)
    ∷ ("no places", of 4 1 1 1 0, refused 2)
    ∷ ("two places a split", of 4 1 1 3 6, gives 8924)
    ∷ ("a place more", of 4 1 1 3 7, refused 2)
    ∷ ("lengths are kept", kept 1 (of 4 1 1 1 1), gives 9378)
    ∷ ("lengths of 1,024 trees are kept", kept 1 (of 4 1 1024 1 1), gives 664098)
    ∷ []

pub sizings-hold : map (λ r. sizing r.1) sizings ≡ map (λ r. r.2) sizings
unfolding sizings sizing
sizings-hold = refl

-- ---- openings

abbrev small : Numbers
small = of 4 2 1 1 2

abbrev first4 : List ℕ
first4 = 0 ∷ 1 ∷ 1 ∷ 0 ∷ []

abbrev second4 : List ℕ
second4 = 5 ∷ 6 ∷ 7 ∷ 18446744073709551615 ∷ []

-- the number of a refusal, and 0 for none
unfoldable pub refusal_of : {A : Type 0} → Answer A → ℕ
refusal_of (refused k) = k
refusal_of (gives a) = 0

-- `small` takes 4096 + 2 · 4616 + 128 + 24 + 2 · 2 bytes, 13,484; with lengths 512 more
unfoldable pub openings : List (String × Answer Opening × ℕ)
unfolding opening bytes
openings =
    ("accepted", opening small (bytes "A B C D") first4 second4 13484, 0)
    ∷ ("three taxa", opening (of 3 2 1 1 2) (bytes "A B C") (0 ∷ 1 ∷ 1 ∷ []) (5 ∷ 6 ∷ 7 ∷ []) 13484, 2)
    ∷ ("a first constant that is no place", opening small (bytes "A B C D") (0 ∷ 1 ∷ 2 ∷ 0 ∷ []) second4 13484, 2)
    ∷ ("a second constant of 65 bits", opening small (bytes "A B C D") first4 (5 ∷ 6 ∷ 7 ∷ 18446744073709551616 ∷ []) 13484, 2)
    ∷ ("a first list that is too short", opening small (bytes "A B C D") (0 ∷ 1 ∷ 1 ∷ []) second4 13484, 2)
    ∷ ("a first list that is too long", opening small (bytes "A B C D") (0 ∷ 1 ∷ 1 ∷ 0 ∷ 0 ∷ []) second4 13484, 2)
    ∷ ("a second list that is too short", opening small (bytes "A B C D") first4 (5 ∷ 6 ∷ 7 ∷ []) 13484, 2)
    ∷ ("a second list that is too long", opening small (bytes "A B C D") first4 (5 ∷ 6 ∷ 7 ∷ 8 ∷ 9 ∷ []) 13484, 2)
    ∷ ("bad constants before bad names", opening small (bytes "A A C D") (0 ∷ 1 ∷ 2 ∷ 0 ∷ []) second4 13484, 2)
    ∷ ("two spaces", opening small (bytes "A  B C") first4 second4 13484, 3)
    ∷ ("a space at the end", opening small (bytes "A B C ") first4 second4 13484, 3)
    ∷ ("a name twice", opening small (bytes "A B C B") first4 second4 13484, 3)
    ∷ ("a name too many", opening small (bytes "A B C D E") first4 second4 13484, 3)
    ∷ ("a name too few", opening small (bytes "A B C") first4 second4 13484, 3)
    ∷ ("quoted names", opening small (bytes "'L. lactis' 'a_b' 'it''s' ';'") first4 second4 13484, 0)
    ∷ ("names that differ before reading and not after", opening small (bytes "'L. lactis' L._lactis C D") first4 second4 13484, 3)
    ∷ ("a name quoted and not", opening small (bytes "A 'A' C D") first4 second4 13484, 3)
    ∷ ("an empty quoted name", opening small (bytes "A B C ''") first4 second4 13484, 3)
    ∷ ("a byte behind a quoted name", opening small (bytes "A B C 'D'E") first4 second4 13484, 3)
    ∷ ("a quote behind a name", opening small (bytes "A B C D'E'") first4 second4 13484, 3)
    ∷ ("a quoted name that does not end", opening small (bytes "A B C 'D") first4 second4 13484, 3)
    ∷ ("a tab in a quoted name", opening small (bytes "A B C 'D\t'") first4 second4 13484, 3)
    ∷ ("a quoted name that reads as 32 bytes", opening small (bytes "A B C 'abcdefghij abcdefghij abcdefghi'''") first4 second4 13484, 0)
    ∷ ("a quoted name that reads as 33 bytes", opening small (bytes "A B C 'abcdefghij abcdefghij abcdefghij'''") first4 second4 13484, 3)
    ∷ ("a name of 32 bytes", opening small (bytes "A B C abcdefghijabcdefghijabcdefghijab") first4 second4 13484, 0)
    ∷ ("a name of 33 bytes", opening small (bytes "A B C abcdefghijabcdefghijabcdefghijabc") first4 second4 13484, 3)
    ∷ ("bad names before too little memory", opening small (bytes "A B C:1 D") first4 second4 0, 3)
    ∷ ("a byte too little", opening small (bytes "A B C D") first4 second4 13483, 4)
    ∷ ("lengths are kept", opening (kept 1 small) (bytes "A B C D") first4 second4 13996, 0)
    ∷ ("a byte too little for lengths", opening (kept 1 small) (bytes "A B C D") first4 second4 13995, 4)
    ∷ []

pub openings-hold : map (λ r. refusal_of r.1) openings ≡ map (λ r. r.2) openings
unfolding openings refusal_of
openings-hold = refl

-- ---- what an accepted opening fixes

abbrev fixed : Numbers → String → List ℕ → List ℕ → Opening
fixed x ns first second = record { numbers = x; names = names_in (bytes ns); first = first; second = second }

pub accepted-fixes : opening small (bytes "A B C D") first4 second4 13484 ≡ gives (fixed small "A B C D" first4 second4)
unfolding opening bytes
accepted-fixes = refl

-- names are those that are read
pub names-read : names_in (bytes "L._lactis 'a_b c' 'it''s'") ≡ bytes "L. lactis" ∷ bytes "a_b c" ∷ bytes "it's" ∷ []
unfolding names_in bytes
names-read = refl

unfoldable pub good_openings : List (String × Opening × Bool)
unfolding names_in bytes
good_openings =
    ("in order", fixed small "A B C D" first4 second4, true)
    ∷ ("lengths are kept", fixed (kept 1 small) "A B C D" first4 second4, true)
    ∷ ("lengths are neither kept nor not", fixed (kept 2 small) "A B C D" first4 second4, false)
    ∷ ("a number out of range", fixed (of 4 9 1 1 2) "A B C D" first4 second4, false)
    ∷ ("a constant out of range", fixed small "A B C D" (0 ∷ 1 ∷ 2 ∷ 0 ∷ []) second4, false)
    ∷ ("a name twice", fixed small "A B C B" first4 second4, false)
    ∷ []

pub good-openings-hold : map (λ r. good_opening r.1) good_openings ≡ map (λ r. r.2) good_openings
unfolding good_openings good_opening
good-openings-hold = refl
