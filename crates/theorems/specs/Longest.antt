-- A collection whose trees are written in 4,349 bytes: 64 names of 32 bytes, of which one is all apostrophes and the others are but for one
-- byte, and one tree that has as many splits as there can be.
--
--   long_name i, long_names      the name of taxon i; all 64
--   listed ws                  the name list of the names ws
--   comb_splits k               the k least splits {i, .., 63} of the tree (A,B,(C,(D, .. )))
--   long_numbers, long_opening   what the collection is opened with
--   long_text                   the text of its tree
--   longest                    the collection that was opened with these and fed with the text
use Rattle.std.specs.Prelude.{ℕ, zero, suc, ◌+◌, ◌-◌, ◌^◌, List, [], ◌∷◌, ◌++◌, replicate}
use Rattle.trees.specs.Plain.{byte}
use Rattle.trees.specs.Text.{apostrophe}
use Rattle.trees.specs.Written.{written_name, written}
use Rattle.trees.specs.Opening.{Numbers, Opening}
use Rattle.trees.specs.Held.{Held, opened, feeding}

-- a byte by the taxon's number, of taxon 6 the apostrophe, and 31 apostrophes
unfoldable pub long_name : ℕ → List ℕ
long_name i = (33 + i) ∷ replicate 31 apostrophe

-- the names of the taxa below i, before the names l
unfoldable pub names_before : ℕ → List (List ℕ) → List (List ℕ)
unfolding long_name
names_before zero l = l
names_before (suc i) l = names_before i (long_name i ∷ l)

unfoldable pub long_names : List (List ℕ)
unfolding names_before
long_names = names_before 64 []

-- labels that read as the names, with one space between, as an opening takes them
unfoldable pub listed : List (List ℕ) → List ℕ
unfolding written_name
listed [] = []
listed (w ∷ []) = written_name w
listed (w ∷ v ∷ ws) = written_name w ++ byte " " ∷ listed (v ∷ ws)

-- the taxa i to 63 are 2^64 - 2^i
unfoldable pub comb_splits : ℕ → List ℕ
comb_splits zero = []
comb_splits (suc k) = (2 ^ 64 - 2 ^ (k + 2)) ∷ comb_splits k

unfoldable pub long_numbers : Numbers
long_numbers = record { taxa = 64; lanes = 1; tree_room = 1; split_room = 61; places = 1; kept = 0 }

unfoldable pub long_opening : Opening
unfolding long_numbers long_names
long_opening = record { numbers = long_numbers; names = long_names; first = replicate 64 0; second = replicate 64 0 }

unfoldable pub long_text : List ℕ
unfolding written long_names comb_splits
long_text = written long_names (comb_splits 61)

unfoldable pub longest : Held
unfolding feeding opened long_opening long_text
longest = (feeding (opened long_opening) 0 long_text).after
