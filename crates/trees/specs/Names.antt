-- Taxon names.
--
--   taxon_of ns w      the taxon that the label w names, or nothing
--   names_in s         the names of a name list: what the parts of s between its spaces read as
--   name_count s       how many they are: one more than its spaces outside quotes
--   is_name w          a name, as it is read: 1 to 32 bytes
--   different ws      no name comes twice
--   good_names n ns    n different names
use Rattle.std.specs.Prelude.{ℕ, suc, Bool, true, false, ◌&&◌, not, List, [], ◌∷◌, map, leb, eqb, length, if◌then◌else◌}
use Rattle.std.proofs.Math.Option.{Option, none, some}
use Rattle.trees.specs.Plain.{every, same_bytes, in_names, byte}
use Rattle.trees.specs.Text.{is_quoted_byte, parts, is_label, read_as}

-- the place of w in the names, of which the first is taxon k
unfoldable pub taxon_from : ℕ → List (List ℕ) → List ℕ → Option ℕ
unfolding same_bytes
taxon_from k [] w = none
taxon_from k (v ∷ vs) w = if same_bytes v w then some k else taxon_from (suc k) vs w

-- "Leaf labels match names by equal bytes", as both are read; "Taxa are numbered from 0 in list order"
unfoldable pub taxon_of : List (List ℕ) → List ℕ → Option ℕ
unfolding taxon_from read_as
taxon_of ns w = taxon_from 0 ns (read_as w)

-- what is no label has no name: no bytes
unfoldable pub name_of : List ℕ → List ℕ
unfolding is_label read_as
name_of w = if is_label w then read_as w else []

-- "n names, one space between, none at the ends": a space at an end or a double one leaves a part of no bytes
unfoldable pub names_in : List ℕ → List (List ℕ)
unfolding parts name_of
names_in s = map name_of (parts (byte " ") false s)

-- "the names are counted as spaces plus one", by "quoted names, whose spaces neither part names nor are counted"
unfoldable pub name_count : List ℕ → ℕ
unfolding parts
name_count line = length (parts (byte " ") false line)

-- "bytes of a taxon name", the most
abbrev pub most_name : ℕ
most_name = 32

-- "lengths count after reading"
unfoldable pub is_name : List ℕ → Bool
unfolding every is_quoted_byte
is_name w = leb 1 (length w) && (leb (length w) most_name && every is_quoted_byte w)

unfoldable pub different : List (List ℕ) → Bool
unfolding in_names
different [] = true
different (w ∷ ws) = not (in_names w ws) && different ws

-- "two names equal then, or an empty one, are 3"
unfoldable pub good_names : ℕ → List (List ℕ) → Bool
unfolding every is_name different
good_names n ns = eqb (length ns) n && (every is_name ns && different ns)
