-- Reading a NEXUS file: the grammar as a function, from left to right. It is proved to find exactly the files of the relation in Nexus
-- (crate `theorems`).
--
--   first_token s, behind_first s     the first token of s, behind blanks at most, and what stands behind it
--   two_tokens s           the two tokens that s is, or nothing
--   label_run s, behind_label s     the run of label bytes or of quotes at the front of s, and what stands behind it
--   read_pair s            the token and the label that s is, or nothing
--   ends_other c           the command c ends another block
--   read_pairs rs          the pairs that each of rs is, or nothing
--   read_line c            the text of the tree that the command c gives, or nothing
--   is_end c               the command c ends the TREES block
--   Place                 where a command may stand: outside the blocks, in another block, in the TREES block
--   Move                  what a command does there: it is wrong, leads to another place, lists pairs, or brings a text
--   moved q c             what the command c does at the place q
--   closes q e            what a file gives whose last bytes e stand at the place q
--   reads q cs            what the commands cs give, from the place q on; the last of cs is what stands behind the last semicolon
--   read_file f            what the file f gives, or nothing where it is malformed
use Rattle.std.specs.Prelude.{ℕ, Bool, true, false, ◌&&◌, ◌||◌, not, List, [], ◌∷◌, ◌++◌, leb, eqb, length, if◌then◌else◌}
use Rattle.std.proofs.Math.Option.{Option, none, some}
use Rattle.trees.specs.Plain.{every, byte}
use Rattle.trees.specs.Text.{semicolon, apostrophe, is_blank, is_label_byte, turned, parts, is_label}
use Rattle.trees.specs.Nexus.{run_of, behind_run, begins, uncommented, is_word, Pair, File, most_keys, is_name_byte}

-- ---- tokens

-- no bytes, where no token stands there
unfoldable pub first_token : List ℕ → List ℕ
unfolding run_of behind_run is_blank is_label_byte
first_token s = run_of is_label_byte (behind_run is_blank s)

unfoldable pub behind_first : List ℕ → List ℕ
unfolding behind_run is_blank is_label_byte
behind_first s = behind_run is_label_byte (behind_run is_blank s)

unfoldable pub two_tokens : List ℕ → Option Pair
unfolding first_token behind_first every is_blank
two_tokens s =
    if leb 1 (length (first_token s)) && (leb 1 (length (first_token (behind_first s))) && every is_blank (behind_first (behind_first s)))
    then some (first_token s, first_token (behind_first s))
    else none

-- the bytes of s up to the quote that closes, with it, and what stands behind: it is followed by no other
unfoldable pub quoted_run : Bool → List ℕ → List ℕ
unfolding turned
quoted_run q [] = []
quoted_run q (b ∷ s) = if q || eqb b apostrophe then b ∷ quoted_run (turned q b) s else []

unfoldable pub behind_quoted : Bool → List ℕ → List ℕ
unfolding turned
behind_quoted q [] = []
behind_quoted q (b ∷ s) = if q || eqb b apostrophe then behind_quoted (turned q b) s else b ∷ s

-- a run in quotes where one begins there, else a run of label bytes
unfoldable pub label_run : List ℕ → List ℕ
unfolding begins quoted_run run_of is_label_byte
label_run s = if begins (eqb apostrophe) s then quoted_run false s else run_of is_label_byte s

unfoldable pub behind_label : List ℕ → List ℕ
unfolding begins behind_quoted behind_run is_label_byte
behind_label s = if begins (eqb apostrophe) s then behind_quoted false s else behind_run is_label_byte s

-- s from a pair's name on: a label, and blanks
unfoldable pub read_name : List ℕ → Option (List ℕ)
unfolding label_run behind_label is_label every is_blank
read_name s = if is_label (label_run s) && every is_blank (behind_label s) then some (label_run s) else none

-- the key before its name
unfoldable pub with_key : List ℕ → Option (List ℕ) → Option Pair
with_key k none = none
with_key k (some n) = some (k, n)

unfoldable pub read_pair : List ℕ → Option Pair
unfolding first_token behind_first behind_run is_blank read_name with_key
read_pair s = if leb 1 (length (first_token s)) then with_key (first_token s) (read_name (behind_run is_blank (behind_first s))) else none

-- ---- commands

-- at the front of s stands the token END, and behind it blanks
unfoldable pub last_end : List ℕ → Bool
unfolding run_of behind_run is_label_byte is_word every is_blank
last_end s = is_word "END" (run_of is_label_byte s) && every is_blank (behind_run is_label_byte s)

-- `fresh`: no label byte stands before s, so that a token may begin
unfoldable pub ends_after : Bool → List ℕ → Bool
unfolding last_end is_label_byte
ends_after fresh [] = false
ends_after fresh (b ∷ s) = (fresh && last_end (b ∷ s)) || ends_after (not (is_label_byte b)) s

unfoldable pub ends_other : List ℕ → Bool
unfolding ends_after
ends_other c = ends_after true c

-- one pair more, before the others
unfoldable pub with_pair : Option Pair → Option (List Pair) → Option (List Pair)
with_pair none ps = none
with_pair (some p) none = none
with_pair (some p) (some ps) = some (p ∷ ps)

unfoldable pub read_pairs : List (List ℕ) → Option (List Pair)
unfolding read_pair with_pair
read_pairs [] = some []
read_pairs (r ∷ rs) = with_pair (read_pair r) (read_pairs rs)

-- behind the name of a tree: `=`, and then the text
unfoldable pub text_behind : List ℕ → Option (List ℕ)
text_behind [] = none
text_behind (b ∷ s) = if eqb b (byte "=") then some s else none

-- s from a tree's name on: the name has one byte or more
unfoldable pub name_and_text : List ℕ → Option (List ℕ)
unfolding begins behind_run is_name_byte is_blank text_behind
name_and_text s = if begins is_name_byte s then text_behind (behind_run is_blank (behind_run is_name_byte s)) else none

unfoldable pub read_line : List ℕ → Option (List ℕ)
unfolding first_token behind_first is_word name_and_text behind_run is_blank
read_line c = if is_word "TREE" (first_token c) then name_and_text (behind_run is_blank (behind_first c)) else none

unfoldable pub is_end : List ℕ → Bool
unfolding first_token behind_first is_word every is_blank
is_end c = is_word "END" (first_token c) && every is_blank (behind_first c)

-- ---- the file

-- outside the blocks, or in another block: whether the TREES block came before; in the TREES block: whether it has just begun
pub data Place : Type 0 where
  outside in_other in_trees : Bool → Place

pub data Move : Type 0 where
  wrong : Move
  to : Place → Move
  lists : List Pair → Move
  brings : List ℕ → Move

-- a block's name: "its one TREES block"
unfoldable pub block_begun : Bool → Option Pair → Move
unfolding is_word
block_begun came none = wrong
block_begun came (some p) =
    if is_word "BEGIN" p.0 then
    if is_word "TREES" p.1 then if came then wrong else to (in_trees true) else to (in_other came)
    else wrong

-- "A 65th key is malformed"
unfoldable pub listed : Option (List Pair) → Move
listed none = wrong
listed (some ps) = if leb (length ps) most_keys then lists ps else wrong

unfoldable pub line_given : Option (List ℕ) → Move
line_given none = wrong
line_given (some t) = brings t

unfoldable pub moved : Place → List ℕ → Move
unfolding two_tokens block_begun ends_other is_end is_word first_token behind_first parts read_pairs listed read_line line_given
moved (outside came) c = block_begun came (two_tokens c)
moved (in_other came) c = if ends_other c then to (outside came) else to (in_other came)
moved (in_trees fresh) c =
    if is_end c then to (outside true)
    else if fresh && is_word "TRANSLATE" (first_token c) then listed (read_pairs (parts (byte ",") false (behind_first c)))
    else line_given (read_line c)

-- the pairs ps before those of the file; the text t before its texts
unfoldable pub with_pairs : List Pair → Option File → Option File
with_pairs ps none = none
with_pairs ps (some x) = some (record { pairs = ps ++ x.pairs; texts = x.texts })

unfoldable pub with_text : List ℕ → Option File → Option File
with_text t none = none
with_text t (some x) = some (record { pairs = x.pairs; texts = t ∷ x.texts })

-- behind the last semicolon: the TREES block came, and blanks
unfoldable pub closes : Place → List ℕ → Option File
unfolding every is_blank
closes (outside came) e = if came && every is_blank e then some (record { pairs = []; texts = [] }) else none
closes (in_other came) e = none
closes (in_trees fresh) e = none

-- behind a command: what `on` reads from the place on to which it leads
unfoldable pub reads_on : Move → (Place → Option File) → Option File
unfolding with_pairs with_text
reads_on wrong on = none
reads_on (to q) on = on q
reads_on (lists ps) on = with_pairs ps (on (in_trees false))
reads_on (brings t) on = with_text t (on (in_trees false))

unfoldable pub reads : Place → List (List ℕ) → Option File
unfolding moved reads_on closes
reads q [] = none
reads q (c ∷ []) = closes q c
reads q (c ∷ d ∷ cs) = reads_on (moved q c) (λ p. reads p (d ∷ cs))

-- "Read `#NEXUS`"
unfoldable pub read_file : List ℕ → Option File
unfolding first_token behind_first uncommented is_word parts reads
read_file f =
    if is_word "#NEXUS" (first_token (uncommented false f)) then
    reads (outside false) (parts semicolon false (behind_first (uncommented false f)))
    else none
