-- What the readers answer, in terms of the definitions: a place in a text stands for the symbols from there on.
--
--   kind_no k           a number for each kind of byte
--   kind_at s i         the number of the kind of the byte at place i, or 8 behind the text
--   NoBlank s i        no blank stands at place i
--   has_byte s i b      the byte b stands at place i
--   has_label_byte s i   a label byte stands there
--   has_quoted_byte s i q    a byte of a label in quotes does; q: whether they are open there
--   symbols_at s i      the symbols of s from place i on
--   Skipped, RunEnd    the ends of a run of blanks, of label bytes
--   QuotedEnd, LabelEnd    the ends of a label in quotes, of any label; the end is past the text where what stands there is no label
--   DigitsEnd          the end of a run of digits
--   NumberBehind       a length behind a colon
--   DecimalBehind      one that ends before the text and with no blank behind it, or nothing said
--   Parted s i r       no symbol of s from i on reaches over r
--   Unmeasured         a node, by its length
--   Behind F, ClosingBehind     what may follow some nodes, read from i up to r, and the length in it; r is past the text where it is a fault
use Rattle.std.specs.Prelude.{ℕ, ◌+◌, ◌≤◌, ◌<◌, ◌≡◌, Bool, true, false, ◌&&◌, ◌||◌, List, ◌∷◌, eqb, ltb, length, get_or, drop, if◌then◌else◌}
use Rattle.std.proofs.Math.Option.{Option, none, some}
use Rattle.std.proofs.Math.Seq.{slice}
use Rattle.trees.specs.Text.{Symbol, Kind, blank, label, mark, kind, apostrophe, is_label_byte, is_quoted_byte, open_after, is_label, open_bracket, close_bracket, comma, colon, stray, token, symbols}
use Rattle.trees.specs.Length.{is_digit}
use Rattle.trees.specs.Tree.{Nodes, nil, inner, width}
use Rattle.trees.specs.Reading.{Read, read_length, read_closing}
use Rattle.trees.specs.NexusReading.{quoted_run, behind_quoted}

abbrev pub kind_no : Kind → ℕ
kind_no blank = 0
kind_no label = 1
kind_no (mark open_bracket) = 2
kind_no (mark close_bracket) = 3
kind_no (mark comma) = 4
kind_no (mark colon) = 5
kind_no (mark stray) = 6
kind_no (mark (token w)) = 7

unfoldable pub kind_at : List ℕ → ℕ → ℕ
unfolding kind
kind_at s i = if ltb i (length s) then kind_no (kind (get_or s i 0)) else 8

abbrev pub NoBlank : List ℕ → ℕ → Type 0
NoBlank s i = kind_at s i ≡ 0 → ⊥

unfoldable pub has_byte : List ℕ → ℕ → ℕ → Bool
has_byte s i b = if ltb i (length s) then eqb (get_or s i 0) b else false

unfoldable pub has_label_byte : List ℕ → ℕ → Bool
unfolding is_label_byte
has_label_byte s i = if ltb i (length s) then is_label_byte (get_or s i 0) else false

unfoldable pub has_quoted_byte : List ℕ → ℕ → Bool → Bool
unfolding is_quoted_byte
has_quoted_byte s i q = if ltb i (length s) then eqb (get_or s i 0) apostrophe || (q && is_quoted_byte (get_or s i 0)) else false

abbrev pub symbols_at : List ℕ → ℕ → List Symbol
symbols_at s i = symbols (drop i s)

-- r is the first place from i on where no blank stands
pub record Skipped (s : List ℕ) (i r : ℕ) : Type 0 where
  pub past : i ≤ r
  pub within : r ≤ length s
  pub tokens : symbols_at s i ≡ symbols_at s r
  pub each : (j : ℕ) → i ≤ j → j < r → kind_at s j ≡ 0
  pub stop : NoBlank s r

-- r is the first place from i on where no label byte stands
pub record RunEnd (s : List ℕ) (i r : ℕ) : Type 0 where
  pub past : i ≤ r
  pub within : r ≤ length s
  pub each : (j : ℕ) → i ≤ j → j < r → is_label_byte (get_or s j 0) ≡ true
  pub stop : r < length s → is_label_byte (get_or s r 0) ≡ false

-- from the quote at i up to r stands a label; or what stands there up to the quote that closes is none
pub record QuotedEnd (s : List ℕ) (i r : ℕ) : Type 0 where
  pub good : r ≤ length s → (i < r) × (is_label (slice i r s) ≡ true) × (quoted_run false (drop i s) ≡ slice i r s) × (behind_quoted false (drop i s) ≡ drop r s)
  pub fault : length s < r → (r ≡ length s + 1) × (is_label (quoted_run false (drop i s)) ≡ false)

-- from i up to r stands a label; or none begins at i, which is r; or what begins there is none
pub record LabelEnd (s : List ℕ) (i r : ℕ) : Type 0 where
  pub past : i ≤ r
  pub good : i < r → r ≤ length s → (kind_at s i ≡ 1) × (is_label (slice i r s) ≡ true) × (symbols_at s i ≡ token (slice i r s) ∷ symbols_at s r) × (kind_at s r ≡ 1 → ⊥)
  pub absent : i ≡ r → kind_at s i ≡ 1 → ⊥
  pub fault : length s < r → (r ≡ length s + 1) × (kind_at s i ≡ 1) × (ss : List Symbol) × (symbols_at s i ≡ stray ∷ ss)

-- the bytes from i up to r are digits, and there are none where the byte before is not of the class 0, a digit
pub record DigitsEnd (s : List ℕ) (i k r : ℕ) : Type 0 where
  pub past : i ≤ r
  pub within : r ≤ length s
  pub each : (j : ℕ) → i ≤ j → j < r → (k ≡ 0) × (is_digit (get_or s j 0) ≡ true)

-- no quotes are open at r, and no run goes on there
pub record Parted (s : List ℕ) (i r : ℕ) : Type 0 where
  pub closed : open_after false (slice i r s) ≡ false
  pub ends : (j : ℕ) → i ≤ j → j + 1 ≡ r → kind_at s j ≡ 1 → kind_at s r ≡ 1 → ⊥

-- "A branch has a length or has none"
abbrev pub Unmeasured : Type 0
Unmeasured = Option (List ℕ) → Nodes

-- behind a colon: the token from i up to r is a length, or a fault
pub record NumberBehind (s : List ℕ) (i r : ℕ) : Type 0 where
  pub good : r ≤ length s → ((t : Unmeasured) → read_length t (colon ∷ symbols_at s i) ≡ some (t (some (slice i r s)), symbols_at s r)) × (i ≤ r) × Parted s i r
  pub fault : length s < r → (r ≡ length s + 1) × ((t : Unmeasured) → read_length t (colon ∷ symbols_at s i) ≡ none)

-- behind a colon: if r is before the text's end, the token from i up to r is a length, and no blank stands at r
pub record DecimalBehind (s : List ℕ) (i r : ℕ) : Type 0 where
  pub within : r ≤ length s
  pub number : r < length s → NumberBehind s i r × NoBlank s r

-- F is what may follow the node t: the length x or none, up to r, where no blank stands, or a fault
pub record Behind (F : Unmeasured → List Symbol → Read) (s : List ℕ) (i r : ℕ) : Type 0 where
  pub good : r ≤ length s → (x : Option (List ℕ)) × ((t : Unmeasured) → F t (symbols_at s i) ≡ some (t x, symbols_at s r)) × (i ≤ r) × NoBlank s r × Parted s i r
  pub fault : length s < r → (r ≡ length s + 1) × ((t : Unmeasured) → F t (symbols_at s i) ≡ none)

-- the closing bracket behind n children, and what may follow it, a length x or none
pub record ClosingBehind (s : List ℕ) (i n r : ℕ) : Type 0 where
  pub good : r ≤ length s → (x : Option (List ℕ)) × ((k : Nodes) → width k ≡ n → read_closing k (symbols_at s i) ≡ some (inner k x nil, symbols_at s r)) × (i < r) × NoBlank s r × Parted s i r
  pub fault : length s < r → (r ≡ length s + 1) × ((k : Nodes) → width k ≡ n → read_closing k (symbols_at s i) ≡ none)
