-- Places in a file, or in a command of it: each stands for the bytes from there on, with a blank for each comment. At no place are
-- quotes open: what stands in them is passed whole, up to the apostrophe that closes them.
--
--   part i r s            the bytes of s from i up to r
--   plain_at s i           the bytes of s from place i on, with a blank for each comment
--   commands_at s i        their commands, and what stands behind the last semicolon
--   other x b             the byte b is not x
--   NextByte s x i r      the next byte x from i on stands right before r; r is past s where there is none
--   CommentEnd s i r      the comment whose bytes begin at i ends before r; r is past s where it never ends
--   BlankEnd s i r        the blank or the comment at i ends before r; r is i where neither stands there
--   Skipped s i r         blanks and comments stand from i up to r, and none at r
--   TokenAt s i t         the first token from i on
--   NameEnd s i r         the bytes of a tree's name stand from i up to r, and none at r
--   plain b               the byte b neither ends a command nor begins a comment or a run in quotes
--   PlainRun s i r        such bytes stand from i up to r
--   PlainEnd s i r        such bytes stand from i up to r, and none at r
--   closing b             the byte that ends what b begins: a comment or a run in quotes
--   CommandEnd s i r      the command that begins at i ends at r, at its semicolon or behind s
use Rattle.std.specs.Prelude.{ℕ, ◌+◌, ◌-◌, ◌≤◌, ◌<◌, ◌≡◌, Bool, true, false, not, ◌&&◌, List, [], ◌∷◌, ◌++◌, ltb, eqb, length, get_or, take, drop, if◌then◌else◌}
use Rattle.trees.specs.Plain.{every, byte}
use Rattle.trees.specs.Text.{semicolon, apostrophe, is_blank, open_after, parts}
use Rattle.trees.specs.Nexus.{behind_run, begins, uncommented, behind_comment, is_name_byte}
use Rattle.trees.specs.NexusReading.{first_token, behind_first}
use Rattle.nexus.specs.declared.tokens.Token.{Token}

abbrev pub part : ℕ → ℕ → List ℕ → List ℕ
part i r s = take (r - i) (drop i s)

abbrev pub plain_at : List ℕ → ℕ → List ℕ
plain_at s i = uncommented false (drop i s)

abbrev pub commands_at : List ℕ → ℕ → List (List ℕ)
commands_at s i = parts semicolon false (plain_at s i)

abbrev pub other : ℕ → ℕ → Bool
other x b = not (eqb b x)

-- the bytes up to it are others, and so are all where there is none
pub record NextByte (s : List ℕ) (x i r : ℕ) : Type 0 where
  pub found : r ≤ length s → (i < r) × (w : List ℕ) × (part i r s ≡ w ++ (x ∷ [])) × (every (other x) w ≡ true)
  pub lacking : length s < r → (r ≡ length s + 1) × (every (other x) (drop i s) ≡ true)

-- "ends at the first `]` and reads as a blank"
pub record CommentEnd (s : List ℕ) (i r : ℕ) : Type 0 where
  pub closed : r ≤ length s → (i < r) × (behind_comment (drop i s) ≡ byte " " ∷ plain_at s r)
  pub unclosed : length s < r → (r ≡ length s + 1) × (behind_comment (drop i s) ≡ byte "[" ∷ [])
  -- whatever stands behind it
  pub alone : r ≤ length s → (t : List ℕ) → behind_comment (part i r s ++ t) ≡ byte " " ∷ uncommented false t

pub record Skipped (s : List ℕ) (i r : ℕ) : Type 0 where
  pub past : i ≤ r
  pub within : r ≤ length s
  pub plain : behind_run is_blank (plain_at s i) ≡ plain_at s r
  pub stop : begins is_blank (plain_at s r) ≡ false

-- behind the blank or the comment at i; at i where neither stands there
pub record BlankEnd (s : List ℕ) (i r : ℕ) : Type 0 where
  pub within : r ≤ length s
  pub past : (r ≡ i → ⊥) → (i < r) × (behind_run is_blank (plain_at s i) ≡ behind_run is_blank (plain_at s r))
  pub stop : r ≡ i → begins is_blank (plain_at s i) ≡ false

pub record TokenAt (s : List ℕ) (i : ℕ) (t : Token) : Type 0 where
  pub past : i ≤ t.from
  pub order : t.from ≤ t.end
  pub within : t.end ≤ length s
  pub blanks : behind_run is_blank (plain_at s i) ≡ plain_at s t.from
  pub token : first_token (plain_at s i) ≡ part t.from t.end s
  pub behind : behind_first (plain_at s i) ≡ plain_at s t.end

pub record NameEnd (s : List ℕ) (i r : ℕ) : Type 0 where
  pub past : i ≤ r
  pub within : r ≤ length s
  pub begun : begins is_name_byte (plain_at s i) ≡ ltb i r
  pub behind : behind_run is_name_byte (plain_at s i) ≡ plain_at s r

abbrev pub plain : ℕ → Bool
plain b = other semicolon b && (other (byte "[") b && other apostrophe b)

pub record PlainRun (s : List ℕ) (i r : ℕ) : Type 0 where
  pub past : i ≤ r
  pub within : r ≤ length s
  pub each : (j : ℕ) → i ≤ j → j < r → plain (get_or s j 0) ≡ true

pub record PlainEnd (s : List ℕ) (i r : ℕ) : Type 0 where
  pub past : i ≤ r
  pub within : r ≤ length s
  pub each : (j : ℕ) → i ≤ j → j < r → plain (get_or s j 0) ≡ true
  pub stop : r < length s → plain (get_or s r 0) ≡ false

abbrev pub closing : ℕ → ℕ
closing b = if eqb b (byte "[") then byte "]" else apostrophe

pub record CommandEnd (s : List ℕ) (i r : ℕ) : Type 0 where
  pub past : i ≤ r
  pub within : r ≤ length s
  pub more : r < length s → commands_at s i ≡ uncommented false (part i r s) ∷ commands_at s (r + 1)
  -- quotes are paired in a command that ends with a semicolon
  pub paired : r < length s → open_after false (uncommented false (part i r s)) ≡ false
  pub last : r ≡ length s → commands_at s i ≡ plain_at s i ∷ []
