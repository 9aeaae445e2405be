-- Writing a tree's plain text.
--
--   behind_one s          s without its first byte
--   ShownAt s i b        the byte that is read at place i is b: a blank for a comment
--   PassedAt s i r       what is read behind it begins at r, if it is no quote
--   PutAs w to r o p     the bytes w are put at `to` into the buffer o, which is then p, and end at r; r is 4,609 where they end past 4,608
--   TextAs t r p         the text t stands at the front of the buffer p and has r bytes; r is 4,609 where it has more than 4,608
--   is_mark b             the byte b is `)` or `:`: no token behind it is replaced
--   is_kept b             the byte b is a label byte, or such a mark
--   is_opening b          the byte b is `(` or a comma
--   KeptEnd s i r        kept bytes stand from i up to r, and none at r
--   last_free free u      whether a token may be replaced behind the bytes u, the last of which is no blank
--   KeptAs s i free r    the bytes from i up to r stand in the plain text as they are
--   QuotePast s i r      a quote at i is passed at r
--   QuotesAs s i r       so they do whatever may be replaced behind them: a run in quotes, or all from quotes on that never close
--   Written, Stepped     the text before a place of the raw bytes is written, and what is written of it next
use Rattle.std.specs.Prelude.{ℕ, ◌+◌, ◌≤◌, ◌<◌, ◌≡◌, Bool, false, not, ◌||◌, List, [], ◌∷◌, ◌++◌, length, get_or, take}
use Rattle.trees.specs.Plain.{member, bytes}
use Rattle.trees.specs.Text.{apostrophe, is_label_byte}
use Rattle.trees.specs.Held.{most_text}
use Rattle.trees.specs.Nexus.{Pair, uncommented}
use Rattle.trees.specs.NexusCall.{replaced, replaced_after}
use Rattle.layout.specs.Store.{ran_over}
use Rattle.nexus.specs.Places.{part, plain_at}
use Rattle.nexus.specs.TokenLaws.{Run}

unfoldable pub behind_one : List ℕ → List ℕ
behind_one [] = []
behind_one (b ∷ s) = s

pub record ShownAt (s : List ℕ) (i b : ℕ) : Type 0 where
  pub is : plain_at s i ≡ b ∷ behind_one (plain_at s i)

pub record PassedAt (s : List ℕ) (i r : ℕ) : Type 0 where
  pub past : i < r
  pub within : r ≤ length s
  pub is : (get_or s i 0 ≡ apostrophe → ⊥) → behind_one (plain_at s i) ≡ plain_at s r

pub record PutAs (w : List ℕ) (to r : ℕ) (o p : List ℕ) : Type 0 where
  pub size : length p ≡ length o
  pub fits : to + length w ≤ most_text → (r ≡ to + length w) × (take r p ≡ take to o ++ w)
  pub over : most_text < to + length w → r ≡ ran_over

pub record TextAs (t : List ℕ) (r : ℕ) (p : List ℕ) : Type 0 where
  pub fits : length t ≤ most_text → (r ≡ length t) × (take r p ≡ t)
  pub over : most_text < length t → r ≡ ran_over

-- ---- bytes that are no keys

unfoldable pub is_mark : ℕ → Bool
unfolding member bytes
is_mark b = member b (bytes "):")

unfoldable pub is_kept : ℕ → Bool
unfolding is_label_byte is_mark
is_kept b = is_label_byte b || is_mark b

unfoldable pub is_opening : ℕ → Bool
unfolding member bytes
is_opening b = member b (bytes "(,")

pub record KeptEnd (s : List ℕ) (i r : ℕ) : Type 0 where
  pub run : Run is_kept s i r
  pub stop : r < length s → is_kept (get_or s r 0) ≡ false

unfoldable pub last_free : Bool → List ℕ → Bool
unfolding is_mark
last_free free [] = free
last_free free (b ∷ u) = last_free (not (is_mark b)) u

pub record KeptAs (s : List ℕ) (i : ℕ) (free : Bool) (r : ℕ) : Type 0 where
  pub past : i ≤ r
  pub within : r ≤ length s
  pub rest : (ps : List Pair) → replaced_after ps false free [] (plain_at s i) ≡ part i r s ++ replaced_after ps false (last_free free (part i r s)) [] (plain_at s r)

abbrev pub QuotePast : List ℕ → ℕ → ℕ → Type 0
QuotePast s i r = get_or s i 0 ≡ apostrophe → i < r

pub record QuotesAs (s : List ℕ) (i r : ℕ) : Type 0 where
  pub past : i < r
  pub kept : (free : Bool) → KeptAs s i free r

-- ---- halfway

-- the first `to` bytes of the buffer o are the plain text of what stands before the place `at` of the bytes s
pub record Written (ps : List Pair) (s : List ℕ) (at to : ℕ) (free : Bool) (o : List ℕ) : Type 0 where
  pub within : at ≤ length s
  pub few : to ≤ most_text
  pub size : length o ≡ most_text
  pub rest : replaced ps (uncommented false s) ≡ take to o ++ replaced_after ps false free [] (plain_at s at)

-- from `at` up to z stands a token, a run that is kept, or a byte of the text, for which the bytes `shows` are put
pub record Stepped (ps : List Pair) (s : List ℕ) (at to : ℕ) (free : Bool) (o : List ℕ) (z r : ℕ) (next : Bool) (p : List ℕ) : Type 0 where
  pub shows : List ℕ
  pub past : at < z
  pub within : z ≤ length s
  pub put : PutAs shows to r o p
  pub rest : replaced_after ps false free [] (plain_at s at) ≡ shows ++ replaced_after ps false next [] (plain_at s z)
