-- What a command of a file is, as the code answers it. A command is the bytes c before its semicolon, comments and quotes and all.
--
--   BegunAs c r           the command c begins another block, or the TREES block, or is wrong outside the blocks
--   WordAt, WordEnd       a token, a run in quotes or a byte of another block's command, and what stands behind it
--   LineAs c r            the text of the tree that c gives begins at r; r is none where it gives none
--   LineMoves c r         what the command c of the TREES block does, behind its list
--   pairs_in s n ps        the n pairs of a token and a label of s whose places are ps: four for each, where its key and its name begin and end
--   Placed s n ps         these places lie in s
--   LabelIs s t           the bytes at the place t are the label that is read there
--   LabelAt s i t         the label from i on, behind blanks and comments; none, where what stands there is no label
--   placed_pair ps n k v   the places ps with those of the key k and the name v for pair n
--   NoneOf k v r          r says whether the key k or the name v is none
--   PairsAs s i ps r      from i on, s lists r pairs whose places are ps; r is none where it lists none, or too many
use Rattle.std.specs.Prelude.{ℕ, zero, suc, ◌+◌, ◌*◌, ◌≤◌, ◌<◌, ◌≡◌, Bool, true, false, ◌⊎◌, List, [], ◌∷◌, length, get_or, set, if◌then◌else◌}
use Rattle.std.specs.Prelude.{Option as CodeOption, None, Some}
use Rattle.std.proofs.Math.Option.{none, some}
use Rattle.trees.specs.Plain.{byte}
use Rattle.trees.specs.Nexus.{behind_run, begins, uncommented, Pair, most_keys}
use Rattle.trees.specs.Text.{is_blank, is_label_byte, open_after, parts, is_label}
use Rattle.trees.specs.NexusReading.{two_tokens, label_run, behind_label, last_end, ends_after, read_line, read_pairs, Move, wrong, to, brings, outside, in_other, in_trees, block_begun, listed, moved}
use Rattle.nexus.specs.declared.lines.Begun.{Begun}
use Rattle.nexus.specs.declared.lines.Begun.TheVariants.{Other, Trees, Wrong}
use Rattle.nexus.specs.declared.lines.Line.{Line}
use Rattle.nexus.specs.declared.lines.Line.TheVariants.{End, Text}
use Rattle.nexus.specs.declared.lines.Line.TheVariants as line
use Rattle.nexus.specs.declared.tokens.Token.{Token}
use Rattle.nexus.specs.Places.{part, plain_at}

abbrev pub begun_move : Bool → Begun → Move
begun_move came Other = to (in_other came)
begun_move came Trees = if came then wrong else to (in_trees true)
begun_move came Wrong = wrong

abbrev pub BegunAs : List ℕ → Begun → Type 0
BegunAs c r = (came : Bool) → block_begun came (two_tokens (uncommented false c)) ≡ begun_move came r

-- from i up to e stands a token, if any, and no blank at i, so that a bracket there begins a comment that never ends; quotes are paired, so
-- that those that open there close
pub record WordAt (c : List ℕ) (i e : ℕ) : Type 0 where
  pub there : i < length c
  pub bare : begins is_blank (plain_at c i) ≡ false
  pub paired : open_after false (plain_at c i) ≡ false
  pub past : i ≤ e
  pub within : e ≤ length c
  pub each : (j : ℕ) → i ≤ j → j < e → is_label_byte (get_or c j 0) ≡ true
  pub stop : e < length c → is_label_byte (get_or c e 0) ≡ false

-- from i up to r stands a token, a run in quotes or one byte, behind which the same ends another block
pub record WordEnd (c : List ℕ) (i r : ℕ) : Type 0 where
  pub past : i < r
  pub within : r ≤ length c
  pub paired : open_after false (plain_at c r) ≡ false
  pub same : last_end (plain_at c i) ≡ false → ends_after true (plain_at c i) ≡ ends_after true (plain_at c r)

unfoldable pub LineAs : List ℕ → CodeOption ℕ → Type 0
LineAs c (Some r) = (r ≤ length c) × (read_line (uncommented false c) ≡ some (plain_at c r))
LineAs c None = read_line (uncommented false c) ≡ none

abbrev pub line_move : List ℕ → Line → Move
line_move c End = to (outside true)
line_move c (Text r) = brings (plain_at c r)
line_move c line.Wrong = wrong

pub record LineMoves (c : List ℕ) (r : Line) : Type 0 where
  pub moves : moved (in_trees false) (uncommented false c) ≡ line_move c r
  pub within : (i : ℕ) → r ≡ Text i → i ≤ length c

-- ---- pairs

abbrev pub pair_at : List ℕ → List ℕ → ℕ → Pair
pair_at s ps j = (part (get_or ps (4 * j) 0) (get_or ps (4 * j + 1) 0) s, part (get_or ps (4 * j + 2) 0) (get_or ps (4 * j + 3) 0) s)

unfoldable pub pairs_from : List ℕ → List ℕ → ℕ → ℕ → List Pair
pairs_from s ps j zero = []
pairs_from s ps j (suc n) = pair_at s ps j ∷ pairs_from s ps (suc j) n

unfoldable pub pairs_in : List ℕ → ℕ → List ℕ → List Pair
unfolding pairs_from
pairs_in s n ps = pairs_from s ps 0 n

pub record Placed (s : List ℕ) (n : ℕ) (ps : List ℕ) : Type 0 where
  pub few : n ≤ most_keys
  pub reach : 4 * n ≤ length ps
  pub keys : (j : ℕ) → j < n → (get_or ps (4 * j) 0 ≤ get_or ps (4 * j + 1) 0) × (get_or ps (4 * j + 1) 0 ≤ length s)
  pub names : (j : ℕ) → j < n → (get_or ps (4 * j + 2) 0 ≤ get_or ps (4 * j + 3) 0) × (get_or ps (4 * j + 3) 0 ≤ length s)

-- as it stands, with its quotes, if it has any
pub record LabelIs (s : List ℕ) (t : Token) : Type 0 where
  pub label : is_label (part t.from t.end s) ≡ true
  pub run : label_run (plain_at s t.from) ≡ part t.from t.end s
  pub behind : behind_label (plain_at s t.from) ≡ plain_at s t.end

pub record LabelAt (s : List ℕ) (i : ℕ) (t : Token) : Type 0 where
  pub order : t.from ≤ t.end
  pub within : t.end ≤ length s
  pub blanks : behind_run is_blank (plain_at s i) ≡ plain_at s t.from
  pub none : t.from ≡ t.end → is_label (label_run (plain_at s t.from)) ≡ false
  pub some : (t.from ≡ t.end → ⊥) → LabelIs s t

abbrev pub placed_pair : List ℕ → ℕ → Token → Token → List ℕ
placed_pair ps n k v = set (set (set (set ps (4 * n) k.from) (4 * n + 1) k.end) (4 * n + 2) v.from) (4 * n + 3) v.end

-- one of two is none
pub record NoneOf (k v : Token) (r : Bool) : Type 0 where
  pub none : r ≡ true → (k.from ≡ k.end) ⊎ (v.from ≡ v.end)
  pub both : r ≡ false → (k.from ≡ k.end → ⊥) × (v.from ≡ v.end → ⊥)

unfoldable pub PairsAs : List ℕ → ℕ → List ℕ → CodeOption ℕ → Type 0
PairsAs s i ps (Some r) = (0 < r) × (read_pairs (parts (byte ",") false (plain_at s i)) ≡ some (pairs_in s r ps)) × Placed s r ps
PairsAs s i ps None = listed (read_pairs (parts (byte ",") false (plain_at s i))) ≡ wrong
