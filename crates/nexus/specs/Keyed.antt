-- A tree judged by its keys, its plain text unwritten.
--
--   most_keyed            how many leaves such a tree has at most
--   Bare s r             blanks and comments stand before the place r of s, and no quotes and no comments behind it
--   BareFrom s r         so it is, or r is none
--   NameAt               the name that is noted for a token stands in the list
--   NamesThere, NamesAs     those of the first k tokens do, and have r bytes, no more than a text may have; or r is none
--   Standing u text n    u is the text behind blanks, without quotes, and has n bytes at most
--   KeyedAs s x r t      the verdict on the plain text x; or none, and the lent bytes t are s, as before
use Rattle.std.specs.Prelude.{ℕ, ◌+◌, ◌*◌, ◌≤◌, ◌<◌, ◌≡◌, false, List, map, length, get_or, Result, Option, None, Some}
use Rattle.std.proofs.Math.Seq.{slice}
use Rattle.trees.specs.Plain.{member}
use Rattle.trees.specs.Text.{apostrophe, is_blank, symbols}
use Rattle.trees.specs.Held.{most_text}
use Rattle.trees.specs.Nexus.{Pair, behind_run, uncommented}
use Rattle.trees.specs.NexusCall.{name_of}
use Rattle.newick.specs.Running.{labels_at}
use Rattle.nexus.specs.Places.{part}
use Rattle.nexus.specs.Named.{bytes_of}
use Rattle.nexus.specs.Verdicts.{Hands}
use Rattle.answers.specs.declared.Refusal.{Refusal}
use Rattle.answers.specs.declared.Tree.{Tree}

abbrev pub most_keyed : ℕ
most_keyed = 64

pub record Bare (s : List ℕ) (r : ℕ) : Type 0 where
  pub short : length (part r (length s) s) ≤ most_text
  pub quoteless : member apostrophe (part r (length s) s) ≡ false
  pub behind : behind_run is_blank (uncommented false s) ≡ part r (length s) s

unfoldable pub BareFrom : List ℕ → Option ℕ → Type 0
BareFrom s (Some r) = (r ≤ length s) × Bare s r
BareFrom s None = Unit {0}

-- name i of the list, for token i of the text
pub record NameAt (ps : List Pair) (list text tokens names : List ℕ) (i : ℕ) : Type 0 where
  pub order : get_or names (2 * i) 0 ≤ get_or names (2 * i + 1) 0
  pub within : get_or names (2 * i + 1) 0 ≤ length list
  pub name : slice (get_or names (2 * i) 0) (get_or names (2 * i + 1) 0) list ≡ name_of ps (slice (get_or tokens (2 * i) 0) (get_or tokens (2 * i + 1) 0) text)

pub record NamesThere (ps : List Pair) (list text tokens : List ℕ) (k : ℕ) (names : List ℕ) (r : ℕ) : Type 0 where
  pub few : r ≤ most_text
  pub each : (i : ℕ) → i < k → NameAt ps list text tokens names i
  pub bytes : r ≡ bytes_of (map (name_of ps) (labels_at text tokens k))

unfoldable pub NamesAs : List Pair → List ℕ → List ℕ → List ℕ → ℕ → List ℕ → Option ℕ → Type 0
NamesAs ps list text tokens k names (Some r) = NamesThere ps list text tokens k names r
NamesAs ps list text tokens k names None = Unit {0}

-- ---- the verdict

pub record Standing (u text : List ℕ) (n : ℕ) : Type 0 where
  pub same : symbols u ≡ symbols text
  pub quoteless : member apostrophe u ≡ false
  pub few : length u ≤ n

unfoldable pub KeyedAs : List ℕ → List ℕ → Option (Result (Option Tree) Refusal) → List ℕ → Type 0
KeyedAs s x (Some p) t = Hands s x p t
KeyedAs s x None t = t ≡ s
