-- A NEXUS file handed to a collection.
--
--   name_of ps w            the name of the key w in the pairs ps; a token that is no key stays
--   replaced ps t          the text t with its keys replaced
--   keys_of ps              the keys of the pairs ps
--   plain_texts x           the plain texts of the trees of a file
--   on_text h t             the verdict on the plain text t, handed whole to an empty lane
--   handing h ts           the verdicts on the plain texts ts, one after another, and what is held afterwards
--   handed_in h x room      what a file gives that is x, with room for so many verdicts: 16, 4, or the verdicts
--   nexus h f room         the file f, with room for so many verdicts
use Rattle.std.specs.Prelude.{ℕ, Bool, true, false, ◌&&◌, not, List, [], ◌∷◌, ◌++◌, map, ltb, length, if◌then◌else◌}
use Rattle.std.proofs.Math.Option.{none, some}
use Rattle.trees.specs.Plain.{member, same_bytes, bytes, Answer, refused, gives}
use Rattle.trees.specs.Text.{is_blank, is_label_byte, turned}
use Rattle.trees.specs.Names.{different}
use Rattle.trees.specs.Verdict.{Branches}
use Rattle.trees.specs.Held.{Held, holding, longer, verdict, finished, recording}
use Rattle.trees.specs.Batch.{verdict_number, Batched, with_verdict}
use Rattle.trees.specs.Nexus.{Pair, File}
use Rattle.trees.specs.NexusReading.{read_file}

-- ---- a tree's plain text

-- keys match by equal bytes
unfoldable pub name_of : List Pair → List ℕ → List ℕ
unfolding same_bytes
name_of [] w = w
name_of (p ∷ ps) w = if same_bytes p.0 w then p.1 else name_of ps w

-- a run w of label bytes that has ended; no bytes are no token
unfoldable pub shown : List Pair → Bool → List ℕ → List ℕ
unfolding name_of
shown ps free [] = []
shown ps free (b ∷ w) = if free then name_of ps (b ∷ w) else b ∷ w

-- "except after `)` or `:`", blanks between allowed: whether a token is replaced that stands behind the run w and the byte b
unfoldable pub free_behind : Bool → List ℕ → ℕ → Bool
unfolding is_blank member bytes
free_behind free w b = if is_blank b then elim w [ [] ↦ free | x ∷ v ↦ true ] else not (member b (bytes "):"))

-- the text s, behind the label bytes w of a run that has not ended; q: whether quotes are open there, in which nothing is replaced; `free`: a
-- token that stands there is replaced
unfoldable pub replaced_after : List Pair → Bool → Bool → List ℕ → List ℕ → List ℕ
unfolding shown free_behind is_label_byte turned
replaced_after ps q free w [] = shown ps free w
replaced_after ps q free w (b ∷ s) =
    elim (not q && is_label_byte b) [
      | true ↦ replaced_after ps q free (w ++ b ∷ []) s
      | false ↦ shown ps free w ++ (b ∷ replaced_after ps (turned q b) (free_behind free w b) [] s)
    ]

-- "each tree, keys replaced by names except after `)` or `:`"; "a name replaces its key as it stands there, quotes and all", and stays
unfoldable pub replaced : List Pair → List ℕ → List ℕ
unfolding replaced_after
replaced ps t = replaced_after ps false true [] t

unfoldable pub plain_texts : File → List (List ℕ)
unfolding replaced
plain_texts x = map (replaced x.pairs) x.texts

unfoldable pub keys_of : List Pair → List (List ℕ)
keys_of [] = []
keys_of (p ∷ ps) = p.0 ∷ keys_of ps

-- ---- the call

-- "judged as its plain text handed whole to an empty lane"
unfoldable pub on_text : Held → List ℕ → Answer Branches
unfolding verdict longer
on_text h t = verdict h (longer (holding []) t)

-- "no real lane is touched, and verdicts are listed in order"
unfoldable pub handing : Held → List (List ℕ) → Batched
unfolding on_text finished recording verdict_number with_verdict
handing h [] = record { verdicts = []; after = h }
handing h (t ∷ ts) = with_verdict (verdict_number (finished h (on_text h t))) (handing (recording h (on_text h t)) ts)

-- "16 key listed twice"; 4: "a lent buffer is too short for the whole answer", before a tree is fed
unfoldable pub handed_in : Held → File → ℕ → Answer Batched
unfolding different keys_of plain_texts handing
handed_in h x room =
    if different (keys_of x.pairs) then
    if ltb room (length x.texts) then refused 4 else gives (handing h (plain_texts x))
    else refused 16

-- "15 block malformed, 16 key listed twice; in that order, after 1 and before 4"
unfoldable pub nexus : Held → List ℕ → ℕ → Answer Batched
unfolding read_file handed_in
nexus h f room = elim (read_file f) [ none ↦ refused 15 | some x ↦ handed_in h x room ]
