-- The verdicts on plain texts, in a whole store.
--
--   lane_with n text      an empty lane to which the first n bytes of a buffer were handed; 4,609 stand for any longer text
--   Judges s text n r t  the verdict on that text: the answer r, and the lent bytes t, which were s
--   Hands s x r t        the verdict on the plain text x, handed whole to an empty lane
--   LineAt f i r         the text of the tree whose line begins at i stands at r
--   LinesAt f i n        the lines of n trees begin at i
--   Feeds b s v t w      the verdicts of b stand at the front of w, which was v, and the lent bytes t, which were s, hold what b leaves
--   FeedsLines ps f i n s v t w     the trees whose lines begin at i are fed, n in all
use Rattle.std.specs.Prelude.{ℕ, ◌+◌, ◌≤◌, ◌<◌, ◌≡◌, true, false, List, [], ◌∷◌, ◌++◌, map, ltb, length, take, drop, if◌then◌else◌, Result, Option}
use Rattle.std.proofs.Math.Option.{some}
use Rattle.trees.specs.Plain.{refused}
use Rattle.trees.specs.Held.{Lane, holding, overrun, most_text, verdict, finished, recording}
use Rattle.trees.specs.Batch.{none_accepted, Batched}
use Rattle.trees.specs.Nexus.{uncommented, Pair}
use Rattle.trees.specs.NexusReading.{in_trees, reads}
use Rattle.trees.specs.NexusCall.{replaced, on_text, handing}
use Rattle.answers.specs.Answers.{progress_given}
use Rattle.layout.specs.Store.{held_at}
use Rattle.store.specs.Lent.{Holds}
use Rattle.nexus.specs.declared.tokens.Token.{Token}
use Rattle.nexus.specs.Places.{part, commands_at}
use Rattle.answers.specs.declared.Refusal.{Refusal}
use Rattle.answers.specs.declared.Tree.{Tree}

-- no verdict asks whether quotes are open in a lane that ran over

abbrev pub lane_with : ℕ → List ℕ → Lane
lane_with n text = if ltb most_text n then overrun false else holding (take n text)

pub record Judges (s text : List ℕ) (n : ℕ) (r : Result (Option Tree) Refusal) (t : List ℕ) : Type 0 where
  pub answer : progress_given r ≡ finished (held_at s) (verdict (held_at s) (lane_with n text))
  pub holds : Holds (recording (held_at s) (verdict (held_at s) (lane_with n text))) s t
  pub found : (k : ℕ) → verdict (held_at s) (lane_with n text) ≡ refused k → t ≡ s

-- "judged as its plain text handed whole to an empty lane"
pub record Hands (s x : List ℕ) (r : Result (Option Tree) Refusal) (t : List ℕ) : Type 0 where
  pub answer : progress_given r ≡ finished (held_at s) (on_text (held_at s) x)
  pub holds : Holds (recording (held_at s) (on_text (held_at s) x)) s t
  pub found : (k : ℕ) → on_text (held_at s) x ≡ refused k → t ≡ s

pub record LineAt (f : List ℕ) (i : ℕ) (r : Token) : Type 0 where
  pub past : i ≤ r.from
  pub order : r.from ≤ r.end
  pub within : r.end ≤ length f
  pub gives : (t : List ℕ) (ts : List (List ℕ)) → reads (in_trees false) (commands_at f i) ≡ some (record { pairs = []; texts = t ∷ ts })
      → (r.end < length f)
      × (uncommented false (part r.from r.end f) ≡ t)
      × (reads (in_trees false) (commands_at f (r.end + 1)) ≡ some (record { pairs = []; texts = ts }))

-- the lines of n trees begin at i
pub record LinesAt (f : List ℕ) (i n : ℕ) : Type 0 where
  pub texts : List (List ℕ)
  pub count : length texts ≡ n
  pub read : reads (in_trees false) (commands_at f i) ≡ some (record { pairs = []; texts = texts })

pub record Feeds (b : Batched) (s v t w : List ℕ) : Type 0 where
  pub holds : Holds b.after s t
  pub verdicts : w ≡ b.verdicts ++ drop (length b.verdicts) v
  pub found : none_accepted b.verdicts ≡ true → t ≡ s

pub record FeedsLines (ps : List Pair) (f : List ℕ) (i n : ℕ) (s v t w : List ℕ) : Type 0 where
  pub size : length t ≡ length s
  pub room : length w ≡ length v
  pub feeds : (ts : List (List ℕ)) → length ts ≡ n → reads (in_trees false) (commands_at f i) ≡ some (record { pairs = []; texts = ts })
      → Feeds (handing (held_at s) (map (replaced ps) ts)) s v t w
