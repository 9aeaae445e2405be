-- The summary of an input that comes in pieces: what its calls do, and what a state stands for.
--
--   roomy names lent             the buffer for names and the lent bytes reach 4,288 and 22,024
--   FedSoFar o v s n             the lent bytes s hold what feeding v to the opening o leaves, and n counts its refusals
--   StandsFor state names lent v     the state, with the buffer and the lent bytes, stands for the input v so far
--   SheetOf answer lent v        the answer of finishing, with the lent bytes, stands for the whole input v
--   CountedIn v                  64 bits can count the refused texts of v
--   BegunAs names lent r         beginning answers r
--   FeedsAs s n q r t            texts q are fed behind n refused ones: the state r, and the lent bytes t, which were s
--   OpensAs k s q r t            the first line has ended, and k is kept of it: it is opened, and q is fed
--   NamesAs line names s p r after t     a piece p while the first line is being taken
--   TakeSteps .., TookAs ..      taking a piece
--   ClosesAs k s r t             the input ends in its first line, of which k is kept
--   FinishSteps .., FinishedAs ..     finishing
--   refusal_lines w               the lines behind the refusal w
--   sheet_asked answer s from room     the lines from number `from` on behind an answer of finishing, into a buffer of `room` bytes
--   PrintedAs ..                 giving lines
use Rattle.std.specs.Prelude.{ℕ, ◌^◌, ◌≤◌, ◌<◌, ◌≡◌, Bool, true, false, ◌&&◌, List, [], ◌∷◌, ◌++◌, leb, length, drop, Result, Ok, Err}
use Rattle.trees.specs.Plain.{member, byte, Answer, refused, gives}
use Rattle.trees.specs.Opening.{Opening}
use Rattle.trees.specs.Held.{opened, lane_of, open_in, closing}
use Rattle.trees.specs.Batch.{texts_in, batching, Batched, refused_in, refused_after}
use Rattle.answers.specs.declared.Refusal.{Refusal}
use Rattle.answers.specs.declared.Refusal.TheVariants as why
use Rattle.answers.specs.Answers.{refusal_number}
use Rattle.layout.specs.Store.{held_at}
use Rattle.layout.specs.WholeStore.{whole_at}
use Rattle.store.specs.Lent.{if_whole}
use Rattle.table.specs.Promises.{OpenedAs}
use Rattle.sheet.specs.Sheet.{refusal_line}
use Rattle.sheet.specs.Asked.{lines_from, lines_asked, PrintsAs}
use Rattle.summary.specs.declared.LinePart.{LinePart}
use Rattle.summary.specs.declared.Summing.{Summing}
use Rattle.summary.specs.declared.Summing.TheVariants as summing
use Rattle.summary.specs.declared.Taken.{Taken}
use Rattle.summary.specs.Summary.{first_line, behind_line, summary_bytes, summary_opening, lines_for}
use Rattle.summary.specs.FirstLine.{Kept, Keeps, kept_of, TakenAs, kept_opening}
use Rattle.summary.specs.Texts.{capped, texts_fed, TextsAs, ClosedAs}

-- ---- what a state stands for

unfoldable pub roomy : List ℕ → List ℕ → Bool
roomy names lent = leb 4288 (length names) && leb summary_bytes (length lent)

-- what an input asks to open
abbrev pub asks_for : List ℕ → Answer Opening
asks_for v = summary_opening (first_line v) summary_bytes

abbrev pub all_fed : Opening → List ℕ → Batched
all_fed o v = texts_fed (opened o) v

unfoldable pub refused_texts : Opening → List ℕ → ℕ
unfolding refused_after refused_in closing batching texts_in open_in lane_of opened
refused_texts o v = refused_after (refused_in (all_fed o v).verdicts) (closing (all_fed o v).after 0).answer

pub record FedSoFar (o : Opening) (v s : List ℕ) (n : ℕ) : Type 0 where
  pub whole : whole_at s ≡ true
  pub held : held_at s ≡ (all_fed o v).after
  pub count : n ≡ capped (refused_in (all_fed o v).verdicts)

-- in the first line; behind one that is accepted; behind one that is refused
unfoldable pub StandsFor : Summing → List ℕ → List ℕ → List ℕ → Type 0
unfolding roomy first_line behind_line summary_opening refusal_number
StandsFor (summing.Line line) names lent v = (roomy names lent ≡ true) × (member (byte "\n") v ≡ false) × Keeps (length names) v (kept_of line names)
StandsFor (summing.Texts n) names lent v =
    (member (byte "\n") v ≡ true) × (o : Opening) × (asks_for v ≡ gives o) × FedSoFar o (behind_line v) lent n
StandsFor (summing.Refused w) names lent v = (member (byte "\n") v ≡ true) × (asks_for v ≡ refused (refusal_number w))

unfoldable pub SheetOf : Result ℕ Refusal → List ℕ → List ℕ → Type 0
unfolding first_line behind_line summary_opening refusal_number refused_texts capped
SheetOf (Ok n) lent v =
    (o : Opening)
    × (asks_for v ≡ gives o)
    × (whole_at lent ≡ true)
    × (held_at lent ≡ (closing (all_fed o (behind_line v)).after 0).after)
    × (n ≡ capped (refused_texts o (behind_line v)))
SheetOf (Err w) lent v = asks_for v ≡ refused (refusal_number w)

unfoldable pub CountedIn : List ℕ → Type 0
unfolding first_line behind_line summary_opening refused_texts
CountedIn v = (o : Opening) → asks_for v ≡ gives o → refused_texts o (behind_line v) < 2 ^ 64

-- ---- beginning

-- 4: "a lent buffer is too short"
unfoldable pub begun : Bool → Summing
begun true = summing.Line (record { used = 0; spaces = 0; quoted = false })
begun false = summing.Refused why.TooShort

pub record BegunAs (names lent : List ℕ) (r : Summing) : Type 0 where
  pub answer : r ≡ begun (roomy names lent)
  pub carries : 4288 ≤ length names → summary_bytes ≤ length lent → StandsFor r names lent []

-- ---- taking a piece

unfoldable pub fed_state : Result ℕ Refusal → Summing
fed_state (Ok n) = summing.Texts n
fed_state (Err w) = summing.Refused w

pub record FeedsAs (s : List ℕ) (n : ℕ) (q : List ℕ) (r : Summing) (t : List ℕ) : Type 0 where
  pub answer : Result ℕ Refusal
  pub fed : TextsAs s n q answer t
  pub state : r ≡ fed_state answer

unfoldable pub BehindAs : Result (Unit {0}) Refusal → List ℕ → List ℕ → Summing → List ℕ → Type 0
BehindAs (Err w) s q r t = (r ≡ summing.Refused w) × (t ≡ s)
BehindAs (Ok tt) s q r t = FeedsAs s 0 q r t

pub record OpensAs (k : Kept) (s q : List ℕ) (r : Summing) (t : List ℕ) : Type 0 where
  pub answer : Result (Unit {0}) Refusal
  pub store : List ℕ
  pub opens : OpenedAs (kept_opening k (length s)) answer s store
  pub behind : BehindAs answer store q r t

pub record NamesAs (line : LinePart) (names s p : List ℕ) (r : Summing) (after t : List ℕ) : Type 0 where
  pub taken : Taken
  pub kept : TakenAs (kept_of line names) p taken after
  pub goes : taken.ended ≡ false → (r ≡ summing.Line taken.line) × (t ≡ s)
  pub ends : taken.ended ≡ true → OpensAs (kept_of taken.line after) s (drop taken.taken p) r t

-- behind a first line that is refused, everything is dropped
unfoldable pub TakeSteps : Summing → List ℕ → List ℕ → List ℕ → Summing → List ℕ → List ℕ → Type 0
TakeSteps (summing.Line line) names s p r after t = NamesAs line names s p r after t
TakeSteps (summing.Texts n) names s p r after t = FeedsAs s n p r t × (after ≡ names)
TakeSteps (summing.Refused w) names s p r after t = (r ≡ summing.Refused w) × (after ≡ names) × (t ≡ s)

-- what it does in any state; and where that stands for v, it stands for v and the piece p then
pub record TookAs (state : Summing) (names s p : List ℕ) (r : Summing) (after t : List ℕ) : Type 0 where
  pub steps : TakeSteps state names s p r after t
  pub carries : (v : List ℕ) → StandsFor state names s v → StandsFor r after t (v ++ p)

-- ---- finishing

unfoldable pub EndsAs : Result (Unit {0}) Refusal → List ℕ → Result ℕ Refusal → List ℕ → Type 0
EndsAs (Err w) s r t = (r ≡ Err w) × (t ≡ s)
EndsAs (Ok tt) s r t = ClosedAs s 0 r t

pub record ClosesAs (k : Kept) (s : List ℕ) (r : Result ℕ Refusal) (t : List ℕ) : Type 0 where
  pub answer : Result (Unit {0}) Refusal
  pub store : List ℕ
  pub opens : OpenedAs (kept_opening k (length s)) answer s store
  pub ends : EndsAs answer store r t

unfoldable pub FinishSteps : Summing → List ℕ → List ℕ → Result ℕ Refusal → List ℕ → Type 0
FinishSteps (summing.Line line) names s r t = ClosesAs (kept_of line names) s r t
FinishSteps (summing.Texts n) names s r t = ClosedAs s n r t
FinishSteps (summing.Refused w) names s r t = (r ≡ Err w) × (t ≡ s)

-- what it does in any state; and where that stands for v, the answer is the sheet of v
pub record FinishedAs (state : Summing) (names s : List ℕ) (r : Result ℕ Refusal) (t : List ℕ) : Type 0 where
  pub steps : FinishSteps state names s r t
  pub carries : (v : List ℕ) → StandsFor state names s v → SheetOf r t v

-- ---- giving lines

-- there is one line for a refusal
unfoldable pub refusal_lines : Refusal → List (List ℕ)
unfolding refusal_line refusal_number
refusal_lines w = refusal_line (refusal_number w) ∷ []

unfoldable pub sheet_asked : Result ℕ Refusal → List ℕ → ℕ → ℕ → Answer (List (List ℕ))
unfolding if_whole lines_from refusal_lines
sheet_asked (Ok n) s from room = lines_asked s n from room
sheet_asked (Err w) s from room = lines_from (refusal_lines w) from room

-- what it gives behind any answer; and where that is the sheet of v, it is the lines of the summary of v
pub record PrintedAs (answer : Result ℕ Refusal) (s : List ℕ) (from : ℕ) (r : Result (ℕ × ℕ) Refusal) (out after : List ℕ) : Type 0 where
  pub prints : PrintsAs (sheet_asked answer s from (length out)) r out after
  pub carries : (v : List ℕ) → SheetOf answer s v → CountedIn v → PrintsAs (lines_from (lines_for v) from (length out)) r out after
