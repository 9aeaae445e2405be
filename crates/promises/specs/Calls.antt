-- Every kind of call on a collection, what the definitions answer, and their run of many calls. No proof stands here.
--
--   Question             what may be asked of a collection; a list is a lent buffer, as it is before the call, a split file, or a text that is
--                        claimed to be the majority tree
--   Reply                how it is answered: by a number or two, a split, a double or three, by what is said of a claim, and by the lent buffers as they are
--                        left
--   reply h q            what the collection h answers to q
--   Made                 a call: `one`, a feeding, a closing or a withdrawal; `many`, a batch, with its lane, its piece and the lent buffer for its verdicts;
--                        `file`, a NEXUS file, with the lent buffer for its verdicts; `ask`, a question; `reopen`, an opening that is refused, with its numbers, its name list and its constants
--   Told                 what a call answers
--   told lent h c        what the call c answers of the collection h in so many lent bytes
--   after h c            what is held after it
--   told_all, after_all    the same of the calls cs, one after another
--   cut n q p            the piece p in pieces: n texts, each with its semicolon, and what is behind them; q: whether quotes are open before p
--   file_texts f room     the plain texts that the NEXUS file f hands in, with room for so many verdicts
--   handed h c           the feedings, closings and withdrawals that the call c on the collection h comes to: a batch feeds its texts one after
--                        another, and a file hands in its plain texts
--   handed_all h cs       those of the calls cs, one after another
--   LeavesMade j h c     the call c on the collection h neither ends nor closes the text of lane j, nor is it a batch that would
--   QuietMade j h cs     so do all the calls cs, one after another
--   verdict_of v          the verdict that a batch or a file gives as the number v
--   verdicts_told as      the verdicts among the answers as, in order, those of a batch or a file in their places, and what closings and
--                        withdrawals answer in theirs
--   is_collisions c       the call c asks for the collision number
--   other_told cs as      the answers as to the calls cs, without the collision numbers
use Rattle.std.specs.Prelude.{ℕ, zero, suc, ◌-◌, Bool, true, false, List, [], ◌∷◌, ◌++◌, map, ltb, Float, length, take, drop, if◌then◌else◌}
use Rattle.std.proofs.Math.Option.{none, some}
use Rattle.trees.specs.Plain.{Answer, refused, gives}
use Rattle.trees.specs.Text.{semicolon, before_end}
use Rattle.trees.specs.Names.{different}
use Rattle.trees.specs.Opening.{Numbers, opening}
use Rattle.trees.specs.Held.{Held, lane_of, open_in}
use Rattle.trees.specs.Batch.{texts_in, Batched, batch}
use Rattle.trees.specs.Nexus.{File}
use Rattle.trees.specs.NexusReading.{read_file}
use Rattle.trees.specs.NexusCall.{keys_of, plain_texts, nexus}
use Rattle.trees.specs.Sums.{Sums}
use Rattle.trees.specs.Questions.{trees_held, splits_held, split_list, split_number, tree_number, one_sided_of, doubled_of, matrix_of, collisions_of, strict_of, majority_of, both_of, written_of, weighted_of, sums_of}
use Rattle.trees.specs.SplitFileCall.{Splits, file_of, reading_of, merging_of, strict_file_of, majority_file_of}
use Rattle.trees.specs.PhylipCall.{phylip_of}
use Rattle.trees.specs.Claim.{Claimed, claim_of}
use Rattle.trees.specs.Runs.{Call, feed, hand, Heard, answer, next, Final, accepted_as, refused_with, finals}
use Rattle.theorems.specs.Quiet.{Leaves}
use Rattle.answers.specs.Filled.{length_given, front, first_of, second_of, lengths_given}
use Rattle.splitfile.specs.Files.{read_given, masks_read, counts_read}
use Rattle.release.specs.declared.Wanted.{Wanted}
use Rattle.release.specs.Release.{release_of}

-- ---- questions

pub data Question : Type 0 where
  tree-count : Question
  split-count : Question
  one_split : ℕ → Question
  split-list : List ℕ → List ℕ → Question
  tree-splits : ℕ → List ℕ → Question
  one-sided : ℕ → ℕ → Question
  doubled : ℕ → ℕ → Question
  matrix : List ℕ → Question
  collisions : Question
  strict : List ℕ → Question
  majority : List ℕ → Question
  both : List ℕ → List ℕ → Question
  write-accepted : ℕ → List ℕ → Question
  weighted : ℕ → ℕ → Question
  split-lengths : ℕ → Question
  write-splits : List ℕ → Question
  read-splits : List ℕ → List ℕ → List ℕ → Question
  merge : List ℕ → List ℕ → List ℕ → Question
  strict_tree : List ℕ → List ℕ → Question
  majority-tree : List ℕ → List ℕ → Question
  write-matrix : List ℕ → Question
  claim : List ℕ → Question
  release : ℕ → Wanted → List ℕ → Question

pub data Reply : Type 0 where
  number : Answer ℕ → Reply
  split : Answer (ℕ × ℕ) → Reply
  filled : Answer ℕ → List ℕ → Reply
  both_filled : Answer ℕ → List ℕ → List ℕ → Reply
  each_filled : Answer (ℕ × ℕ) → List ℕ → List ℕ → Reply
  weight : Answer Float → Reply
  sums : Answer Sums → Reply
  claimed : Answer Claimed → Reply

-- "Every written answer stands at its buffer's front; the rest of a longer buffer keeps its values"
unfoldable pub fill : Answer (List ℕ) → List ℕ → Reply
unfolding length_given front
fill x out = filled (length_given x) (front x out)

unfoldable pub fill_both : Answer (List ℕ × List ℕ) → List ℕ → List ℕ → Reply
unfolding length_given front first_of second_of
fill_both x masks counts = both_filled (length_given (first_of x)) (front (first_of x) masks) (front (second_of x) counts)

-- two buffers that are not filled with as many elements
unfoldable pub fill_each : Answer (List ℕ × List ℕ) → List ℕ → List ℕ → Reply
unfolding lengths_given front first_of second_of
fill_each x xs ys = each_filled (lengths_given x) (front (first_of x) xs) (front (second_of x) ys)

-- a file that is read: how many trees, how many records, and their masks and counts
unfoldable pub fill_read : Answer Splits → List ℕ → List ℕ → Reply
unfolding read_given masks_read counts_read front
fill_read x masks counts = each_filled (read_given x) (front (masks_read x) masks) (front (counts_read x) counts)

unfoldable pub reply : Held → Question → Reply
unfolding fill fill_both fill_each fill_read trees_held splits_held split_list split_number tree_number one_sided_of doubled_of matrix_of collisions_of strict_of majority_of both_of written_of weighted_of sums_of file_of reading_of merging_of strict_file_of majority_file_of phylip_of claim_of release_of
reply h tree-count = number (trees_held h)
reply h split-count = number (splits_held h)
reply h (one_split k) = split (split_number h k)
reply h (split-list masks counts) = fill_both (split_list h (length masks) (length counts)) masks counts
reply h (tree-splits i masks) = fill (tree_number h i (length masks)) masks
reply h (one-sided i j) = number (one_sided_of h i j)
reply h (doubled i j) = number (doubled_of h i j)
reply h (matrix out) = fill (matrix_of h (length out)) out
reply h collisions = number (collisions_of h)
reply h (strict out) = fill (strict_of h (length out)) out
reply h (majority out) = fill (majority_of h (length out)) out
reply h (both xs ys) = fill_each (both_of h (length xs) (length ys)) xs ys
reply h (write-accepted i out) = fill (written_of h i (length out)) out
-- doubles, bit for bit
reply h (weighted i j) = weight (weighted_of h i j)
reply h (split-lengths k) = sums (sums_of h k)
-- a split file comes first, and stays
reply h (write-splits out) = fill (file_of h (length out)) out
reply h (read-splits f masks counts) = fill_read (reading_of h f (length masks) (length counts)) masks counts
reply h (merge f g out) = fill (merging_of h f g (length out)) out
reply h (strict_tree f out) = fill (strict_file_of h f (length out)) out
reply h (majority-tree f out) = fill (majority_file_of h f (length out)) out
-- in PHYLIP's layout
reply h (write-matrix out) = fill (phylip_of h (length out)) out
-- of a text, with its semicolon, which stays
reply h (claim t) = claimed (claim_of h t)
-- behind so many refused texts, what is wanted of it
reply h (release n x out) = fill (release_of h n x (length out)) out

-- ---- calls

pub data Made : Type 0 where
  one : Call → Made
  many : ℕ → List ℕ → List ℕ → Made
  file : List ℕ → List ℕ → Made
  ask : Question → Made
  reopen : Numbers → List ℕ → List ℕ → List ℕ → Made

-- a batch or a file answers how many verdicts it wrote, and leaves their buffer
pub data Told : Type 0 where
  heard : Heard → Told
  batched : Answer ℕ → List ℕ → Told
  replied : Reply → Told
  not_opened : ℕ → Told

-- the verdicts that a batch or a file gives, and what is held after it
unfoldable pub numbers_in : Answer Batched → Answer (List ℕ)
numbers_in (refused k) = refused k
numbers_in (gives b) = gives b.verdicts

unfoldable pub after_batch : Held → Answer Batched → Held
after_batch h (refused k) = h
after_batch h (gives b) = b.after

-- the number of a refusal, 0 where there is none
unfoldable pub refusal_in : {A : Type 0} → Answer A → ℕ
refusal_in (refused k) = k
refusal_in (gives x) = 0

unfoldable pub told : ℕ → Held → Made → Told
unfolding answer batch nexus numbers_in length_given front reply opening refusal_in
told lent h (one c) = heard (answer h c)
told lent h (many l p v) = let x = numbers_in (batch h l p (length v)) in batched (length_given x) (front x v)
told lent h (file f v) = let x = numbers_in (nexus h f (length v)) in batched (length_given x) (front x v)
told lent h (ask q) = replied (reply h q)
told lent h (reopen x names first second) = not_opened (refusal_in (opening x names first second lent))

unfoldable pub after : Held → Made → Held
unfolding next batch nexus after_batch
after h (one c) = next h c
after h (many l p v) = after_batch h (batch h l p (length v))
after h (file f v) = after_batch h (nexus h f (length v))
after h (ask q) = h
after h (reopen x names first second) = h

unfoldable pub told_all : ℕ → Held → List Made → List Told
unfolding told after
told_all lent h [] = []
told_all lent h (c ∷ cs) = told lent h c ∷ told_all lent (after h c) cs

unfoldable pub after_all : Held → List Made → Held
unfolding after
after_all h [] = h
after_all h (c ∷ cs) = after_all (after h c) cs

-- ---- the texts that are handed in

-- "up to the first semicolon and that semicolon, or all if there is none": the first that ends a text, behind which no quotes are open
unfoldable pub cut : ℕ → Bool → List ℕ → List (List ℕ)
unfolding before_end
cut zero q p = p ∷ []
cut (suc n) q p = (before_end q p ++ semicolon ∷ []) ∷ cut n false (drop (suc (length (before_end q p))) p)

-- a file that is refused hands in nothing
unfoldable pub texts_for : File → ℕ → List (List ℕ)
unfolding different keys_of plain_texts
texts_for x room = if different (keys_of x.pairs) then if ltb room (length x.texts) then [] else plain_texts x else []

unfoldable pub file_texts : List ℕ → ℕ → List (List ℕ)
unfolding read_file texts_for
file_texts f room = elim (read_file f) [ none ↦ [] | some x ↦ texts_for x room ]

-- a batch that is refused, for its lane or for its buffer, takes nothing
unfoldable pub handed : Held → Made → List Call
unfolding lane_of open_in texts_in cut file_texts
handed h (one c) = c ∷ []
handed h (many l p v) =
    let q = open_in (lane_of h l) in
    if ltb l h.opening.numbers.lanes then
    if ltb (length v) (texts_in q p) then [] else map (feed l) (cut (texts_in q p) q p)
    else []
handed h (file f v) = map hand (file_texts f (length v))
handed h (ask q) = []
handed h (reopen x names first second) = []

unfoldable pub handed_all : Held → List Made → List Call
unfolding handed after
handed_all h [] = []
handed_all h (c ∷ cs) = handed h c ++ handed_all (after h c) cs

-- ---- unfinished text

-- a batch whose piece ends a text is none of these, also where it is refused for its buffer: how many texts it has goes by the lane's own
unfoldable pub LeavesMade : ℕ → Held → Made → Type 0
unfolding Leaves
LeavesMade j h (one c) = Leaves j h c
LeavesMade j h (many l p v) = Leaves j h (feed l p)
LeavesMade j h (file f v) = Unit {0}
LeavesMade j h (ask q) = Unit {0}
LeavesMade j h (reopen x names first second) = Unit {0}

unfoldable pub QuietMade : ℕ → Held → List Made → Type 0
unfolding LeavesMade after
QuietMade j h [] = Unit {0}
QuietMade j h (c ∷ cs) = LeavesMade j h c × QuietMade j (after h c) cs

-- ---- verdicts

-- a refusal's number, or 256 more than the tree's
unfoldable pub verdict_of : ℕ → Final
verdict_of v = if ltb v 256 then refused_with v else accepted_as (v - 256)

unfoldable pub verdicts_told : List Told → List Final
unfolding finals verdict_of
verdicts_told [] = []
verdicts_told (heard a ∷ as') = finals (a ∷ []) ++ verdicts_told as'
verdicts_told (batched (refused k) v ∷ as') = verdicts_told as'
verdicts_told (batched (gives n) v ∷ as') = map verdict_of (take n v) ++ verdicts_told as'
verdicts_told (replied a ∷ as') = verdicts_told as'
verdicts_told (not_opened k ∷ as') = verdicts_told as'

-- ---- the collision number

unfoldable pub is_collisions : Made → Bool
is_collisions (one c) = false
is_collisions (many l p v) = false
is_collisions (file f v) = false
is_collisions (ask tree-count) = false
is_collisions (ask split-count) = false
is_collisions (ask (one_split k)) = false
is_collisions (ask (split-list masks counts)) = false
is_collisions (ask (tree-splits i masks)) = false
is_collisions (ask (one-sided i j)) = false
is_collisions (ask (doubled i j)) = false
is_collisions (ask (matrix out)) = false
is_collisions (ask collisions) = true
is_collisions (ask (strict out)) = false
is_collisions (ask (majority out)) = false
is_collisions (ask (both xs ys)) = false
is_collisions (ask (write-accepted i out)) = false
is_collisions (ask (weighted i j)) = false
is_collisions (ask (split-lengths k)) = false
is_collisions (ask (write-splits out)) = false
is_collisions (ask (read-splits f masks counts)) = false
is_collisions (ask (merge f g out)) = false
is_collisions (ask (strict_tree f out)) = false
is_collisions (ask (majority-tree f out)) = false
is_collisions (ask (write-matrix out)) = false
is_collisions (ask (claim t)) = false
is_collisions (ask (release n x out)) = false
is_collisions (reopen x names first second) = false

-- an answer to no call is none
unfoldable pub other_told : List Made → List Told → List Told
unfolding is_collisions
other_told [] as' = []
other_told (c ∷ cs) [] = []
other_told (c ∷ cs) (a ∷ as') = if is_collisions c then other_told cs as' else a ∷ other_told cs as'
