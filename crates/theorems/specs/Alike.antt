-- Collections that are alike in what the answers come from.
--
--   Alike h k          the same taxa, names, number of lanes, rooms, trees and lengths, kept or not; constants, places and unfinished texts may differ
--   with_places x m     the numbers x, with m hash places
--   SaveOthers l h k   the same but for the texts of lanes other than l
--   SameFed f g        two feedings that answer the same and leave the collections alike
--   SameClosed f g     two closings that do
--   SameWithdrawn f g  two withdrawals that do
--   SameAnswers h k    every question but that for the collision number has the same answer
--   SameRun h k cs     the calls cs have the same answers, and leave the same trees, lengths and texts and the same answers to questions
use Rattle.std.specs.Prelude.{ℕ, ◌≡◌, List, length}
use Rattle.trees.specs.Opening.{Numbers}
use Rattle.trees.specs.Held.{Held, lane_of, Fed, Closed}
use Rattle.trees.specs.Withdrawing.{Withdrawn}
use Rattle.trees.specs.Questions.{trees_held, splits_held, split_list, split_number, tree_number, one_sided_of, doubled_of, matrix_of, strict_of, majority_of, both_of, written_of, weighted_of, sums_of}
use Rattle.trees.specs.SplitFileCall.{file_of, reading_of, merging_of, strict_file_of, majority_file_of}
use Rattle.trees.specs.PhylipCall.{phylip_of}
use Rattle.trees.specs.Claim.{claim_of}
use Rattle.trees.specs.Runs.{Call, answers, ending}

-- ---- collections

pub record Alike (h k : Held) : Type 0 where
  pub taxa : h.opening.numbers.taxa ≡ k.opening.numbers.taxa
  pub names : h.opening.names ≡ k.opening.names
  pub lanes : h.opening.numbers.lanes ≡ k.opening.numbers.lanes
  pub tree_room : h.opening.numbers.tree_room ≡ k.opening.numbers.tree_room
  pub split_room : h.opening.numbers.split_room ≡ k.opening.numbers.split_room
  pub kept : h.opening.numbers.kept ≡ k.opening.numbers.kept
  pub trees : h.trees ≡ k.trees
  pub lengths : h.lengths ≡ k.lengths

unfoldable pub with_places : Numbers → ℕ → Numbers
with_places x m = record { taxa = x.taxa; lanes = x.lanes; tree_room = x.tree_room; split_room = x.split_room; places = m; kept = x.kept }

-- the lane l is the same, and there are as many lanes
pub record SaveOthers (l : ℕ) (h k : Held) : Type 0 where
  pub opening : h.opening ≡ k.opening
  pub trees : h.trees ≡ k.trees
  pub lengths : h.lengths ≡ k.lengths
  pub lane : lane_of h l ≡ lane_of k l
  pub lanes : length h.texts ≡ length k.texts

-- ---- calls

pub record SameFed (f g : Fed) : Type 0 where
  pub taken : f.taken ≡ g.taken
  pub answer : f.answer ≡ g.answer
  pub after : Alike f.after g.after

pub record SameClosed (f g : Closed) : Type 0 where
  pub answer : f.answer ≡ g.answer
  pub after : Alike f.after g.after

pub record SameWithdrawn (f g : Withdrawn) : Type 0 where
  pub answer : f.answer ≡ g.answer
  pub after : Alike f.after g.after

-- ---- questions and runs

-- "it is the only answer that may depend on m or the constants": all but `collisions_of`
pub record SameAnswers (h k : Held) : Type 0 where
  pub number-of-trees : trees_held h ≡ trees_held k
  pub number-of-splits : splits_held h ≡ splits_held k
  pub splits-and-counts : (mask_room count_room : ℕ) → split_list h mask_room count_room ≡ split_list k mask_room count_room
  pub split-and-count : (s : ℕ) → split_number h s ≡ split_number k s
  pub splits-of-tree : (i room : ℕ) → tree_number h i room ≡ tree_number k i room
  pub one-sided : (i j : ℕ) → one_sided_of h i j ≡ one_sided_of k i j
  pub doubled : (i j : ℕ) → doubled_of h i j ≡ doubled_of k i j
  pub matrix : (room : ℕ) → matrix_of h room ≡ matrix_of k room
  pub strict : (room : ℕ) → strict_of h room ≡ strict_of k room
  pub majority : (room : ℕ) → majority_of h room ≡ majority_of k room
  pub both : (strict_room majority_room : ℕ) → both_of h strict_room majority_room ≡ both_of k strict_room majority_room
  pub written : (i room : ℕ) → written_of h i room ≡ written_of k i room
  pub weighted : (i j : ℕ) → weighted_of h i j ≡ weighted_of k i j
  pub sums : (s : ℕ) → sums_of h s ≡ sums_of k s
  pub split-file : (room : ℕ) → file_of h room ≡ file_of k room
  pub file-read : (f : List ℕ) (mask_room count_room : ℕ) → reading_of h f mask_room count_room ≡ reading_of k f mask_room count_room
  pub files-merged : (f g : List ℕ) (room : ℕ) → merging_of h f g room ≡ merging_of k f g room
  pub file-strict : (f : List ℕ) (room : ℕ) → strict_file_of h f room ≡ strict_file_of k f room
  pub file-majority : (f : List ℕ) (room : ℕ) → majority_file_of h f room ≡ majority_file_of k f room
  pub phylip : (room : ℕ) → phylip_of h room ≡ phylip_of k room
  pub claim : (t : List ℕ) → claim_of h t ≡ claim_of k t
  -- what sheets of the collection go by
  pub taxa : h.opening.numbers.taxa ≡ k.opening.numbers.taxa
  pub names : h.opening.names ≡ k.opening.names
  pub trees : h.trees ≡ k.trees

-- two runs of the calls cs that nobody can tell apart, save by the collision number
pub record SameRun (h k : Held) (cs : List Call) : Type 0 where
  pub heard : answers h cs ≡ answers k cs
  pub trees : (ending h cs).trees ≡ (ending k cs).trees
  pub lengths : (ending h cs).lengths ≡ (ending k cs).lengths
  pub texts : (ending h cs).texts ≡ (ending k cs).texts
  pub questions : SameAnswers (ending h cs) (ending k cs)
