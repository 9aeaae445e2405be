-- The splits that are chosen from a file's records, and their tree.
--
--   enough least r          at least `least` trees have the split of the record r
--   chosen_in least rs       the masks of the records rs whose splits so many have
--   chosen_by x rs           those that the rule x chooses
--   least_for x t            how many of t trees must have a split, by the rule x
--   tree_asked x s f room    the tree of the file f by the rule x, written
--   agreed_asked s l room    the tree of the splits l, written; 23 where two of them disagree
--   ChosenAs l r list       the splits l are found as r, and stand at the front of the list
--   Chose least rs list k i     the first k of the list and then those from record i on are the chosen of rs; the first k agree
use Rattle.std.specs.Prelude.{◌≡◌, ℕ, ◌+◌, ◌/◌, ◌<◌, ◌≤◌, Bool, true, List, ◌++◌, length, take, drop, nat_le, if◌then◌else◌, Result, Ok, Err}
use Rattle.trees.specs.Plain.{Answer, refused, keep}
use Rattle.trees.specs.Whole.{agree_in_pairs}
use Rattle.trees.specs.SplitFile.{Record, masks_of, strict_in, majority_in}
use Rattle.trees.specs.SplitFileCall.{if_records, chosen_tree}
use Rattle.store.specs.Lent.{if_whole}
use Rattle.consensus.specs.Consensus.{text_asked}
use Rattle.splitfile.specs.declared.choosing.Rule.{Rule}
use Rattle.splitfile.specs.declared.choosing.Rule.TheVariants as rule
use Rattle.answers.specs.declared.Refusal.{Refusal}
use Rattle.answers.specs.declared.Refusal.TheVariants as why

abbrev pub enough : ℕ → Record → Bool
enough least r = nat_le least r.count

unfoldable pub chosen_in : ℕ → List Record → List ℕ
unfolding masks_of keep
chosen_in least rs = masks_of (keep (enough least) rs)

unfoldable pub chosen_by : Rule → List Record → List ℕ
unfolding strict_in majority_in
chosen_by rule.Strict rs = strict_in rs
chosen_by rule.Majority rs = majority_in rs

-- "strict if all t trees have it"; "majority if twice its count is more than t"
unfoldable pub least_for : Rule → ℕ → ℕ
least_for rule.Strict t = t
least_for rule.Majority t = t / 2 + 1

abbrev pub tree_asked : Rule → List ℕ → List ℕ → ℕ → Answer (List ℕ)
tree_asked x s f room = if_whole s (λ h. if_records h f (λ rs. chosen_tree h rs (chosen_by x rs) room))

-- "23 two chosen splits disagree"
abbrev pub agreed_asked : List ℕ → List ℕ → ℕ → Answer (List ℕ)
agreed_asked s l room = if agree_in_pairs l then text_asked s l room else refused 23

-- they disagree, or are more than the list has places for
unfoldable pub ChosenAs : List ℕ → Result ℕ Refusal → List ℕ → Type 0
unfolding agree_in_pairs
ChosenAs l (Ok k) list = (take k list ≡ l) × (k ≤ length list) × (agree_in_pairs l ≡ true)
ChosenAs l (Err r) list = (r ≡ why.Disagreeing) × (agree_in_pairs l ≡ true → length list < length l)

pub record Chose (least : ℕ) (rs : List Record) (list : List ℕ) (k i : ℕ) : Type 0 where
  pub all : take k list ++ chosen_in least (drop i rs) ≡ chosen_in least rs
  pub agreeing : agree_in_pairs (take k list) ≡ true
