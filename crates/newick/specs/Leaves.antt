-- What the leaves of a text come to, judged from left to right.
--
--   most_leaves               how many leaves are judged at most: one more than there are taxa has a fault among them
--   Tokens s l k             the first k tokens in l lie in the bytes s
--   LeafNew, LeafAdded       one more leaf, with the label w, behind leaves with the taxa m
--   AllSummed                the first k leaves name different taxa, and their running sums stand in u
--   LeavesSummed             what they come to: 8 or 9, whatever leaves stand behind them, or all this
use Rattle.std.specs.Prelude.{◌≡◌, ℕ, suc, ◌+◌, ◌*◌, ◌<◌, ◌≤◌, List, ◌∷◌, ◌++◌, length, bit_or, count_ones, slice_index, Result, Ok, Err}
use Rattle.trees.specs.Splits.{taxon}
use Rattle.trees.specs.Opening.{Opening}
use Rattle.trees.specs.Verdict.{leaf_fault}
use Rattle.answers.specs.Answers.{refusal_number}
use Rattle.records.specs.Records.{wide}
use Rattle.newick.specs.Splits.{Hashed}
use Rattle.newick.specs.Running.{labels_at, label_taxa, Running}
use Rattle.newick.specs.declared.splits.Sums.{Sums}
use Rattle.answers.specs.declared.Refusal.{Refusal}

abbrev pub most_leaves : ℕ
most_leaves = 65

pub record Tokens (s l : List ℕ) (k : ℕ) : Type 0 where
  pub begins : (j : ℕ) → j < k → slice_index l (2 * j) ≤ slice_index l (2 * j + 1)
  pub ends : (j : ℕ) → j < k → slice_index l (2 * j + 1) ≤ length s

-- y are the sums with the leaf: the leaves behind it decide the verdict
pub record LeafNew (o : Opening) (w : List ℕ) (m : ℕ) (y : Sums) : Type 0 where
  pub masked : y.mask ≡ bit_or m (taxon o.names w)
  pub more : count_ones y.mask ≡ suc (count_ones m)
  pub judged : (ws : List (List ℕ)) → leaf_fault o.names m (w ∷ ws) ≡ leaf_fault o.names y.mask ws
  pub hashed : Hashed o y.mask y.place y.identifier

unfoldable pub LeafAdded : Opening → List ℕ → ℕ → Result Sums Refusal → Type 0
LeafAdded o w m (Err r) = (ws : List (List ℕ)) → leaf_fault o.names m (w ∷ ws) ≡ refusal_number r
LeafAdded o w m (Ok y) = LeafNew o w m y

pub record AllSummed (o : Opening) (s l : List ℕ) (k : ℕ) (u : List ℕ) : Type 0 where
  pub masked : (j : ℕ) → j ≤ k → slice_index u (wide * j) ≡ label_taxa o.names (labels_at s l j)
  pub running : Running o k u
  pub count : count_ones (label_taxa o.names (labels_at s l k)) ≡ k
  pub judged : (ws : List (List ℕ)) → leaf_fault o.names 0 (labels_at s l k ++ ws) ≡ leaf_fault o.names (label_taxa o.names (labels_at s l k)) ws

unfoldable pub LeavesSummed : Opening → List ℕ → List ℕ → ℕ → List ℕ → Result (Unit {0}) Refusal → Type 0
LeavesSummed o s l k u (Err r) = (ws : List (List ℕ)) → leaf_fault o.names 0 (labels_at s l k ++ ws) ≡ refusal_number r
LeavesSummed o s l k u (Ok tt) = AllSummed o s l k u
