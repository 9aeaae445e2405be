-- "A text is refused exactly when a listed fault holds": the table of refusals from 6 to 12 and 17, of one whole text, in the order of
-- the checks.
-- The faults are said of the text, of the tree of the grammar that it is, and of what is held. No reader stands behind them.
--
--   Fault ns l ws k     the leaves ws, behind leaves with the taxa l, have the fault k: 8, 9 or 10
--   Faultless h s t     the text s is neither too long nor without form, and the leaves of its tree t have no fault
--   OutsideRange t      a length of the tree t is outside the exact range
--   Inexact k t         so it is, and lengths are kept (k is 1)
--   kept_lengths k ns t  the lengths of the splits of the tree t that are kept: all, or none
--   Refuses h s k       the collection h refuses the text s with the number k
--   Accepts h s b       it accepts the text s, and b are the splits of its tree and those of its lengths that are kept
use Rattle.std.specs.Prelude.{ℕ, ◌≤◌, ◌<◌, ◌≡◌, List, [], ◌∷◌, ◌++◌, eqb, length, if◌then◌else◌}
use Rattle.std.proofs.Math.Option.{none, some}
use Rattle.trees.specs.Tree.{Nodes, leaves}
use Rattle.trees.specs.Grammar.{IsTree}
use Rattle.trees.specs.Names.{taxon_of}
use Rattle.trees.specs.Splits.{splits_of}
use Rattle.trees.specs.Value.{Length, length_of}
use Rattle.trees.specs.Lengths.{tokens, lengths_of}
use Rattle.trees.specs.Verdict.{Branches}
use Rattle.trees.specs.Consensus.{recorded}
use Rattle.trees.specs.Held.{Held, most_text}
use Rattle.theorems.specs.ListLaws.{Mem}

-- "leaves from left to right for 8 or 9, then 10": "a leaf names no taxon", "a leaf's taxon came before", "a taxon is missing"
pub data Fault (ns : List (List ℕ)) : List ℕ → List (List ℕ) → ℕ → Type 0 where
  names-none : {l : List ℕ} {w : List ℕ} {ws : List (List ℕ)} → taxon_of ns w ≡ none → Fault ns l (w ∷ ws) 8
  came-before : {l : List ℕ} {w : List ℕ} {ws : List (List ℕ)} {i : ℕ} → taxon_of ns w ≡ some i → Mem i l → Fault ns l (w ∷ ws) 9
  further : {l : List ℕ} {w : List ℕ} {ws : List (List ℕ)} {i k : ℕ} → taxon_of ns w ≡ some i → (Mem i l → ⊥) → Fault ns (i ∷ l) ws k → Fault ns l (w ∷ ws) k
  missing : {l : List ℕ} {i : ℕ} → i < length ns → (Mem i l → ⊥) → Fault ns l [] 10

-- none of 6 to 10
pub record Faultless (h : Held) (s : List ℕ) (t : Nodes) : Type 0 where
  pub short : length s ≤ most_text
  pub tree : IsTree s t
  pub leaves-fine : (k : ℕ) → Fault h.opening.names [] (leaves t) k → ⊥

-- "any length in the text outside the exact range", those of leaves and of the root too
abbrev pub OutsideRange : Nodes → Type 0
OutsideRange t = (w : List ℕ) × Mem w (tokens t) × (length_of w ≡ none)

-- "Opening says whether lengths are kept; if not .., all is as before"
abbrev pub Inexact : ℕ → Nodes → Type 0
Inexact kept t = (kept ≡ 0 → ⊥) × OutsideRange t

abbrev pub kept_lengths : ℕ → List (List ℕ) → Nodes → List Length
kept_lengths kept ns t = if eqb kept 0 then [] else lengths_of ns t

-- "accepted trees equal the tree room"
abbrev pub TreesFull : Held → Type 0
TreesFull h = length h.trees ≡ h.opening.numbers.tree_room

-- "recorded splits and this tree's new ones together"
abbrev pub splits_with : Held → Nodes → ℕ
splits_with h t = length (recorded (h.trees ++ splits_of h.opening.names t ∷ []))

-- "A verdict checks 6, then 7 over all the text, then leaves from left to right for 8 or 9, then 10, 11, 12"; 17 stands "after 10"
pub data Refuses (h : Held) (s : List ℕ) : ℕ → Type 0 where
  too_long : most_text < length s → Refuses h s 6
  no-form : length s ≤ most_text → ((t : Nodes) → IsTree s t → ⊥) → Refuses h s 7
  leaf-fault : {t : Nodes} {k : ℕ} → length s ≤ most_text → IsTree s t → Fault h.opening.names [] (leaves t) k → Refuses h s k
  inexact : {t : Nodes} → Faultless h s t → Inexact h.opening.numbers.kept t → Refuses h s 17
  no-tree-room : {t : Nodes} → Faultless h s t → (Inexact h.opening.numbers.kept t → ⊥) → TreesFull h → Refuses h s 11
  no-split-room : {t : Nodes} → Faultless h s t → (Inexact h.opening.numbers.kept t → ⊥) → (TreesFull h → ⊥) → h.opening.numbers.split_room < splits_with h t
      → Refuses h s 12

-- none of these, and exactly the splits of the tree and their lengths
pub record Accepts (h : Held) (s : List ℕ) (b : Branches) : Type 0 where
  pub tree : Nodes
  pub faultless : Faultless h s tree
  pub in-range : Inexact h.opening.numbers.kept tree → ⊥
  pub tree-room : TreesFull h → ⊥
  pub split-room : splits_with h tree ≤ h.opening.numbers.split_room
  pub splits : b.splits ≡ splits_of h.opening.names tree
  pub lengths : b.lengths ≡ kept_lengths h.opening.numbers.kept h.opening.names tree
