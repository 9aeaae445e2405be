-- The grammar, as a relation between symbols and trees. No reader stands behind it.
--
--   MayHaveLength e x  e is nothing, or a colon and the length x
--   MayHaveLabel l     l is nothing, or a label
--   IsNode d ss t      the symbols ss are the one node t, in which at most d brackets are open at once
--   IsNodes d ss t     the symbols ss are the nodes t, with commas between
--   IsTree s t         the text s is the tree t
use Rattle.std.specs.Prelude.{ℕ, suc, ◌≤◌, ◌≡◌, true, List, [], ◌∷◌, ◌++◌}
use Rattle.std.proofs.Math.Option.{Option, none, some}
use Rattle.trees.specs.Text.{Symbol, open_bracket, close_bracket, comma, colon, token, symbols}
use Rattle.trees.specs.Length.{is_length}
use Rattle.trees.specs.Tree.{Nodes, nil, leaf, inner, beside, width}

-- "either may be followed by a colon and a length"
pub data MayHaveLength : List Symbol → Option (List ℕ) → Type 0 where
  no_length : MayHaveLength [] none
  a-length : {w : List ℕ} → is_length w ≡ true → MayHaveLength (colon ∷ token w ∷ []) (some w)

-- "an optional label", of any length
pub data MayHaveLabel : List Symbol → Type 0 where
  no_label : MayHaveLabel []
  a-label : {w : List ℕ} → MayHaveLabel (token w ∷ [])

mutual
  -- "A node is a leaf label, or an opening bracket, two or more nodes with commas between, a closing bracket and an optional label"
  pub data IsNode : ℕ → List Symbol → Nodes → Type 0 where
    is_leaf : {d : ℕ} {w : List ℕ} {e : List Symbol} {x : Option (List ℕ)} → MayHaveLength e x → IsNode d (token w ∷ e) (leaf w x nil)
    is-inner : {d : ℕ} {us ss l e : List Symbol} {c : Nodes} {x : Option (List ℕ)}
        → us ≡ ss ++ (close_bracket ∷ (l ++ e))
        → IsNodes d ss c
        → 2 ≤ width c
        → MayHaveLabel l
        → MayHaveLength e x
        → IsNode (suc d) (open_bracket ∷ us) (inner c x nil)

  pub data IsNodes : ℕ → List Symbol → Nodes → Type 0 where
    is_one : {d : ℕ} {ss : List Symbol} {t : Nodes} → IsNode d ss t → IsNodes d ss t
    is-more : {d : ℕ} {vs ss us : List Symbol} {g t k : Nodes}
        → vs ≡ ss ++ (comma ∷ us)
        → g ≡ beside t k
        → IsNode d ss t
        → IsNodes d us k
        → IsNodes d vs g

-- "nesting of brackets", the most
abbrev pub most_nesting : ℕ
most_nesting = 63

-- "A text is one node"
abbrev pub IsTree : List ℕ → Nodes → Type 0
IsTree s t = IsNode most_nesting (symbols s) t
