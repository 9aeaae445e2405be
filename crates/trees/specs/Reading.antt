-- Reading a text: the grammar as a function. It is proved to find exactly the trees of the relation in Grammar (crate `theorems`).
--
--   Read              nothing, or the nodes read and the symbols behind them
--   read_node f d ss   the node at the front of ss, with at most d brackets open at once; f is more than enough steps
--   read_nodes f d ss  the nodes at the front of ss, with commas between
--   reading s         the tree that the text s is, or nothing
use Rattle.std.specs.Prelude.{ℕ, zero, suc, ◌*◌, List, [], ◌∷◌, leb, length, if◌then◌else◌}
use Rattle.std.proofs.Math.Option.{Option, none, some}
use Rattle.trees.specs.Text.{Symbol, open_bracket, close_bracket, comma, colon, stray, token, symbols, symbols_after}
use Rattle.trees.specs.Length.{is_length}
use Rattle.trees.specs.Tree.{Nodes, leaf_with, inner_with, beside, width}
use Rattle.trees.specs.Grammar.{most_nesting}

abbrev pub Read : Type 0
Read = Option (Nodes × List Symbol)

-- behind a node: a colon and a length, or nothing; the node is t of that length
unfoldable pub read_length : (Option (List ℕ) → Nodes) → List Symbol → Read
unfolding is_length
read_length t [] = some (t none, [])
read_length t (open_bracket ∷ r) = some (t none, open_bracket ∷ r)
read_length t (close_bracket ∷ r) = some (t none, close_bracket ∷ r)
read_length t (comma ∷ r) = some (t none, comma ∷ r)
read_length t (stray ∷ r) = some (t none, stray ∷ r)
read_length t (token w ∷ r) = some (t none, token w ∷ r)
read_length t (colon ∷ []) = none
read_length t (colon ∷ open_bracket ∷ r) = none
read_length t (colon ∷ close_bracket ∷ r) = none
read_length t (colon ∷ comma ∷ r) = none
read_length t (colon ∷ colon ∷ r) = none
read_length t (colon ∷ stray ∷ r) = none
read_length t (colon ∷ token w ∷ r) = if is_length w then some (t (some w), r) else none

-- behind a closing bracket: a label or nothing, then a colon and a length or nothing
unfoldable pub read_label : (Option (List ℕ) → Nodes) → List Symbol → Read
unfolding read_length
read_label t [] = some (t none, [])
read_label t (open_bracket ∷ r) = read_length t (open_bracket ∷ r)
read_label t (close_bracket ∷ r) = read_length t (close_bracket ∷ r)
read_label t (comma ∷ r) = read_length t (comma ∷ r)
read_label t (colon ∷ r) = read_length t (colon ∷ r)
read_label t (stray ∷ r) = read_length t (stray ∷ r)
read_label t (token w ∷ r) = read_length t r

-- behind the children c: the closing bracket, if they are two or more
unfoldable pub read_closing : Nodes → List Symbol → Read
unfolding read_label width
read_closing c [] = none
read_closing c (open_bracket ∷ r) = none
read_closing c (close_bracket ∷ r) = if leb 2 (width c) then read_label (inner_with c) r else none
read_closing c (comma ∷ r) = none
read_closing c (colon ∷ r) = none
read_closing c (stray ∷ r) = none
read_closing c (token w ∷ r) = none

unfoldable pub bracketed : Read → Read
unfolding read_closing
bracketed none = none
bracketed (some p) = read_closing p.0 p.1

-- a node t, and the nodes that were read behind its comma
unfoldable pub joined : Nodes → Read → Read
unfolding beside
joined t none = none
joined t (some p) = some (beside t p.0, p.1)

-- behind a node t: a comma and what `more` reads, or the end of the nodes
unfoldable pub read_comma : Nodes → List Symbol → (List Symbol → Read) → Read
unfolding joined
read_comma t [] more = some (t, [])
read_comma t (open_bracket ∷ r) more = some (t, open_bracket ∷ r)
read_comma t (close_bracket ∷ r) more = some (t, close_bracket ∷ r)
read_comma t (colon ∷ r) more = some (t, colon ∷ r)
read_comma t (stray ∷ r) more = some (t, stray ∷ r)
read_comma t (token w ∷ r) more = some (t, token w ∷ r)
read_comma t (comma ∷ r) more = joined t (more r)

unfoldable pub followed : Read → (List Symbol → Read) → Read
unfolding read_comma
followed none more = none
followed (some p) more = read_comma p.0 p.1 more

unfoldable mutual
  unfolding read_length bracketed followed

  pub read_node : ℕ → ℕ → List Symbol → Read
  read_node zero d ss = none
  read_node (suc f) d [] = none
  read_node (suc f) d (close_bracket ∷ r) = none
  read_node (suc f) d (comma ∷ r) = none
  read_node (suc f) d (colon ∷ r) = none
  read_node (suc f) d (stray ∷ r) = none
  read_node (suc f) d (token w ∷ r) = read_length (leaf_with w) r
  read_node (suc f) zero (open_bracket ∷ r) = none
  read_node (suc f) (suc d) (open_bracket ∷ r) = bracketed (read_nodes f d r)

  pub read_nodes : ℕ → ℕ → List Symbol → Read
  read_nodes zero d ss = none
  read_nodes (suc f) d ss = followed (read_node f d ss) (λ r. read_nodes f d r)

-- nothing stands behind the node
abbrev pub alone : Read → Option Nodes
alone none = none
alone (some p) = elim p.1 [ [] ↦ some p.0 | x ∷ r ↦ none ]

unfoldable pub reading : List ℕ → Option Nodes
unfolding read_node read_nodes symbols_after
reading s = alone (read_node (suc (2 * length s)) most_nesting (symbols s))
