-- Trees.
--
--   Nodes            nodes side by side: none; a leaf, by its label and its length, and the nodes behind it; an inner node, by its children and
--                    its length, and the nodes behind it. A tree is one node.
--   leaf_with w e     a leaf alone, with the length e
--   inner_with c e    an inner node alone, with the length e
--   beside t k       the nodes t, and behind them k
--   width t          how many nodes stand side by side
--   leaves t         the labels of the leaves, from left to right
--   nesting t        the largest number of brackets open at once
--   children t       the nodes below the first node
use Rattle.std.specs.Prelude.{ℕ, suc, max, List, [], ◌∷◌, ◌++◌}
use Rattle.std.proofs.Math.Option.{Option}

-- a length is the token that stands there: "A branch has a length or has none"
pub data Nodes : Type 0 where
  nil : Nodes
  leaf : List ℕ → Option (List ℕ) → Nodes → Nodes
  inner : Nodes → Option (List ℕ) → Nodes → Nodes

abbrev pub leaf_with : List ℕ → Option (List ℕ) → Nodes
leaf_with w e = leaf w e nil

abbrev pub inner_with : Nodes → Option (List ℕ) → Nodes
inner_with c e = inner c e nil

unfoldable pub beside : Nodes → Nodes → Nodes
beside nil k = k
beside (leaf w e r) k = leaf w e (beside r k)
beside (inner c e r) k = inner c e (beside r k)

unfoldable pub width : Nodes → ℕ
width nil = 0
width (leaf w e r) = suc (width r)
width (inner c e r) = suc (width r)

unfoldable pub leaves : Nodes → List (List ℕ)
leaves nil = []
leaves (leaf w e r) = w ∷ leaves r
leaves (inner c e r) = leaves c ++ leaves r

unfoldable pub nesting : Nodes → ℕ
nesting nil = 0
nesting (leaf w e r) = nesting r
nesting (inner c e r) = max (suc (nesting c)) (nesting r)

unfoldable pub children : Nodes → Nodes
children nil = nil
children (leaf w e r) = nil
children (inner c e r) = c
