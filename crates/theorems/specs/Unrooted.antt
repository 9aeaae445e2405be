-- "Trees are unrooted": which trees are one unrooted tree.
--
--   Reordered t u       the nodes u are the nodes t, but that two neighbouring groups of nodes changed places, side by side or at any depth
--   ButLengths t u      the nodes u are the nodes t, but that their lengths may be others
--   SameUnrooted t u    the trees t and u are one unrooted tree, whatever their lengths: any order of the children of any node, any root
use Rattle.std.specs.Prelude.{ℕ, ◌≡◌, List}
use Rattle.std.proofs.Math.Option.{Option}
use Rattle.trees.specs.Tree.{Nodes, nil, leaf, inner, beside, width}

pub data Reordered : Nodes → Nodes → Type 0 where
  swapped : (a b r : Nodes) → Reordered (beside a (beside b r)) (beside b (beside a r))
  past-leaf : {w : List ℕ} {e : Option (List ℕ)} {t u : Nodes} → Reordered t u → Reordered (leaf w e t) (leaf w e u)
  past-node : {c t u : Nodes} {e : Option (List ℕ)} → Reordered t u → Reordered (inner c e t) (inner c e u)
  at-depth : {c d r : Nodes} {e : Option (List ℕ)} → Reordered c d → Reordered (inner c e r) (inner d e r)

pub data ButLengths : Nodes → Nodes → Type 0 where
  no-nodes : ButLengths nil nil
  same-leaf : {w : List ℕ} {e f : Option (List ℕ)} {t u : Nodes} → ButLengths t u → ButLengths (leaf w e t) (leaf w f u)
  same-node : {c d t u : Nodes} {e f : Option (List ℕ)} → ButLengths c d → ButLengths t u → ButLengths (inner c e t) (inner d f u)

-- moved: the root goes over an edge, to the child with the children c; the root's other children r are a child of it. The edge keeps its length.
-- dissolved: a root with two children stands within an edge; without it, the other child hangs on the first.
pub data SameUnrooted : Nodes → Nodes → Type 0 where
  reordered : {c d : Nodes} {x : Option (List ℕ)} → Reordered c d → SameUnrooted (inner c x nil) (inner d x nil)
  lengthened : {t u : Nodes} → ButLengths t u → SameUnrooted t u
  moved : {e x : Option (List ℕ)} (c r : Nodes) → SameUnrooted (inner (inner c e r) x nil) (inner (beside c (inner r e nil)) x nil)
  dissolved : {e x : Option (List ℕ)} (c r : Nodes) → width r ≡ 1 → SameUnrooted (inner (inner c e r) x nil) (inner (beside c r) x nil)
  itself : (t : Nodes) → SameUnrooted t t
  back : {t u : Nodes} → SameUnrooted t u → SameUnrooted u t
  onward : {t u v : Nodes} → SameUnrooted t u → SameUnrooted u v → SameUnrooted t v
