-- The splits of a tree.
--
--   taxon ns w        the mask of the one taxon that the label w names; of a label that names none, no taxa
--   taxa ns t         the mask of the taxa at the leaves of t
--   clusters ns t     for each of the nodes t and each below it, the taxa at its leaves
--   insert m l        the rising list l with m, once
--   counted n cs      the splits that count among the sides of the clusters cs, rising, once
--   splits_of ns t     the splits of the tree t over the names ns
use Rattle.std.specs.Prelude.{ℕ, ◌^◌, List, [], ◌∷◌, ◌++◌, ltb, eqb, length, if◌then◌else◌}
use Rattle.std.proofs.Math.Option.{Option, none, some}
use Rattle.std.specs.Int.Bits.{bit_or}
use Rattle.trees.specs.Mask.{side, proper}
use Rattle.trees.specs.Tree.{Nodes, nil, leaf, inner, children}
use Rattle.trees.specs.Names.{taxon_of}

abbrev pub bit_of : Option ℕ → ℕ
bit_of none = 0
bit_of (some i) = 2 ^ i

unfoldable pub taxon : List (List ℕ) → List ℕ → ℕ
unfolding taxon_of
taxon ns w = bit_of (taxon_of ns w)

unfoldable pub taxa : List (List ℕ) → Nodes → ℕ
unfolding taxon
taxa ns nil = 0
taxa ns (leaf w e r) = bit_or (taxon ns w) (taxa ns r)
taxa ns (inner c e r) = bit_or (taxa ns c) (taxa ns r)

-- an edge leads to each of these nodes, and "Cutting an edge parts the taxa in two": those at its leaves, and the others
unfoldable pub clusters : List (List ℕ) → Nodes → List ℕ
unfolding taxa
clusters ns nil = []
clusters ns (leaf w e r) = taxon ns w ∷ clusters ns r
clusters ns (inner c e r) = clusters ns c ++ (taxa ns c ∷ clusters ns r)

-- "Masks are ordered as whole numbers", and a tree's splits "are a set"
unfoldable pub insert : ℕ → List ℕ → List ℕ
insert m [] = m ∷ []
insert m (x ∷ xs) = if ltb m x then m ∷ x ∷ xs else if eqb m x then x ∷ xs else x ∷ insert m xs

-- "A split counts when both sides have two taxa or more"
unfoldable pub counted : ℕ → List ℕ → List ℕ
unfolding insert side proper
counted n [] = []
counted n (c ∷ cs) = if proper n (side n c) then insert (side n c) (counted n cs) else counted n cs

-- the edges of a tree are those below its root; "where a root has two children their edges give one split"
unfoldable pub splits_of : List (List ℕ) → Nodes → List ℕ
unfolding counted clusters children
splits_of ns t = counted (length ns) (clusters ns (children t))
