-- The lengths of a tree.
--
--   edges ns t     for each of the nodes t and each below it, the taxa at its leaves and its length
--   tokens t       every length of the nodes t and of those below them
--   exact t        all of them are in the exact range
--   lengths_at ..   the lengths of the edges that give the split m
--   summed xs      the length of a split whose edges have the lengths xs
--   lengths_of ns t the lengths of the splits of the tree t, in the order of `splits_of`
use Rattle.std.specs.Prelude.{ℕ, Bool, true, false, List, [], ◌∷◌, ◌++◌, map, eqb, length, if◌then◌else◌}
use Rattle.std.proofs.Math.Option.{Option, none, some}
use Rattle.std.specs.Float.{binary64}
use Rattle.std.specs.Float.Ieee.{add}
use Rattle.trees.specs.Plain.{every}
use Rattle.trees.specs.Mask.{side}
use Rattle.trees.specs.Tree.{Nodes, nil, leaf, inner, children}
use Rattle.trees.specs.Splits.{taxon, taxa, splits_of}
use Rattle.trees.specs.Value.{Length, length_of}

-- an edge leads to each node below: the taxa at its leaves, and its length, if it has one
unfoldable pub edges : List (List ℕ) → Nodes → List (ℕ × Option (List ℕ))
unfolding taxon taxa
edges ns nil = []
edges ns (leaf w e r) = (taxon ns w, e) ∷ edges ns r
edges ns (inner c e r) = edges ns c ++ ((taxa ns c, e) ∷ edges ns r)

-- "any length in the text", those of leaves and of the root too
unfoldable pub tokens : Nodes → List (List ℕ)
tokens nil = []
tokens (leaf w none r) = tokens r
tokens (leaf w (some x) r) = x ∷ tokens r
tokens (inner c none r) = tokens c ++ tokens r
tokens (inner c (some x) r) = tokens c ++ (x ∷ tokens r)

-- the value of a length, if there is one
abbrev pub value_of : Option (List ℕ) → Length
value_of none = none
value_of (some w) = length_of w

abbrev pub is_given : Length → Bool
is_given none = false
is_given (some x) = true

-- "17 any length in the text outside the exact range"
unfoldable pub exact : Nodes → Bool
unfolding every length_of tokens
exact t = every (λ w. is_given (length_of w)) (tokens t)

unfoldable pub lengths_at : ℕ → ℕ → List (ℕ × Option (List ℕ)) → List Length
unfolding side length_of
lengths_at n m [] = []
lengths_at n m (e ∷ es) = if eqb (side n e.0) m then value_of e.1 ∷ lengths_at n m es else lengths_at n m es

-- "A two-child root's single split has the sum of both lengths, or none if either has none"
unfoldable pub together : Length → Length → Length
unfolding add
together none y = none
together (some x) none = none
together (some x) (some y) = some (add binary64 x y)

-- an edge's own length, where no other gives its split
unfoldable pub summed : List Length → Length
unfolding together
summed [] = none
summed (x ∷ []) = x
summed (x ∷ y ∷ xs) = together x y

unfoldable pub lengths_of : List (List ℕ) → Nodes → List Length
unfolding edges children lengths_at summed splits_of
lengths_of ns t = map (λ m. summed (lengths_at (length ns) m (edges ns (children t)))) (splits_of ns t)
