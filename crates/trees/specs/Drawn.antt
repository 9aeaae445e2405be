-- A tree drawn in plain text: one line a taxon, its name at the line's end, and on the branch to each group the number of trees that have
-- it. The branches stand in the order of the written tree.
--
--   hung a b ls           the lines ls, with a before the first and b before each other
--   branch_to k            the branch to a group that k trees have
--   branch ls rest        a branch of a node, with the lines ls, and the lines of the branches that follow
--   picture ns ts t       the lines of the nodes t, over the names ns; groups are counted in the trees ts
--   drawn ns ts s         the lines of the tree of the splits s
use Rattle.std.specs.Prelude.{ℕ, List, [], ◌∷◌, ◌++◌, map}
use Rattle.trees.specs.Plain.{bytes, byte}
use Rattle.trees.specs.Decimal.{digits_of}
use Rattle.trees.specs.Tree.{Nodes, nil, leaf, inner, children}
use Rattle.trees.specs.Splits.{taxa}
use Rattle.trees.specs.Consensus.{count}
use Rattle.trees.specs.Written.{tree_of}

unfoldable pub hung : List ℕ → List ℕ → List (List ℕ) → List (List ℕ)
hung a b [] = []
hung a b (l ∷ ls) = (a ++ l) ∷ map (λ k. b ++ k) ls

-- "counts on the branches"
unfoldable pub branch_to : ℕ → List ℕ
unfolding digits_of
branch_to k = byte "-" ∷ (digits_of k ++ byte "-" ∷ [])

-- as many blanks as a branch has bytes
unfoldable pub blank : List ℕ → List ℕ
blank w = map (λ b. byte " ") w

-- what stands below a branch: a bar, where another one follows
unfoldable pub below : List (List ℕ) → List ℕ
below [] = byte " " ∷ []
below (l ∷ ls) = byte "|" ∷ []

unfoldable pub branch : List (List ℕ) → List (List ℕ) → List (List ℕ)
unfolding hung below
branch ls rest = hung (byte "+" ∷ []) (below rest) ls ++ rest

-- "one line a strain": a leaf has its label, an inner node the lines of its children behind its branch
unfoldable pub picture : List (List ℕ) → List (List ℕ) → Nodes → List (List ℕ)
unfolding hung branch_to blank branch bytes taxa count
picture ns ts nil = []
picture ns ts (leaf w e r) = branch ((bytes "- " ++ w) ∷ []) (picture ns ts r)
picture ns ts (inner c e r) =
    let k = branch_to (count ts (taxa ns c)) in
    branch (hung k (blank k) (picture ns ts c)) (picture ns ts r)

-- "the majority tree drawn": the written one
unfoldable pub drawn : List (List ℕ) → List (List ℕ) → List ℕ → List (List ℕ)
unfolding picture tree_of children
drawn ns ts s = picture ns ts (children (tree_of ns s))
