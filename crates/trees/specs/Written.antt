-- The tree of a set of splits, and its text.
--
--   widest m i s     of the masks of s that are below m and have taxon i, the greatest; 0 where there is none.
--                    Masks that agree and share a taxon lie within each other, so it is the widest within m
--   branches ..      the children of a node with the taxa m, from those that have the taxa r, in order of their smallest taxon
--   written_name w    the label that a name is written as
--   tree_of ns s      the tree that has exactly the splits s
--   shown t          its bytes
--   written ns s     and a semicolon
use Rattle.std.specs.Prelude.{ℕ, zero, suc, ◌+◌, ◌^◌, Bool, true, false, ◌&&◌, not, List, [], ◌∷◌, ◌++◌, map, ltb, eqb, length, get_or, if◌then◌else◌}
use Rattle.std.proofs.Math.Option.{none}
use Rattle.trees.specs.Plain.{every, member, bytes, byte}
use Rattle.trees.specs.Text.{semicolon, apostrophe}
use Rattle.trees.specs.Mask.{has, every_taxon, without, lowest}
use Rattle.trees.specs.Tree.{Nodes, nil, leaf, inner}

unfoldable pub wider : ℕ → ℕ → ℕ → ℕ → ℕ
unfolding has
wider m i x best = if ltb best x && (ltb x m && has x i) then x else best

-- the greatest of s and `best`
unfoldable pub widest_or : ℕ → ℕ → ℕ → List ℕ → ℕ
unfolding wider
widest_or best m i [] = best
widest_or best m i (x ∷ s) = widest_or (wider m i x best) m i s

unfoldable pub widest : ℕ → ℕ → List ℕ → ℕ
unfolding widest_or
widest m i s = widest_or 0 m i s

-- every quote twice
unfoldable pub doubled : List ℕ → List ℕ
doubled [] = []
doubled (b ∷ w) = if eqb b apostrophe then b ∷ b ∷ doubled w else b ∷ doubled w

-- "an underscore or one of `( ) [ ] ' : ; ,`"
unfoldable pub wants_quotes : ℕ → Bool
unfolding member bytes
wants_quotes b = member b (bytes "_()[]':;,")

-- "otherwise blanks become underscores"
unfoldable pub underscored : ℕ → ℕ
underscored b = if eqb b (byte " ") then byte "_" else b

-- "A written name is quoted exactly if it holds an underscore or one of" the marks
unfoldable pub written_name : List ℕ → List ℕ
unfolding every wants_quotes doubled underscored
written_name w = if every (λ b. not (wants_quotes b)) w then map underscored w else apostrophe ∷ (doubled w ++ apostrophe ∷ [])

-- the child with the smallest taxon i that is left, a leaf or the node of the mask x; then the others. f is more than enough steps
unfoldable pub branches : ℕ → List (List ℕ) → List ℕ → ℕ → ℕ → Nodes
unfolding lowest widest without written_name
branches zero ns s m r = nil
branches (suc f) ns s m r =
    let i = lowest r in
    let x = widest m i s in
    elim (eqb r 0) [
      | true ↦ nil
      | false ↦
          elim (eqb x 0) [
            | true ↦ leaf (written_name (get_or ns i [])) none (branches f ns s m (without r (2 ^ i)))
            | false ↦ inner (branches f ns s x x) none (branches f ns s m (without r x))
          ]
    ]

-- "with taxon 0 as a child of the root, the children of every node in order of their smallest taxon"
unfoldable pub tree_of : List (List ℕ) → List ℕ → Nodes
unfolding branches every_taxon
tree_of ns s = let all = every_taxon (length ns) in inner (branches (suc (all + all)) ns s all all) none nil

-- a comma, where a node follows
unfoldable pub parted : Nodes → List ℕ → List ℕ
parted nil s = s
parted (leaf w e r) s = byte "," ∷ s
parted (inner c e r) s = byte "," ∷ s

-- "no blanks outside names, no lengths or inner labels"
unfoldable pub shown : Nodes → List ℕ
unfolding parted
shown nil = []
shown (leaf w e r) = w ++ parted r (shown r)
shown (inner c e r) = byte "(" ∷ (shown c ++ (byte ")" ∷ parted r (shown r)))

-- "and a semicolon"
unfoldable pub written : List (List ℕ) → List ℕ → List ℕ
unfolding tree_of shown
written ns s = shown (tree_of ns s) ++ semicolon ∷ []
