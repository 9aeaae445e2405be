-- A tree drawn in plain text: one line a taxon, in the order of the written tree.
--
--   EndsWith w l          the line l ends with "- " and the label w
--   Labelled ws ls        there is one line of ls for each label of ws, in that order, and it ends with it
--   lines-labelled        the lines of a drawing are so labelled with the leaves of the written tree, from left to right
--   lines-count           so there are as many lines as taxa
use Rattle.std.specs.Prelude.{ℕ, suc, ◌≡◌, refl, true, length}
use Rattle.std.proofs.Common.{arith, ap, sym, ◌∙◌}
use Rattle.std.proofs.Math.Path.{subst}
use mathlib.Core.List.{List, [], ◌∷◌, ◌++◌, map, append_assoc, append-nil}
use Rattle.trees.specs.Plain.{bytes, byte}
use Rattle.trees.specs.Tree.{Nodes, nil, leaf, inner, leaves, children}
use Rattle.trees.specs.Names.{good_names}
use Rattle.trees.specs.Splits.{taxa}
use Rattle.trees.specs.Consensus.{count}
use Rattle.trees.specs.Written.{tree_of}
use Rattle.trees.specs.Whole.{good_tree}
use Rattle.trees.specs.Drawn.{hung, branch_to, blank, below, branch, picture, drawn}
use Rattle.theorems.specs.OnesLaws.{ones-zero}
use Rattle.theorems.specs.NameLaws.{good-count}
use Rattle.theorems.specs.FewLaws.{leaves-count}
use Rattle.theorems.specs.WrittenLaws.{tree-faultless}

-- ---- lines that end with labels

abbrev pub EndsWith : List ℕ → List ℕ → Type 0
EndsWith w l = (front : List ℕ) × (l ≡ front ++ (bytes "- " ++ w))

abbrev pub Labelled : List (List ℕ) → List (List ℕ) → Type 0
Labelled [] [] = Unit {0}
Labelled [] (l ∷ ls) = ⊥
Labelled (w ∷ ws) [] = ⊥
Labelled (w ∷ ws) (l ∷ ls) = EndsWith w l × Labelled ws ls

labelled-count : (ws ls : List (List ℕ)) → Labelled ws ls → length ls ≡ length ws
labelled-count (w ∷ ws) [] a = elim a [ ]
labelled-count [] (l ∷ ls) a = elim a [ ]
labelled-count [] [] a = refl
labelled-count (w ∷ ws) (l ∷ ls) a = ap suc (labelled-count ws ls a.1)

labelled-append : (ws vs ls ks : List (List ℕ)) → Labelled ws ls → Labelled vs ks → Labelled (ws ++ vs) (ls ++ ks)
labelled-append (w ∷ ws) vs [] ks a b = elim a [ ]
labelled-append [] vs (l ∷ ls) ks a b = elim a [ ]
labelled-append [] vs [] ks a b = b
labelled-append (w ∷ ws) vs (l ∷ ls) ks a b = (a.0, labelled-append ws vs ls ks a.1 b)

-- more before a line
ends-behind : (a w l : List ℕ) → EndsWith w l → EndsWith w (a ++ l)
ends-behind a w l e = (a ++ e.0, ap (λ (k : List ℕ). a ++ k) e.1 ∙ sym (append_assoc a e.0 (bytes "- " ++ w)))

labelled-map : (b : List ℕ) (ws ls : List (List ℕ)) → Labelled ws ls → Labelled ws (map (λ k. b ++ k) ls)
labelled-map b (w ∷ ws) [] h = elim h [ ]
labelled-map b [] (l ∷ ls) h = elim h [ ]
labelled-map b [] [] h = tt
labelled-map b (w ∷ ws) (l ∷ ls) h = (ends-behind b w l h.0, labelled-map b ws ls h.1)

labelled-hung : (a b : List ℕ) (ws ls : List (List ℕ)) → Labelled ws ls → Labelled ws (hung a b ls)
unfolding hung
labelled-hung a b (w ∷ ws) [] h = elim h [ ]
labelled-hung a b [] (l ∷ ls) h = elim h [ ]
labelled-hung a b [] [] h = tt
labelled-hung a b (w ∷ ws) (l ∷ ls) h = (ends-behind a w l h.0, labelled-map b ws ls h.1)

labelled-branch : (ws vs ls ks : List (List ℕ)) → Labelled ws ls → Labelled vs ks → Labelled (ws ++ vs) (branch ls ks)
unfolding branch
labelled-branch ws vs ls ks a b = labelled-append ws vs (hung (byte "+" ∷ []) (below ks) ls) ks (labelled-hung (byte "+" ∷ []) (below ks) ws ls a) b

-- ---- the lines of a drawing

module _ (ns ts : List (List ℕ)) where
  picture-labelled : (t : Nodes) → Labelled (leaves t) (picture ns ts t)
  unfolding leaves picture
  picture-labelled nil = tt
  picture-labelled (leaf w e r) = labelled-branch (w ∷ []) (leaves r) ((bytes "- " ++ w) ∷ []) (picture ns ts r) (([], refl), tt) (picture-labelled r)
  picture-labelled (inner c e r) =
      let k = branch_to (count ts (taxa ns c)) in
      labelled-branch (leaves c) (leaves r) (hung k (blank k) (picture ns ts c)) (picture ns ts r) (labelled-hung k (blank k) (leaves c) (picture ns ts c) (picture-labelled c)) (picture-labelled r)

  module _ (s : List ℕ) where
    -- "one line a strain", in the order of the written tree
    pub lines-labelled : Labelled (leaves (tree_of ns s)) (drawn ns ts s)
    unfolding tree_of drawn leaves children
    lines-labelled = subst (λ (ws : List (List ℕ)). Labelled ws (drawn ns ts s)) (sym (append-nil (leaves (children (tree_of ns s))))) (picture-labelled (children (tree_of ns s)))

    pub lines-count : (n : ℕ) → good_names n ns ≡ true → good_tree n s ≡ true → length (drawn ns ts s) ≡ n
    lines-count n names good =
        let c = leaves-count ns 0 (leaves (tree_of ns s)) (tree-faultless n ns s names good) in
        omega (arith, labelled-count (leaves (tree_of ns s)) (drawn ns ts s) lines-labelled, c, ones-zero, good-count n ns names)
