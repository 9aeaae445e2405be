-- The branches of a node as the writer makes them: the first child, then the others.
--
--   grown ns s m r           the children of the node m that have the taxa r, with enough steps
--   branch_text ns s m r      their text
--   child_mask i x            the taxa of the child with the smallest taxon i: a leaf, where x is 0, or the node of the mask x
--   child_text ns s i x       its text
--   Ready n ns s m r         the writer can go on: n good names, good splits, and the taxa r are of m, and every split below m
--                            lies within them or away from them
--   Child n ns s i x         so it can with the child of i and x
--   Step n ns s m r i x      that child is the first of the branches of m that have the taxa r
use Rattle.std.specs.Prelude.{ℕ, suc, ◌+◌, ◌^◌, ◌<◌, ◌≡◌, true, List, [], ◌∷◌, ◌++◌, eqb, if◌then◌else◌}
use Rattle.trees.specs.Mask.{every_taxon, lowest}
use Rattle.trees.specs.Tree.{Nodes}
use Rattle.trees.specs.Names.{good_names}
use Rattle.trees.specs.Whole.{good_tree}
use Rattle.trees.specs.Written.{widest, branches, shown}
use Rattle.theorems.specs.BitLaws.{Sub}
use Rattle.theorems.specs.BranchLaws.{label_of, Closed}

unfoldable pub grown : List (List ℕ) → List ℕ → ℕ → ℕ → Nodes
unfolding branches
grown ns s m r = branches (suc (m + r)) ns s m r

unfoldable pub branch_text : List (List ℕ) → List ℕ → ℕ → ℕ → List ℕ
unfolding grown shown
branch_text ns s m r = shown (grown ns s m r)

unfoldable pub child_mask : ℕ → ℕ → ℕ
child_mask i x = if eqb x 0 then 2 ^ i else x

unfoldable pub child_text : List (List ℕ) → List ℕ → ℕ → ℕ → List ℕ
unfolding branch_text
child_text ns s i x = if eqb x 0 then label_of ns i else 40 ∷ (branch_text ns s x x ++ 41 ∷ [])

pub record Ready (n : ℕ) (ns : List (List ℕ)) (s : List ℕ) (m r : ℕ) : Type 0 where
  pub names : good_names n ns ≡ true
  pub splits : good_tree n s ≡ true
  pub named : Sub r (every_taxon n)
  pub inside : Sub r m
  pub closed : Closed s m r

pub record Child (n : ℕ) (ns : List (List ℕ)) (s : List ℕ) (i x : ℕ) : Type 0 where
  pub named : i < n
  pub ready : (x ≡ 0 → ⊥) → Ready n ns s x x

pub record Step (n : ℕ) (ns : List (List ℕ)) (s : List ℕ) (m r i x : ℕ) : Type 0 where
  pub ready : Ready n ns s m r
  pub some : r ≡ 0 → ⊥
  pub smallest : i ≡ lowest r
  pub wide : x ≡ widest m i s
