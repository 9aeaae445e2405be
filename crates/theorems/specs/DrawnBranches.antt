-- The lines of a drawn tree as code finds them: by masks, as `branches` of Written finds the nodes of a tree.
--
--   drawn_branches ..      the lines of the children of a node with the taxa m, from those that have the taxa r; f is more than enough steps
--   drawn_by, drawn-step   one step of it: no line, a leaf, or a group
use Rattle.std.specs.Prelude.{ℕ, zero, suc, ◌^◌, ◌≡◌, Bool, eqb}
use Rattle.std.proofs.Math.Path.{refl}
use Rattle.std.proofs.Math.Bool.{true, false}
use mathlib.Core.List.{List, [], ◌∷◌, ◌++◌}
use Rattle.trees.specs.Plain.{bytes}
use Rattle.trees.specs.Mask.{without, lowest}
use Rattle.trees.specs.Consensus.{count}
use Rattle.trees.specs.Written.{widest}
use Rattle.trees.specs.Drawn.{hung, branch_to, blank, branch}
use Rattle.theorems.specs.BranchLaws.{label_of}

-- a branch to the group x with the lines ls, above the lines ks
abbrev pub grouped : List (List ℕ) → ℕ → List (List ℕ) → List (List ℕ) → List (List ℕ)
grouped ts x ls ks = branch (hung (branch_to (count ts x)) (blank (branch_to (count ts x))) ls) ks

unfoldable pub drawn_branches : ℕ → List (List ℕ) → List (List ℕ) → List ℕ → ℕ → ℕ → List (List ℕ)
drawn_branches zero ns ts s m r = []
drawn_branches (suc f) ns ts s m r =
    let i = lowest r in
    let x = widest m i s in
    elim (eqb r 0) [
      | true ↦ []
      | false ↦
          elim (eqb x 0) [
            | true ↦ branch ((bytes "- " ++ label_of ns i) ∷ []) (drawn_branches f ns ts s m (without r (2 ^ i)))
            | false ↦ grouped ts x (drawn_branches f ns ts s x x) (drawn_branches f ns ts s m (without r x))
          ]
    ]

module _ (ns ts : List (List ℕ)) (s : List ℕ) where
  abbrev pub drawn_by : Bool → Bool → ℕ → ℕ → ℕ → ℕ → ℕ → List (List ℕ)
  drawn_by true c f m r i x = []
  drawn_by false true f m r i x = branch ((bytes "- " ++ label_of ns i) ∷ []) (drawn_branches f ns ts s m (without r (2 ^ i)))
  drawn_by false false f m r i x = grouped ts x (drawn_branches f ns ts s x x) (drawn_branches f ns ts s m (without r x))

  pub drawn-step : (f m r : ℕ) → drawn_branches (suc f) ns ts s m r ≡ drawn_by (eqb r 0) (eqb (widest m (lowest r) s) 0) f m r (lowest r) (widest m (lowest r) s)
  unfolding drawn_branches
  drawn-step f m r = go (eqb r 0) (eqb (widest m (lowest r) s) 0)
    where
      go : (b c : Bool)
          → elim b as (λ _. List (List ℕ)) [
            | true ↦ []
            | false ↦
                elim c as (λ _. List (List ℕ)) [
                  | true ↦ branch ((bytes "- " ++ label_of ns (lowest r)) ∷ []) (drawn_branches f ns ts s m (without r (2 ^ lowest r)))
                  | false ↦ grouped ts (widest m (lowest r) s) (drawn_branches f ns ts s (widest m (lowest r) s) (widest m (lowest r) s)) (drawn_branches f ns ts s m (without r (widest m (lowest r) s)))
                ]
          ] ≡ drawn_by b c f m r (lowest r) (widest m (lowest r) s)
      go true c = refl
      go false true = refl
      go false false = refl
