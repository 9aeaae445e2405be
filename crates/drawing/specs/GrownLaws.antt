-- The laws of the lines of a node's children, one child at a time. Assumes nothing.
--
--   lines_none, lines-leaf, lines-inner     no child, a leaf and the others, a group and the others
--   lines-some                              where there is a child, there is a line
--   lines-root                              the lines of a whole tree
use Prim.Native.Nat.{ℕ, zero, suc, ◌+◌, ◌<◌}
use Rattle.std.proofs.Common.{arith, ◌∙◌}
use Rattle.std.specs.Prelude.{◌≡◌, Bool, List, [], ◌∷◌, length}
use Rattle.std.proofs.Math.Path.{refl, sym, ap, ap₂}
use Rattle.std.proofs.Math.Bool.{true, false}
use Rattle.std.proofs.Math.Dec.{eqb}
use borrow.Author.Tests.{eqb-true, eqb-false, eq-eqb, ne_eqb}
use Rattle.trees.specs.Mask.{every_taxon, without, lowest}
use Rattle.trees.specs.Written.{widest}
use Rattle.trees.specs.Names.{good_names}
use Rattle.trees.specs.Whole.{good_tree}
use Rattle.trees.specs.Drawn.{hung, blank, branch, drawn}
use Rattle.theorems.specs.DrawnBranches.{grouped, drawn_branches, drawn_by, drawn-step}
use Rattle.theorems.specs.DrawnGroupLaws.{drawn-branches}
use Rattle.writer.specs.Branch.{child_mask, Ready, Step}
use Rattle.writer.specs.BranchLaws.{mask-leaf, mask-inner, child-ok, child-less, rest-ready, rest-less, first_step}
use Rattle.drawing.specs.Drawing.{grown_lines, leaf_line, group_branch}
use Rattle.drawing.specs.TextLaws.{hung-length, branch-length}

-- ---- one step, with f more

module _ (ns ts : List (List ℕ)) (s : List ℕ) where
  drawn-none : (f m r : ℕ) → r ≡ 0 → drawn_branches (suc f) ns ts s m r ≡ []
  drawn-none f m r z =
      drawn-step ns ts s f m r
      ∙ ap (λ (b : Bool). drawn_by ns ts s b (eqb (widest m (lowest r) s) 0) f m r (lowest r) (widest m (lowest r) s)) (eq-eqb r 0 z)

  module _ {n m r i x : ℕ} (k : Step n ns s m r i x) where
    drawn-by : (f : ℕ) → drawn_branches (suc f) ns ts s m r ≡ drawn_by ns ts s (eqb r 0) (eqb x 0) f m r i x
    drawn-by f = rw (k.wide, k.smallest) (drawn-step ns ts s f m r)

    drawn-leaf : (f : ℕ) → x ≡ 0 → drawn_branches (suc f) ns ts s m r ≡ branch (leaf_line ns i ∷ []) (drawn_branches f ns ts s m (without r (child_mask i x)))
    drawn-leaf f z =
        drawn-by f ∙ ap₂ (λ (b c : Bool). drawn_by ns ts s b c f m r i x) (ne_eqb r 0 k.some) (eq-eqb x 0 z)
        ∙ ap (λ (c : ℕ). branch (leaf_line ns i ∷ []) (drawn_branches f ns ts s m (without r c))) (sym (mask-leaf i x z))

    drawn-inner : (f : ℕ) → (x ≡ 0 → ⊥)
        → drawn_branches (suc f) ns ts s m r ≡ grouped ts x (drawn_branches f ns ts s x x) (drawn_branches f ns ts s m (without r (child_mask i x)))
    drawn-inner f z =
        drawn-by f ∙ ap₂ (λ (b c : Bool). drawn_by ns ts s b c f m r i x) (ne_eqb r 0 k.some) (ne_eqb x 0 z)
        ∙ ap (λ (c : ℕ). grouped ts x (drawn_branches f ns ts s x x) (drawn_branches f ns ts s m (without r c))) (sym (mask-inner i x z))

-- ---- steps enough

module _ (n : ℕ) (ns ts : List (List ℕ)) (s : List ℕ) where
  -- f steps and g make the same lines of fewer than l taxa
  unfoldable Alike : ℕ → ℕ → ℕ → Type 0
  Alike f g l = (m r : ℕ) → Ready n ns s m r → m + r < l → drawn_branches f ns ts s m r ≡ drawn_branches g ns ts s m r

  alike-step : (f g : ℕ) {m r i x : ℕ} → Step n ns s m r i x → Alike f g (m + r) → drawn_branches (suc f) ns ts s m r ≡ drawn_branches (suc g) ns ts s m r
  unfolding Alike
  alike-step f g {m} {r} {i} {x} k ih = go (eqb x 0) refl
    where
      rest : drawn_branches f ns ts s m (without r (child_mask i x)) ≡ drawn_branches g ns ts s m (without r (child_mask i x))
      rest = ih m (without r (child_mask i x)) (rest-ready k refl) (omega (arith, rest-less k refl))

      go : (b : Bool) → eqb x 0 ≡ b → drawn_branches (suc f) ns ts s m r ≡ drawn_branches (suc g) ns ts s m r
      go true e =
          let z = eqb-true x 0 e in
          drawn-leaf ns ts s k f z ∙ ap (branch (leaf_line ns i ∷ [])) rest ∙ sym (drawn-leaf ns ts s k g z)
      go false e =
          let z = eqb-false x 0 e in
          drawn-inner ns ts s k f z ∙ ap₂ (grouped ts x) (ih x x ((child-ok k).ready z) (child-less k z)) rest ∙ sym (drawn-inner ns ts s k g z)

  enough : (f g m r : ℕ) → Ready n ns s m r → m + r < f → m + r < g → drawn_branches f ns ts s m r ≡ drawn_branches g ns ts s m r
  unfolding Alike
  enough zero g m r p a b = absurd (omega arith)
  enough (suc f) zero m r p a b = absurd (omega arith)
  enough (suc f) (suc g) m r p a b = go (eqb r 0) refl (λ j l q d. enough f g j l q (omega arith) (omega arith))
    where
      go : (t : Bool) → eqb r 0 ≡ t → Alike f g (m + r) → drawn_branches (suc f) ns ts s m r ≡ drawn_branches (suc g) ns ts s m r
      go true e ih = let z = eqb-true r 0 e in drawn-none ns ts s f m r z ∙ sym (drawn-none ns ts s g m r z)
      go false e ih = alike-step f g (first_step p (eqb-false r 0 e)) ih

  -- ---- some lines

  some-step : (f : ℕ) {m r i x : ℕ} → Step n ns s m r i x → ((x ≡ 0 → ⊥) → 0 < length (drawn_branches f ns ts s x x))
      → 0 < length (drawn_branches (suc f) ns ts s m r)
  some-step f {m} {r} {i} {x} k ih = go (eqb x 0) refl
    where
      go : (b : Bool) → eqb x 0 ≡ b → 0 < length (drawn_branches (suc f) ns ts s m r)
      go true e = rw (drawn-leaf ns ts s k f (eqb-true x 0 e)) (omega (arith, branch-length (leaf_line ns i ∷ []) (drawn_branches f ns ts s m (without r (child_mask i x)))))
      go false e =
          let z = eqb-false x 0 e in
          let ls = drawn_branches f ns ts s x x in
          let w = group_branch ts x in
          rw (drawn-inner ns ts s k f z)
          (omega (arith, branch-length (hung w (blank w) ls) (drawn_branches f ns ts s m (without r (child_mask i x))), hung-length w (blank w) ls, ih z))

  some-lines : (f m r : ℕ) → Ready n ns s m r → (r ≡ 0 → ⊥) → m + r < f → 0 < length (drawn_branches f ns ts s m r)
  some-lines zero m r p h a = absurd (omega arith)
  some-lines (suc f) m r p h a =
      let k = first_step p h in
      let x = widest m (lowest r) s in
      some-step f k (λ z. some-lines f x x ((child-ok k).ready z) z (omega (arith, child-less k z)))

-- ---- the lines, one child at a time

module _ (ts : List (List ℕ)) where
  pub lines_none : (ns : List (List ℕ)) (s : List ℕ) (m r : ℕ) → r ≡ 0 → grown_lines ns ts s m r ≡ []
  unfolding grown_lines
  lines_none ns s m r z = drawn-none ns ts s (m + r) m r z

  pub lines-some : {n : ℕ} {ns : List (List ℕ)} {s : List ℕ} {m r : ℕ} → Ready n ns s m r → (r ≡ 0 → ⊥) → 0 < length (grown_lines ns ts s m r)
  unfolding grown_lines
  lines-some {n} {ns} {s} {m} {r} p h = some-lines n ns ts s (suc (m + r)) m r p h (omega arith)

  pub lines-root : (n : ℕ) (ns : List (List ℕ)) (s : List ℕ) → good_names n ns ≡ true → good_tree n s ≡ true
      → drawn ns ts s ≡ grown_lines ns ts s (every_taxon (length ns)) (every_taxon (length ns))
  unfolding grown_lines
  lines-root n ns s names good = drawn-branches n ns ts s names good

  module _ {n : ℕ} {ns : List (List ℕ)} {s : List ℕ} {m r i x : ℕ} (k : Step n ns s m r i x) where
    rest-grown : drawn_branches (m + r) ns ts s m (without r (child_mask i x)) ≡ grown_lines ns ts s m (without r (child_mask i x))
    unfolding grown_lines
    rest-grown =
        let q = without r (child_mask i x) in
        enough n ns ts s (m + r) (suc (m + q)) m q (rest-ready k refl) (omega (arith, rest-less k refl)) (omega arith)

    pub lines-leaf : x ≡ 0 → grown_lines ns ts s m r ≡ branch (leaf_line ns i ∷ []) (grown_lines ns ts s m (without r (child_mask i x)))
    unfolding grown_lines
    lines-leaf z = drawn-leaf ns ts s k (m + r) z ∙ ap (branch (leaf_line ns i ∷ [])) rest-grown

    pub lines-inner : (x ≡ 0 → ⊥) → grown_lines ns ts s m r ≡ branch (hung (group_branch ts x) (blank (group_branch ts x)) (grown_lines ns ts s x x)) (grown_lines ns ts s m (without r (child_mask i x)))
    unfolding grown_lines
    lines-inner z =
        drawn-inner ns ts s k (m + r) z
        ∙ ap₂ (grouped ts x) (enough n ns ts s (m + r) (suc (x + x)) x x ((child-ok k).ready z) (child-less k z) (omega arith)) rest-grown
