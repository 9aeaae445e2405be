-- The laws of the text of a node's branches, one child at a time. Assumes nothing.
--
--   child-leaf, child-inner             the text of a child
--   text-none, text-last, text-more     it is none, one child's, or a child's and others' behind a comma
--   text-length                         the first child's is no longer
use Rattle.std.specs.Prelude.{ℕ, ◌≤◌, ◌≡◌, Bool, length}
use Rattle.std.proofs.Common.{arith, sym, ◌∙◌, length-append}
use Rattle.std.proofs.Math.Path.{refl, ap}
use Rattle.std.proofs.Math.Bool.{true, false}
use mathlib.Core.List.{List, [], ◌∷◌, ◌++◌, append_assoc, append-nil}
use Rattle.std.proofs.Math.Option.{none}
use Rattle.std.proofs.Math.Dec.{eqb}
use borrow.Author.Tests.{eqb-true, eqb-false, eq-eqb, ne_eqb}
use Rattle.trees.specs.Mask.{without}
use Rattle.trees.specs.Tree.{Nodes, leaf, inner}
use Rattle.trees.specs.Written.{shown, parted}
use Rattle.theorems.specs.ListLaws.{if-true, if-false}
use Rattle.theorems.specs.BranchLaws.{label_of}
use Rattle.writer.specs.Branch.{grown, branch_text, child_mask, child_text, Ready, Step}
use Rattle.writer.specs.BranchLaws.{rest-ready, first_step, grown-none, grown-leaf, grown-inner}

-- ---- a child

module _ (ns : List (List ℕ)) (s : List ℕ) (i x : ℕ) where
  pub child-leaf : x ≡ 0 → child_text ns s i x ≡ label_of ns i
  unfolding child_text
  child-leaf z = if-true _ _ (eq-eqb x 0 z)

  pub child-inner : (x ≡ 0 → ⊥) → child_text ns s i x ≡ 40 ∷ (branch_text ns s x x ++ 41 ∷ [])
  unfolding child_text
  child-inner z = if-false _ _ (ne_eqb x 0 z)

-- ---- branches

shown-leaf : (w : List ℕ) (t : Nodes) → shown (leaf w none t) ≡ w ++ parted t (shown t)
unfolding shown
shown-leaf w t = refl

shown-inner : (c t : Nodes) → shown (inner c none t) ≡ (40 ∷ (shown c ++ 41 ∷ [])) ++ parted t (shown t)
unfolding shown
shown-inner c t = ap (λ (l : List ℕ). 40 ∷ l) (sym (append_assoc (shown c) (41 ∷ []) (parted t (shown t))))

module _ (ns : List (List ℕ)) (s : List ℕ) (m r : ℕ) (z : r ≡ 0) where
  parted-none : (l : List ℕ) → parted (grown ns s m r) l ≡ l
  unfolding parted
  parted-none l = ap (λ t. parted t l) (grown-none ns s m r z)

  pub text-none : branch_text ns s m r ≡ []
  unfolding branch_text shown
  text-none = ap shown (grown-none ns s m r z)

module _ {n : ℕ} {ns : List (List ℕ)} {s : List ℕ} {m r i x : ℕ} (k : Step n ns s m r i x) where
  parted-some : (l : List ℕ) → parted (grown ns s m r) l ≡ 44 ∷ l
  unfolding parted
  parted-some l = go (eqb x 0) refl
    where
      go : (b : Bool) → eqb x 0 ≡ b → parted (grown ns s m r) l ≡ 44 ∷ l
      go true e = ap (λ t. parted t l) (grown-leaf k (eqb-true x 0 e))
      go false e = ap (λ t. parted t l) (grown-inner k (eqb-false x 0 e))

  text-child : (t : Nodes) → grown ns s m (without r (child_mask i x)) ≡ t → branch_text ns s m r ≡ child_text ns s i x ++ parted t (shown t)
  unfolding branch_text
  text-child t q = go (eqb x 0) refl
    where
      go : (b : Bool) → eqb x 0 ≡ b → shown (grown ns s m r) ≡ child_text ns s i x ++ parted t (shown t)
      go true e =
          let z = eqb-true x 0 e in
          ap shown (grown-leaf k z ∙ ap (leaf (label_of ns i) none) q) ∙ shown-leaf (label_of ns i) t
          ∙ ap (λ (l : List ℕ). l ++ parted t (shown t)) (sym (child-leaf ns s i x z))
      go false e =
          let z = eqb-false x 0 e in
          ap shown (grown-inner k z ∙ ap (inner (grown ns s x x) none) q) ∙ shown-inner (grown ns s x x) t
          ∙ ap (λ (l : List ℕ). l ++ parted t (shown t)) (sym (child-inner ns s i x z))

  pub text-length : length (child_text ns s i x) ≤ length (branch_text ns s m r)
  text-length =
      let t = grown ns s m (without r (child_mask i x)) in
      rw (text-child t refl) (omega (arith, length-append (child_text ns s i x) (parted t (shown t))))

module _ {n : ℕ} {ns : List (List ℕ)} {s : List ℕ} {m r i x q : ℕ} (k : Step n ns s m r i x) (d : q ≡ without r (child_mask i x)) where
  pub text-last : q ≡ 0 → branch_text ns s m r ≡ child_text ns s i x
  unfolding branch_text
  text-last z =
      text-child k (grown ns s m q) (rw d)
      ∙ ap (λ (l : List ℕ). child_text ns s i x ++ l) (parted-none ns s m q z (shown (grown ns s m q)) ∙ text-none ns s m q z)
      ∙ append-nil (child_text ns s i x)

  pub text-more : (q ≡ 0 → ⊥) → branch_text ns s m r ≡ child_text ns s i x ++ (44 ∷ branch_text ns s m q)
  unfolding branch_text
  text-more z =
      let p : Ready n ns s m q = rest-ready k d in
      text-child k (grown ns s m q) (rw d)
      ∙ ap (λ (l : List ℕ). child_text ns s i x ++ l) (parted-some (first_step p z) (shown (grown ns s m q)))
