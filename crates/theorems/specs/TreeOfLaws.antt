-- The tree made of good splits over good names: its branches have exactly the clusters of the splits and of the leaves, they can be read
-- back, their leaves have no fault, and they are short.
--
--   branches-step      one step of making branches
--   Made n ns s f      f steps are enough for the branches of every part of the taxa: all of this holds of them
--   made               so it is
--   branches-done      all of this holds of the branches of the root
use Prim.Native.Nat.{ℕ, zero, suc, ◌+◌, ◌^◌, ◌≤◌, ◌<◌}
use Rattle.std.proofs.Common.{arith, pow_pos, sym, inr, eqb-true}
use Rattle.std.specs.Prelude.{◌≡◌, ◌⊎◌, Bool, true, false, List, eqb}
use Rattle.std.proofs.Math.Path.{refl, subst}
use Rattle.std.proofs.Math.Logic.{inl}
use Rattle.std.proofs.Math.Option.{none}
use Rattle.std.specs.Int.Bits.{bit_xor}
use Rattle.std.proofs.lemmas.Bool.{eqb-false}
use Rattle.trees.specs.Mask.{every_taxon, without, lowest}
use Rattle.trees.specs.Tree.{Nodes, nil, leaf, inner}
use Rattle.trees.specs.Names.{good_names}
use Rattle.trees.specs.Written.{widest, branches}
use Rattle.trees.specs.Whole.{good_tree}
use Rattle.theorems.specs.ListLaws.{Mem}
use Rattle.theorems.specs.BitLaws.{On, Sub, sub-le, less-sub, less-lt}
use Rattle.theorems.specs.MaskLaws.{without_sub}
use Rattle.theorems.specs.WidestLaws.{Fit, lowest-on, widest-from, widest-top}
use Rattle.theorems.specs.ProperLaws.{proper-sub}
use Rattle.theorems.specs.BranchLaws.{label_of, Closed, Done, on-pos, split-proper, closed-self, nil-done, leaf-within, leaf-closed, leaf-done, inner-within, inner-closed, inner-done}

-- ---- one step: nothing, a leaf, or an inner node

abbrev pub branches_by : Bool → Bool → ℕ → List (List ℕ) → List ℕ → ℕ → ℕ → ℕ → ℕ → Nodes
branches_by true c f ns s m r i x = nil
branches_by false true f ns s m r i x = leaf (label_of ns i) none (branches f ns s m (without r (2 ^ i)))
branches_by false false f ns s m r i x = inner (branches f ns s x x) none (branches f ns s m (without r x))

pub branches-step : (f : ℕ) (ns : List (List ℕ)) (s : List ℕ) (m r : ℕ)
    → branches (suc f) ns s m r ≡ branches_by (eqb r 0) (eqb (widest m (lowest r) s) 0) f ns s m r (lowest r) (widest m (lowest r) s)
unfolding branches
branches-step f ns s m r = go (eqb r 0) (eqb (widest m (lowest r) s) 0)
  where
    go : (b c : Bool)
        → elim b as (λ _. Nodes) [
          | true ↦ nil
          | false ↦
              elim c as (λ _. Nodes) [
                | true ↦ leaf (label_of ns (lowest r)) none (branches f ns s m (without r (2 ^ lowest r)))
                | false ↦ inner (branches f ns s (widest m (lowest r) s) (widest m (lowest r) s)) none (branches f ns s m (without r (widest m (lowest r) s)))
              ]
        ] ≡ branches_by b c f ns s m r (lowest r) (widest m (lowest r) s)
    go true c = refl
    go false true = refl
    go false false = refl

-- ---- all steps

module _ (n : ℕ) (ns : List (List ℕ)) (s : List ℕ) (names : good_names n ns ≡ true) (good : good_tree n s ≡ true) where
  unfoldable pub Made : ℕ → Type 0
  Made f = (m r : ℕ) → m + r < f → Sub r m → Sub r (every_taxon n) → Closed s m r → Done ns s m r (branches f ns s m r)

  -- the children behind the one with the taxa x
  made-rest : (f m r x : ℕ) → Made f → m + r < suc f → Sub r m → Sub r (every_taxon n) → Sub x r → 0 < x → Closed s m (bit_xor r x) → Done ns s m (bit_xor r x) (branches f ns s m (without r x))
  unfolding Made
  made-rest f m r x ih h rm rn wi p cl =
      subst (λ (z : ℕ). Done ns s m (bit_xor r x) (branches f ns s m z)) (sym (without_sub r x wi))
      (ih m (bit_xor r x) (omega (arith, less-lt r x wi p)) (λ j a. rm j (less-sub r x wi j a)) (λ j a. rn j (less-sub r x wi j a)) cl)

  module _ (f m r i x : ℕ) (ih : Made f) (h : m + r < suc f) (rm : Sub r m) (rn : Sub r (every_taxon n)) (cl : Closed s m r) (oi : On r i) (top : (y : ℕ) → Mem y s → Fit m i y → y ≤ x) where
    made-leaf : x ≡ 0 → Done ns s m r (leaf (label_of ns i) none (branches f ns s m (without r (2 ^ i))))
    made-leaf z = leaf-done n ns s names good m r i oi nofit cl (branches f ns s m (without r (2 ^ i))) rn (made-rest f m r (2 ^ i) ih h rm rn (leaf-within n ns s names good m r i oi nofit cl) (pow_pos i) (leaf-closed n ns s names good m r i oi nofit cl))
      where
        nofit : (y : ℕ) → Mem y s → Fit m i y → ⊥
        nofit y a b = omega (arith, top y a b, on-pos y i b.1)

    made-inner : Mem x s → Fit m i x → Done ns s m r (inner (branches f ns s x x) none (branches f ns s m (without r x)))
    unfolding Made
    made-inner mx fx =
        let wi : Sub x r = inner-within n ns s names good m r i x oi mx fx top cl in
        let lm : x < m = fx.0 in
        inner-done n ns s names good m r i x oi mx fx top cl (branches f ns s x x) (branches f ns s m (without r x)) rm
        (ih x x (omega (arith, sub-le x r wi)) (λ j a. a) (λ j a. rn j (wi j a)) (closed-self n ns s names good x mx))
        (made-rest f m r x ih h rm rn wi (on-pos x i fx.1) (inner-closed n ns s names good m r i x oi mx fx top cl))

  made-step : (f m r i x : ℕ) → Made f → m + r < suc f → Sub r m → Sub r (every_taxon n) → Closed s m r → (0 < r → On r i) → ((y : ℕ) → Mem y s → Fit m i y → y ≤ x) → (x ≡ 0) ⊎ (Mem x s × Fit m i x)
      → (b c : Bool) → eqb r 0 ≡ b → eqb x 0 ≡ c → Done ns s m r (branches_by b c f ns s m r i x)
  made-step f m r i x ih h rm rn cl oi top w true c p q = nil-done n ns s names good m r (eqb-true r 0 p)
  made-step f m r i x ih h rm rn cl oi top w false true p q = made-leaf f m r i x ih h rm rn cl (oi (omega (arith, eqb-false r 0 p))) top (eqb-true x 0 q)
  made-step f m r i x ih h rm rn cl oi top (inl z) false false p q = absurd (eqb-false x 0 q z)
  made-step f m r i x ih h rm rn cl oi top (inr w) false false p q = made-inner f m r i x ih h rm rn cl (oi (omega (arith, eqb-false r 0 p))) top w.0 w.1

  pub made : (f : ℕ) → Made f
  unfolding Made
  made zero m r h rm rn cl = absurd (omega arith)
  made (suc f) m r h rm rn cl =
      subst (Done ns s m r) (sym (branches-step f ns s m r))
      (made-step f m r (lowest r) (widest m (lowest r) s) (made f) h rm rn cl (lowest-on r) (widest-top m (lowest r) s) (widest-from m (lowest r) s) (eqb r 0) (eqb (widest m (lowest r) s) 0) refl refl)

  -- the branches of the root
  pub branches-done : Done ns s (every_taxon n) (every_taxon n) (branches (suc (every_taxon n + every_taxon n)) ns s (every_taxon n) (every_taxon n))
  unfolding Made Closed
  branches-done = made (suc (every_taxon n + every_taxon n)) (every_taxon n) (every_taxon n) (omega arith) (λ i h. h) (λ i h. h) (λ y h l. inl (proper-sub n y (split-proper n ns s names good y h)))
