-- The laws of a node's first child and of the branches behind it. Assumes nothing.
--
--   mask-leaf, mask-inner        the taxa of a leaf and of an inner node
--   positive                     there is a taxon
--   child-sub                    the first child has taxa of these alone
--   child-ok                     it can be written
--   child-less, child-ones       its own branches take fewer steps, and have fewer ones
--   rest-ready                   the branches behind it can be written,
--   rest-less, rest-ones         in fewer steps, with fewer ones
--   enough                       any number of steps above m + r makes the branches
--   grown-none, grown-leaf, grown-inner     the branches, one child at a time
use Prim.Native.Nat.{ℕ, zero, suc, ◌+◌, ◌-◌, ◌^◌, ◌<◌, ◌≤◌}
use Rattle.std.proofs.Common.{arith, ◌∙◌, subst, inl, inr}
use Rattle.std.proofs.Math.Pow.{pow_pos}
use Rattle.std.specs.Prelude.{◌≡◌, ◌⊎◌, Bool, List}
use Rattle.std.proofs.Math.Path.{refl, sym, ap, ap₂}
use Rattle.std.proofs.Math.Bool.{true, false}
use Rattle.std.proofs.Math.Option.{none}
use Rattle.std.proofs.Math.Dec.{eqb}
use Rattle.std.specs.Int.Bits.{bit_xor}
use Rattle.std.specs.Int.Count.{ones}
use borrow.Author.Tests.{eqb-true, eqb-false, eq-eqb, ne_eqb}
use Rattle.trees.specs.Mask.{every_taxon, without, lowest}
use Rattle.trees.specs.Tree.{nil, leaf, inner}
use Rattle.trees.specs.Written.{widest, branches}
use Rattle.theorems.specs.ListLaws.{if-true, if-false, Mem}
use Rattle.theorems.specs.BitLaws.{On, Sub, sub-le, less-sub, less-lt}
use Rattle.theorems.specs.MaskLaws.{on_below, without_sub}
use Rattle.theorems.specs.OnesLaws.{ones-part, ones_pos, ones_lt}
use Rattle.theorems.specs.WidestLaws.{Fit, lowest-on, widest-from, widest-top}
use Rattle.theorems.specs.BranchLaws.{label_of, Closed, on-pos, closed-self, leaf-within, leaf-closed, inner-within, inner-closed}
use Rattle.theorems.specs.TreeOfLaws.{branches_by, branches-step}
use Rattle.writer.specs.Branch.{grown, child_mask, Ready, Child, Step}

-- ---- the taxa of a child

module _ (i x : ℕ) where
  pub mask-leaf : x ≡ 0 → child_mask i x ≡ 2 ^ i
  unfolding child_mask
  mask-leaf z = if-true (2 ^ i) x (eq-eqb x 0 z)

  pub mask-inner : (x ≡ 0 → ⊥) → child_mask i x ≡ x
  unfolding child_mask
  mask-inner z = if-false (2 ^ i) x (ne_eqb x 0 z)

  -- what holds of a leaf's taxa and of an inner node's holds of the child's
  either : (P : ℕ → Type 0) → (x ≡ 0 → P (2 ^ i)) → ((x ≡ 0 → ⊥) → P x) → P (child_mask i x)
  either P f g = go (eqb x 0) refl
    where
      go : (b : Bool) → eqb x 0 ≡ b → P (child_mask i x)
      go true e = subst P (sym (mask-leaf (eqb-true x 0 e))) (f (eqb-true x 0 e))
      go false e = subst P (sym (mask-inner (eqb-false x 0 e))) (g (eqb-false x 0 e))

-- ---- the first child, and the others

module _ {n : ℕ} {ns : List (List ℕ)} {s : List ℕ} {m r i x : ℕ} (k : Step n ns s m r i x) where
  pub positive : 0 < r
  positive = omega (arith, k.some)

  on-smallest : On r i
  on-smallest = rw k.smallest (lowest-on r positive)

  top : (y : ℕ) → Mem y s → Fit m i y → y ≤ x
  top y a b = rw k.wide (widest-top m i s y a b)

  no-fit : x ≡ 0 → (y : ℕ) → Mem y s → Fit m i y → ⊥
  no-fit z y a b = omega (arith, top y a b, on-pos y i b.1)

  fits : (x ≡ 0 → ⊥) → Mem x s × Fit m i x
  fits f = go (rw k.wide (widest-from m i s))
    where
      go : (x ≡ 0) ⊎ (Mem x s × Fit m i x) → Mem x s × Fit m i x
      go (inl z) = absurd (f z)
      go (inr w) = w

  inner-sub : (x ≡ 0 → ⊥) → Sub x r
  inner-sub z = inner-within n ns s k.ready.names k.ready.splits m r i x on-smallest (fits z).0 (fits z).1 top k.ready.closed

  pub child-sub : Sub (child_mask i x) r
  child-sub =
      either i x (λ c. Sub c r)
      (λ z. leaf-within n ns s k.ready.names k.ready.splits m r i on-smallest (no-fit z) k.ready.closed) inner-sub

  child-pos : 0 < child_mask i x
  child-pos = either i x (λ c. 0 < c) (λ z. pow_pos i) (λ z. on-pos x i (fits z).1.1)

  rest-closed : Closed s m (bit_xor r (child_mask i x))
  rest-closed =
      either i x (λ c. Closed s m (bit_xor r c))
      (λ z. leaf-closed n ns s k.ready.names k.ready.splits m r i on-smallest (no-fit z) k.ready.closed)
      (λ z. inner-closed n ns s k.ready.names k.ready.splits m r i x on-smallest (fits z).0 (fits z).1 top k.ready.closed)

  pub rest-ready : {q : ℕ} → q ≡ without r (child_mask i x) → Ready n ns s m q
  rest-ready d =
      rw (d, without_sub r (child_mask i x) child-sub)
      (record {
        names = k.ready.names;
        splits = k.ready.splits;
        named = λ j a. k.ready.named j (less-sub r (child_mask i x) child-sub j a);
        inside = λ j a. k.ready.inside j (less-sub r (child_mask i x) child-sub j a);
        closed = rest-closed;
      })

  pub rest-less : {q : ℕ} → q ≡ without r (child_mask i x) → q < r
  rest-less d = rw (d, without_sub r (child_mask i x) child-sub) (less-lt r (child_mask i x) child-sub child-pos)

  pub rest-ones : {q : ℕ} → q ≡ without r (child_mask i x) → ones q < ones r
  rest-ones d =
      let c = child_mask i x in
      rw (d, without_sub r c child-sub) (omega (arith, ones-part c r child-sub, ones_pos c child-pos))

  child-ready : (x ≡ 0 → ⊥) → Ready n ns s x x
  child-ready z =
      record {
        names = k.ready.names;
        splits = k.ready.splits;
        named = λ j a. k.ready.named j (inner-sub z j a);
        inside = λ j a. a;
        closed = closed-self n ns s k.ready.names k.ready.splits x (fits z).0;
      }

  pub child-less : (x ≡ 0 → ⊥) → x + x < m + r
  child-less z = omega (arith, sub-le x r (inner-sub z), (fits z).1.0)

  pub child-ones : (x ≡ 0 → ⊥) → ones x + ones x < ones m + ones r
  child-ones z = omega (arith, ones-part x r (inner-sub z), ones_lt x m (λ j a. k.ready.inside j (inner-sub z j a)) (fits z).1.0)

  pub child-ok : Child n ns s i x
  unfolding every_taxon
  child-ok = record { named = on_below n (2 ^ n - 1) i (omega (arith, pow_pos n)) (k.ready.named i on-smallest); ready = child-ready }

  -- ---- one step, with f more

  branches-by : (f : ℕ) → branches (suc f) ns s m r ≡ branches_by (eqb r 0) (eqb x 0) f ns s m r i x
  branches-by f = rw (k.wide, k.smallest) (branches-step f ns s m r)

  branches-leaf : (f : ℕ) → x ≡ 0 → branches (suc f) ns s m r ≡ leaf (label_of ns i) none (branches f ns s m (without r (child_mask i x)))
  branches-leaf f z =
      branches-by f ∙ ap₂ (λ (b c : Bool). branches_by b c f ns s m r i x) (ne_eqb r 0 k.some) (eq-eqb x 0 z)
      ∙ ap (λ (c : ℕ). leaf (label_of ns i) none (branches f ns s m (without r c))) (sym (mask-leaf i x z))

  branches-inner : (f : ℕ) → (x ≡ 0 → ⊥)
      → branches (suc f) ns s m r ≡ inner (branches f ns s x x) none (branches f ns s m (without r (child_mask i x)))
  branches-inner f z =
      branches-by f ∙ ap₂ (λ (b c : Bool). branches_by b c f ns s m r i x) (ne_eqb r 0 k.some) (ne_eqb x 0 z)
      ∙ ap (λ (c : ℕ). inner (branches f ns s x x) none (branches f ns s m (without r c))) (sym (mask-inner i x z))

-- ---- steps enough

pub first_step : {n : ℕ} {ns : List (List ℕ)} {s : List ℕ} {m r : ℕ} → Ready n ns s m r → (r ≡ 0 → ⊥)
    → Step n ns s m r (lowest r) (widest m (lowest r) s)
first_step p h = record { ready = p; some = h; smallest = refl; wide = refl }

branches-none : (f : ℕ) (ns : List (List ℕ)) (s : List ℕ) (m r : ℕ) → r ≡ 0 → branches (suc f) ns s m r ≡ nil
branches-none f ns s m r z =
    branches-step f ns s m r
    ∙ ap (λ (b : Bool). branches_by b (eqb (widest m (lowest r) s) 0) f ns s m r (lowest r) (widest m (lowest r) s)) (eq-eqb r 0 z)

module _ (n : ℕ) (ns : List (List ℕ)) (s : List ℕ) where
  -- f steps and g make the same of fewer than l taxa
  unfoldable Alike : ℕ → ℕ → ℕ → Type 0
  Alike f g l = (m r : ℕ) → Ready n ns s m r → m + r < l → branches f ns s m r ≡ branches g ns s m r

  alike-step : (f g : ℕ) {m r i x : ℕ} → Step n ns s m r i x → Alike f g (m + r) → branches (suc f) ns s m r ≡ branches (suc g) ns s m r
  unfolding Alike
  alike-step f g {m} {r} {i} {x} k ih = go (eqb x 0) refl
    where
      rest : branches f ns s m (without r (child_mask i x)) ≡ branches g ns s m (without r (child_mask i x))
      rest = ih m (without r (child_mask i x)) (rest-ready k refl) (omega (arith, rest-less k refl))

      go : (b : Bool) → eqb x 0 ≡ b → branches (suc f) ns s m r ≡ branches (suc g) ns s m r
      go true e =
          let z = eqb-true x 0 e in
          branches-leaf k f z ∙ ap (leaf (label_of ns i) none) rest ∙ sym (branches-leaf k g z)
      go false e =
          let z = eqb-false x 0 e in
          branches-inner k f z ∙ ap₂ (λ c t. inner c none t) (ih x x (child-ready k z) (child-less k z)) rest ∙ sym (branches-inner k g z)

  pub enough : (f g m r : ℕ) → Ready n ns s m r → m + r < f → m + r < g → branches f ns s m r ≡ branches g ns s m r
  unfolding Alike
  enough zero g m r p a b = absurd (omega arith)
  enough (suc f) zero m r p a b = absurd (omega arith)
  enough (suc f) (suc g) m r p a b = go (eqb r 0) refl (λ j l q d. enough f g j l q (omega arith) (omega arith))
    where
      go : (t : Bool) → eqb r 0 ≡ t → Alike f g (m + r) → branches (suc f) ns s m r ≡ branches (suc g) ns s m r
      go true e ih = let z = eqb-true r 0 e in branches-none f ns s m r z ∙ sym (branches-none g ns s m r z)
      go false e ih = alike-step f g (first_step p (eqb-false r 0 e)) ih

-- ---- the branches, one child at a time

pub grown-none : (ns : List (List ℕ)) (s : List ℕ) (m r : ℕ) → r ≡ 0 → grown ns s m r ≡ nil
unfolding grown
grown-none ns s m r z = branches-none (m + r) ns s m r z

module _ {n : ℕ} {ns : List (List ℕ)} {s : List ℕ} {m r i x : ℕ} (k : Step n ns s m r i x) where
  rest-grown : branches (m + r) ns s m (without r (child_mask i x)) ≡ grown ns s m (without r (child_mask i x))
  unfolding grown
  rest-grown =
      let q = without r (child_mask i x) in
      enough n ns s (m + r) (suc (m + q)) m q (rest-ready k refl) (omega (arith, rest-less k refl)) (omega arith)

  pub grown-leaf : x ≡ 0 → grown ns s m r ≡ leaf (label_of ns i) none (grown ns s m (without r (child_mask i x)))
  unfolding grown
  grown-leaf z = branches-leaf k (m + r) z ∙ ap (leaf (label_of ns i) none) rest-grown

  pub grown-inner : (x ≡ 0 → ⊥) → grown ns s m r ≡ inner (grown ns s x x) none (grown ns s m (without r (child_mask i x)))
  unfolding grown
  grown-inner z =
      branches-inner k (m + r) z
      ∙ ap₂ (λ c t. inner c none t) (enough n ns s (m + r) (suc (x + x)) x x (child-ready k z) (child-less k z) (omega arith)) rest-grown
