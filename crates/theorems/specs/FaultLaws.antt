-- The faults of the leaves, and of a text as far as no collection is needed for it: the verdict is the fault that holds.
--
--   leaves-exactly       the verdict on leaves is k exactly when they have the fault k
--   faultless-exactly    and there is none exactly when they have no fault
--   fault-numbers-only   a fault of the leaves is 8, 9 or 10
--   judged-refuses       a text is refused with k exactly when it is no tree and k is 7, or the leaves of its tree have the fault k
--   judged-accepts       and it gives splits exactly when the leaves of its tree have no fault, and they are those of its tree
use Rattle.std.specs.Prelude.{ℕ, zero, suc, ◌+◌, ◌-◌, ◌^◌, ◌≤◌, ◌<◌, ◌≡◌, refl, ◌⊎◌, ◌↔◌, Bool, true, false, eqb}
use Rattle.std.proofs.Common.{arith, ap, sym, ◌∙◌, subst, ⊎_elim, eqb-true, eq-eqb, ne_eqb}
use Rattle.std.proofs.Math.Logic.{inl, inr}
use mathlib.Core.List.{List, [], ◌∷◌}
use Rattle.std.proofs.Math.Option.{Option, none, some}
use Rattle.std.proofs.lemmas.Nat.{or_disjoint}
use Rattle.std.proofs.Math.ListN.{length}
use Rattle.std.proofs.Math.Pow.{pow_pos}
use Rattle.std.proofs.lemmas.Bool.{eqb-false}
use Rattle.trees.specs.Plain.{Answer, refused, gives}
use Rattle.trees.specs.Mask.{every_taxon}
use Rattle.trees.specs.Tree.{Nodes, leaves}
use Rattle.trees.specs.Grammar.{IsTree}
use Rattle.trees.specs.Reading.{reading}
use Rattle.trees.specs.Text.{read_as}
use Rattle.trees.specs.Names.{taxon_of}
use Rattle.trees.specs.Splits.{splits_of}
use Rattle.trees.specs.Verdict.{leaf_fault, judged_tree, judged}
use Rattle.theorems.specs.ListLaws.{if-true, if-false, Mem}
use Rattle.theorems.specs.BitLaws.{On, on?, off_zero, Dis, ext, or-on, on-or-l, on-or-r, self-on, only-on, dis-and}
use Rattle.theorems.specs.MaskLaws.{every-on, on_below}
use Rattle.theorems.specs.SplitLaws.{taxon_from-below}
use Rattle.theorems.specs.GrammarLaws.{reading-sound, reading-complete, no-tree}
use Rattle.theorems.specs.VerdictLaws.{leaf-unknown, leaf-again, leaf-new, tree_by, tree-step, text_by, judged-step}
use Rattle.theorems.specs.Refusing.{Fault, names-none, came-before, further, missing}

-- ---- the taxa that were seen

module _ (ns : List (List ℕ)) where
  -- seen is the mask of the taxa l, all of them below n
  record Mask (seen : ℕ) (l : List ℕ) : Type 0 where
    into : (i : ℕ) → On seen i → Mem i l
    from : (i : ℕ) → Mem i l → On seen i
    low : (i : ℕ) → On seen i → i < length ns

  none_seen : Mask 0 []
  none_seen = record { into = λ i h. absurd (off_zero i h); from = λ i h. absurd h; low = λ i h. absurd (off_zero i h) }

  taxon-low : (w : List ℕ) (i : ℕ) → taxon_of ns w ≡ some i → i < length ns
  unfolding taxon_of
  taxon-low w i e = omega (arith, taxon_from-below ns 0 (read_as w) i e)

  apart : (seen i : ℕ) → (On seen i → ⊥) → Dis seen (2 ^ i)
  apart seen i f j h k = f (subst (On seen) (sym (only-on i j k)) h)

  seen_more : (seen : ℕ) (l : List ℕ) → Mask seen l → (i : ℕ) → i < length ns → (On seen i → ⊥) → Mask (seen + 2 ^ i) (i ∷ l)
  seen_more seen l m i b f = subst (λ (z : ℕ). Mask z (i ∷ l)) (or_disjoint seen (2 ^ i) (dis-and seen (2 ^ i) (apart seen i f))) (record {
    into = λ j h. ⊎_elim (λ n. inl (sym (only-on i j (or-on seen (2 ^ i) j h n)))) (λ o. inr (m.into j o)) (on? seen j);
    from = λ j h. ⊎_elim (λ e. on-or-r seen (2 ^ i) j (subst (On (2 ^ i)) (sym e) (self-on i))) (λ k. on-or-l seen (2 ^ i) j (m.from j k)) h;
    low = λ j h. ⊎_elim (λ n. subst (λ (z : ℕ). z < length ns) (only-on i j (or-on seen (2 ^ i) j h n)) b) (λ o. m.low j o) (on? seen j);
  })

  -- ---- a taxon below n that is missing, or none is

  last : (seen n i : ℕ) → i < suc n → (i < n → On seen i) → On seen n → On seen i
  last seen n i h f o = go (eqb i n) refl
    where
      go : (b : Bool) → eqb i n ≡ b → On seen i
      go true e = subst (On seen) (sym (eqb-true i n e)) o
      go false e = f (omega (arith, eqb-false i n e))

  abbrev Missing : ℕ → ℕ → Type 0
  Missing seen n = ((i : ℕ) × (i < n) × (On seen i → ⊥)) ⊎ ((i : ℕ) → i < n → On seen i)

  missing-one : (seen n : ℕ) → Missing seen n
  missing-one seen zero = inr (λ i h. absurd (omega arith))
  missing-one seen (suc n) = go (missing-one seen n) (on? seen n)
    where
      go : Missing seen n → (On seen n → ⊥) ⊎ On seen n → Missing seen (suc n)
      go (inl a) o = inl (a.0, omega (arith, a.1), a.2)
      go (inr f) (inl g) = inl (n, omega arith, g)
      go (inr f) (inr o) = inr (λ i h. last seen n i h (f i) o)

  all-low : (i : ℕ) → On (every_taxon (length ns)) i → i < length ns
  unfolding every_taxon
  all-low i h = on_below (length ns) (2 ^ length ns - 1) i (omega (arith, pow_pos (length ns))) h

  -- ---- the verdict on leaves is a fault that they have

  abbrev Verdict : ℕ → List ℕ → List (List ℕ) → Type 0
  Verdict seen l ws = ((k : ℕ) × Fault ns l ws (suc k) × (leaf_fault ns seen ws ≡ suc k)) ⊎ (leaf_fault ns seen ws ≡ 0)

  at-end : (seen : ℕ) (l : List ℕ) → Mask seen l → Verdict seen l []
  unfolding leaf_fault
  at-end seen l m = go (missing-one seen (length ns))
    where
      go : Missing seen (length ns) → Verdict seen l []
      go (inl a) =
          let n : seen ≡ every_taxon (length ns) → ⊥ = λ e. a.2 (subst (λ (z : ℕ). On z a.0) (sym e) (every-on (length ns) a.0 a.1)) in
          inl (9, missing a.1 (λ h. a.2 (m.from a.0 h)), if-false 0 10 (ne_eqb seen (every_taxon (length ns)) n))
      go (inr f) =
          let e : seen ≡ every_taxon (length ns) = ext seen (every_taxon (length ns)) (λ i h. every-on (length ns) i (m.low i h)) (λ i h. f i (all-low i h)) in
          inr (if-true 0 10 (eq-eqb seen (every_taxon (length ns)) e))

  decided : (ws : List (List ℕ)) (seen : ℕ) (l : List ℕ) → Mask seen l → Verdict seen l ws
  decided [] seen l m = at-end seen l m
  decided (w ∷ ws) seen l m = go (taxon_of ns w) refl (λ i q. decided ws (seen + 2 ^ i) (i ∷ l) q)
    where
      go : (o : Option ℕ) → taxon_of ns w ≡ o → ((i : ℕ) → Mask (seen + 2 ^ i) (i ∷ l) → Verdict (seen + 2 ^ i) (i ∷ l) ws) → Verdict seen l (w ∷ ws)
      go none e f = inl (7, names-none e, leaf-unknown ns seen w ws e)
      go (some i) e f = new (on? seen i)
        where
          more : (On seen i → ⊥) → Verdict (seen + 2 ^ i) (i ∷ l) ws → Verdict seen l (w ∷ ws)
          more g (inl a) = inl (a.0, further e (λ h. g (m.from i h)) a.1, leaf-new ns seen w ws i e g ∙ a.2)
          more g (inr z) = inr (leaf-new ns seen w ws i e g ∙ z)

          new : (On seen i → ⊥) ⊎ On seen i → Verdict seen l (w ∷ ws)
          new (inl g) = more g (f i (seen_more seen l m i (taxon-low w i e) g))
          new (inr o) = inl (8, came-before e (m.into i o), leaf-again ns seen w ws i e o)

  -- ---- a fault of the leaves is their verdict

  answered : (ws : List (List ℕ)) (seen : ℕ) (l : List ℕ) → Mask seen l → (k : ℕ) → Fault ns l ws k → leaf_fault ns seen ws ≡ k
  unfolding leaf_fault
  answered [] seen l m k (missing {i = i} b f) =
      if-false 0 10 (ne_eqb seen (every_taxon (length ns)) (λ e. f (m.into i (subst (λ (z : ℕ). On z i) (sym e) (every-on (length ns) i b)))))
  answered (w ∷ ws) seen l m k (names-none e) = leaf-unknown ns seen w ws e
  answered (w ∷ ws) seen l m k (came-before {i = i} e h) = leaf-again ns seen w ws i e (m.from i h)
  answered (w ∷ ws) seen l m k (further {i = i} e f q) =
      let g : On seen i → ⊥ = λ o. f (m.into i o) in
      leaf-new ns seen w ws i e g ∙ answered ws (seen + 2 ^ i) (i ∷ l) (seen_more seen l m i (taxon-low w i e) g) k q

  pub leaves-exactly : (ws : List (List ℕ)) (k : ℕ) → (leaf_fault ns 0 ws ≡ suc k) ↔ Fault ns [] ws (suc k)
  leaves-exactly ws k = (λ e. go e (decided ws 0 [] none_seen), λ q. answered ws 0 [] none_seen (suc k) q)
    where
      go : leaf_fault ns 0 ws ≡ suc k → Verdict 0 [] ws → Fault ns [] ws (suc k)
      go e (inl a) = subst (Fault ns [] ws) (sym a.2 ∙ e) a.1
      go e (inr z) = absurd (omega arith)

  pub faultless-exactly : (ws : List (List ℕ)) → (leaf_fault ns 0 ws ≡ 0) ↔ ((k : ℕ) → Fault ns [] ws (suc k) → ⊥)
  faultless-exactly ws = (λ z k q. omega (arith, answered ws 0 [] none_seen (suc k) q), λ f. go f (decided ws 0 [] none_seen))
    where
      go : ((k : ℕ) → Fault ns [] ws (suc k) → ⊥) → Verdict 0 [] ws → leaf_fault ns 0 ws ≡ 0
      go f (inl a) = absurd (f a.0 a.1)
      go f (inr z) = z

  pub fault-numbers-only : {l : List ℕ} {ws : List (List ℕ)} {k : ℕ} → Fault ns l ws k → (8 ≤ k) × (k ≤ 10)
  fault-numbers-only (names-none e) = (omega arith, omega arith)
  fault-numbers-only (came-before e h) = (omega arith, omega arith)
  fault-numbers-only (further e f q) = fault-numbers-only q
  fault-numbers-only (missing b f) = (omega arith, omega arith)

  -- ---- a text

  abbrev pub Refusal : List ℕ → ℕ → Type 0
  Refusal s k = ((k ≡ 7) × ((t : Nodes) → IsTree s t → ⊥)) ⊎ ((t : Nodes) × IsTree s t × Fault ns [] (leaves t) k)

  abbrev pub Fine : List ℕ → List ℕ → Type 0
  Fine s ms = (t : Nodes) × IsTree s t × ((k : ℕ) → Fault ns [] (leaves t) k → ⊥) × (ms ≡ splits_of ns t)

  abbrev Judged : List ℕ → Answer (List ℕ) → Type 0
  Judged s (refused k) = Refusal s k
  Judged s (gives ms) = Fine s ms

  tree-judged : (s : List ℕ) (t : Nodes) → IsTree s t → Judged s (judged_tree ns t)
  tree-judged s t h = subst (Judged s) (sym (tree-step ns t)) (go (leaf_fault ns 0 (leaves t)) refl)
    where
      go : (k : ℕ) → leaf_fault ns 0 (leaves t) ≡ k → Judged s (tree_by ns t k)
      go zero e = (t, h, (λ k q. omega (arith, answered (leaves t) 0 [] none_seen k q, fault-numbers-only q)), refl)
      go (suc k) e = inr (t, h, (leaves-exactly (leaves t) k).0 e)

  text-judged : (s : List ℕ) → Judged s (judged ns s)
  text-judged s = subst (Judged s) (sym (judged-step ns s)) (go (reading s) refl)
    where
      go : (o : Option Nodes) → reading s ≡ o → Judged s (text_by ns o)
      go none e = inl (refl, (no-tree s).0 e)
      go (some t) e = tree-judged s t (reading-sound s t e)

  -- the verdict on a text that is the tree t, from the fault of its leaves
  by-leaves : (s : List ℕ) (t : Nodes) → IsTree s t → (k : ℕ) → leaf_fault ns 0 (leaves t) ≡ k → judged ns s ≡ tree_by ns t k
  by-leaves s t h k e = judged-step ns s ∙ ap (text_by ns) (reading-complete s t h) ∙ tree-step ns t ∙ ap (tree_by ns t) e

  fault-refused : (t : Nodes) (k : ℕ) → 8 ≤ k → tree_by ns t k ≡ refused k
  fault-refused t zero h = absurd (omega arith)
  fault-refused t (suc k) h = refl

  pub judged-refuses : (s : List ℕ) (k : ℕ) → (judged ns s ≡ refused k) ↔ Refusal s k
  judged-refuses s k = (λ e. subst (Judged s) e (text-judged s), λ q. go q)
    where
      go : Refusal s k → judged ns s ≡ refused k
      go (inl a) = judged-step ns s ∙ ap (text_by ns) ((no-tree s).1 a.1) ∙ ap refused (sym a.0)
      go (inr a) = by-leaves s a.0 a.1 k (answered (leaves a.0) 0 [] none_seen k a.2) ∙ fault-refused a.0 k (fault-numbers-only a.2).0

  pub judged-accepts : (s ms : List ℕ) → (judged ns s ≡ gives ms) ↔ Fine s ms
  judged-accepts s ms = (
    λ e. subst (Judged s) e (text-judged s),
    λ a. by-leaves s a.0 a.1 0 ((faultless-exactly (leaves a.0)).1 (λ k q. a.2 (suc k) q)) ∙ ap gives (sym a.3),
  )
