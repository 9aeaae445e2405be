-- Laws of the verdict on a text: which leaf decides, when it is 7, and what the splits of an accepted text are like.
--
--   leaf-unknown, leaf-again, leaf-new   the first faulty leaf decides between 8 and 9
--   leaves-distinct                      leaves without a fault are different taxa
--   fault-numbers                        the fault of the leaves is 8, 9 or 10, or there is none
--   seven-exactly                        7 exactly when the text is no tree by the grammar
--   judged-good                          the splits of a text are proper, rising, and agree in pairs
--   refusal-numbers                      a text is refused with 7, 8, 9 or 10
use Rattle.std.specs.Prelude.{ℕ, zero, suc, ◌+◌, ◌^◌, ◌≤◌, ◌≡◌, refl, ◌⊎◌, ◌↔◌, Bool, true, false, List, [], ◌∷◌, ◌++◌, eqb, length, if◌then◌else◌}
use Rattle.std.proofs.Common.{arith, add-zero, add_assoc, ap, sym, ◌∙◌, subst, inl, inr, ⊎_elim, append_assoc, append-nil}
use Rattle.std.proofs.Math.Option.{Option, none, some}
use Rattle.std.specs.Int.Bits.{bit_or}
use Rattle.std.proofs.lemmas.Nat.{or_disjoint}
use Rattle.trees.specs.Plain.{Answer, refused, gives}
use Rattle.trees.specs.Mask.{has, every_taxon}
use Rattle.trees.specs.Tree.{Nodes, nil, leaf, inner, leaves}
use Rattle.trees.specs.Grammar.{IsTree}
use Rattle.trees.specs.Reading.{reading}
use Rattle.trees.specs.Names.{taxon_of}
use Rattle.trees.specs.Splits.{taxon, taxa, splits_of}
use Rattle.trees.specs.Verdict.{leaf_fault, judged_tree, judged}
use Rattle.trees.specs.Whole.{good_tree}
use Rattle.theorems.specs.ListLaws.{by-test, if-true, if-false}
use Rattle.theorems.specs.BitLaws.{On, on?, off_zero, Dis, or-on, on-or-l, on-or-r, only-on, dis-and}
use Rattle.theorems.specs.MaskLaws.{on-has, has-off, off-has}
use Rattle.theorems.specs.SplitLaws.{Distinct, taxon-named, splits-good}
use Rattle.theorems.specs.GrammarLaws.{no-tree}

-- ---- one leaf

-- what a leaf with the taxon o leads to
abbrev leaf_by : List (List ℕ) → ℕ → List (List ℕ) → Option ℕ → ℕ
leaf_by ns seen ws none = 8
leaf_by ns seen ws (some i) = if has seen i then 9 else leaf_fault ns (seen + 2 ^ i) ws

leaf-step : (ns : List (List ℕ)) (seen : ℕ) (w : List ℕ) (ws : List (List ℕ)) → leaf_fault ns seen (w ∷ ws) ≡ leaf_by ns seen ws (taxon_of ns w)
unfolding leaf_fault
leaf-step ns seen w ws =
    elim (taxon_of ns w) as (λ o. elim o as (λ _. ℕ) [ none ↦ 8 | some i ↦ if has seen i then 9 else leaf_fault ns (seen + 2 ^ i) ws ] ≡ leaf_by ns seen ws o)
    [ none ↦ refl | some i ↦ refl ]

module _ (ns : List (List ℕ)) (seen : ℕ) (w : List ℕ) (ws : List (List ℕ)) where
  pub leaf-unknown : taxon_of ns w ≡ none → leaf_fault ns seen (w ∷ ws) ≡ 8
  leaf-unknown e = leaf-step ns seen w ws ∙ ap (leaf_by ns seen ws) e

  pub leaf-again : (i : ℕ) → taxon_of ns w ≡ some i → On seen i → leaf_fault ns seen (w ∷ ws) ≡ 9
  leaf-again i e h = leaf-step ns seen w ws ∙ ap (leaf_by ns seen ws) e ∙ if-true 9 (leaf_fault ns (seen + 2 ^ i) ws) (on-has seen i h)

  pub leaf-new : (i : ℕ) → taxon_of ns w ≡ some i → (On seen i → ⊥) → leaf_fault ns seen (w ∷ ws) ≡ leaf_fault ns (seen + 2 ^ i) ws
  leaf-new i e f = leaf-step ns seen w ws ∙ ap (leaf_by ns seen ws) e ∙ if-false 9 (leaf_fault ns (seen + 2 ^ i) ws) (off-has seen i f)

  -- a leaf without a fault
  pub leaf-fine : leaf_fault ns seen (w ∷ ws) ≡ 0 → (i : ℕ) × (taxon_of ns w ≡ some i) × (On seen i → ⊥) × (leaf_fault ns (seen + 2 ^ i) ws ≡ 0)
  leaf-fine z = go (taxon_of ns w) refl (sym (leaf-step ns seen w ws) ∙ z)
    where
      go : (o : Option ℕ) → taxon_of ns w ≡ o → leaf_by ns seen ws o ≡ 0 → (i : ℕ) × (taxon_of ns w ≡ some i) × (On seen i → ⊥) × (leaf_fault ns (seen + 2 ^ i) ws ≡ 0)
      go none e q = absurd (omega arith)
      go (some i) e q = new (has seen i) refl q
        where
          new : (b : Bool) → has seen i ≡ b → (if b then 9 else leaf_fault ns (seen + 2 ^ i) ws) ≡ 0 → (j : ℕ) × (taxon_of ns w ≡ some j) × (On seen j → ⊥) × (leaf_fault ns (seen + 2 ^ j) ws ≡ 0)
          new true d p = absurd (omega arith)
          new false d p = (i, e, has-off seen i d, p)

-- ---- all leaves

-- taxa seen, then a, then b: the two parts are apart from what was seen and from each other
joined : (s a b : ℕ) → Dis s a → Dis (s + a) b → Dis s (bit_or a b) × Dis a b × (s + a + b ≡ s + bit_or a b)
joined s a b d e =
    let o : bit_or s a ≡ s + a = or_disjoint s a (dis-and s a d) in
    let f : Dis (bit_or s a) b = subst (λ (z : ℕ). Dis z b) (sym o) e in
    let g : Dis a b = λ i h k. f i (on-or-r s a i h) k in
    (λ i h k. ⊎_elim (λ n. f i (on-or-l s a i h) (or-on a b i k n)) (λ p. d i h p) (on? a i), g, add_assoc s a b ∙ ap (λ (z : ℕ). s + z) (sym (or_disjoint a b (dis-and a b g))))

apart-bit : (seen i : ℕ) → (On seen i → ⊥) → Dis seen (2 ^ i)
apart-bit seen i f j h k = f (subst (On seen) (sym (only-on i j k)) h)

pub leaves-distinct : (ns : List (List ℕ)) (t : Nodes) (seen : ℕ) (ws : List (List ℕ)) → leaf_fault ns seen (leaves t ++ ws) ≡ 0 → Dis seen (taxa ns t) × Distinct ns t × (leaf_fault ns (seen + taxa ns t) ws ≡ 0)
unfolding leaves taxa
leaves-distinct ns nil seen ws z = ((λ i h k. off_zero i k), tt, ap (λ (x : ℕ). leaf_fault ns x ws) (add-zero seen) ∙ z)
leaves-distinct ns (leaf w l r) seen ws z =
    let p = leaf-fine ns seen w (leaves r ++ ws) z in
    let q = leaves-distinct ns r (seen + 2 ^ p.0) ws p.3 in
    let e : 2 ^ p.0 ≡ taxon ns w = sym (taxon-named ns w p.0 p.1) in
    let j = joined seen (taxon ns w) (taxa ns r) (subst (Dis seen) e (apart-bit seen p.0 p.2)) (subst (λ (x : ℕ). Dis (seen + x) (taxa ns r)) e q.0) in
    (j.0, (j.1, q.1), ap (λ (x : ℕ). leaf_fault ns x ws) (sym j.2 ∙ ap (λ (x : ℕ). seen + x + taxa ns r) (sym e)) ∙ q.2)
leaves-distinct ns (inner c l r) seen ws z =
    let p = leaves-distinct ns c seen (leaves r ++ ws) (ap (leaf_fault ns seen) (sym (append_assoc (leaves c) (leaves r) ws)) ∙ z) in
    let q = leaves-distinct ns r (seen + taxa ns c) ws p.2 in
    let j = joined seen (taxa ns c) (taxa ns r) p.0 q.0 in
    (j.0, (j.1, p.1, q.1), ap (λ (x : ℕ). leaf_fault ns x ws) (sym j.2) ∙ q.2)

pub tree-distinct : (ns : List (List ℕ)) (t : Nodes) → leaf_fault ns 0 (leaves t) ≡ 0 → Distinct ns t
tree-distinct ns t z = (leaves-distinct ns t 0 [] (ap (leaf_fault ns 0) (append-nil (leaves t)) ∙ z)).1

-- ---- the numbers

abbrev pub FaultNumber : ℕ → Type 0
FaultNumber k = (k ≡ 0) ⊎ ((k ≡ 8) ⊎ ((k ≡ 9) ⊎ (k ≡ 10)))

pub fault-numbers : (ns : List (List ℕ)) (seen : ℕ) (ws : List (List ℕ)) → FaultNumber (leaf_fault ns seen ws)
unfolding leaf_fault
fault-numbers ns seen [] = by-test FaultNumber (eqb seen (every_taxon (length ns))) (λ e. inl refl) (λ e. inr (inr (inr refl)))
fault-numbers ns seen (w ∷ ws) = subst FaultNumber (sym (leaf-step ns seen w ws)) (go (taxon_of ns w) (λ i. fault-numbers ns (seen + 2 ^ i) ws))
  where
    go : (o : Option ℕ) → ((i : ℕ) → FaultNumber (leaf_fault ns (seen + 2 ^ i) ws)) → FaultNumber (leaf_by ns seen ws o)
    go none f = inr (inl refl)
    go (some i) f = by-test FaultNumber (has seen i) (λ e. inr (inr (inl refl))) (λ e. f i)

-- ---- a whole text

-- the verdict on a tree whose leaves have the fault k, and on what was read
abbrev pub tree_by : List (List ℕ) → Nodes → ℕ → Answer (List ℕ)
tree_by ns t zero = gives (splits_of ns t)
tree_by ns t (suc k) = refused (suc k)

pub tree-step : (ns : List (List ℕ)) (t : Nodes) → judged_tree ns t ≡ tree_by ns t (leaf_fault ns 0 (leaves t))
unfolding judged_tree
tree-step ns t =
    elim (leaf_fault ns 0 (leaves t)) as (λ k. elim k as (λ _. Answer (List ℕ)) [ zero ↦ gives (splits_of ns t) | suc k ↦ refused (suc k) ] ≡ tree_by ns t k)
    [ zero ↦ refl | suc k ↦ refl ]

abbrev pub text_by : List (List ℕ) → Option Nodes → Answer (List ℕ)
text_by ns none = refused 7
text_by ns (some t) = judged_tree ns t

pub judged-step : (ns : List (List ℕ)) (s : List ℕ) → judged ns s ≡ text_by ns (reading s)
unfolding judged
judged-step ns s =
    elim (reading s) as (λ o. elim o as (λ _. Answer (List ℕ)) [ none ↦ refused 7 | some t ↦ judged_tree ns t ] ≡ text_by ns o)
    [ none ↦ refl | some t ↦ refl ]

-- of an answer: it is not 7, and splits that it gives are in order
abbrev NotSeven : Answer (List ℕ) → Type 0
NotSeven (refused k) = k ≡ 7 → ⊥
NotSeven (gives s) = Unit {0}

abbrev Good : List (List ℕ) → Answer (List ℕ) → Type 0
Good ns (refused k) = Unit {0}
Good ns (gives s) = good_tree (length ns) s ≡ true

tree-not-seven : (ns : List (List ℕ)) (t : Nodes) → NotSeven (judged_tree ns t)
tree-not-seven ns t = subst NotSeven (sym (tree-step ns t)) (go (leaf_fault ns 0 (leaves t)) (fault-numbers ns 0 (leaves t)))
  where
    go : (k : ℕ) → FaultNumber k → NotSeven (tree_by ns t k)
    go zero f = tt
    go (suc k) (inl e) = absurd (omega arith)
    go (suc k) (inr (inl e)) = λ q. omega arith
    go (suc k) (inr (inr (inl e))) = λ q. omega arith
    go (suc k) (inr (inr (inr e))) = λ q. omega arith

pub seven-exactly : (ns : List (List ℕ)) (s : List ℕ) → (judged ns s ≡ refused 7) ↔ ((t : Nodes) → IsTree s t → ⊥)
seven-exactly ns s = (λ e. (no-tree s).0 (go (reading s) refl (sym (judged-step ns s) ∙ e)), λ f. judged-step ns s ∙ ap (text_by ns) ((no-tree s).1 f))
  where
    go : (o : Option Nodes) → reading s ≡ o → text_by ns o ≡ refused 7 → reading s ≡ none
    go none e q = e
    go (some t) e q = absurd (subst NotSeven q (tree-not-seven ns t) refl)

tree-good : (ns : List (List ℕ)) (t : Nodes) → Good ns (judged_tree ns t)
tree-good ns t = subst (Good ns) (sym (tree-step ns t)) (go (leaf_fault ns 0 (leaves t)) refl)
  where
    go : (k : ℕ) → leaf_fault ns 0 (leaves t) ≡ k → Good ns (tree_by ns t k)
    go zero e = splits-good ns t (tree-distinct ns t e)
    go (suc k) e = tt

pub judged-good : (ns : List (List ℕ)) (s : List ℕ) (ms : List ℕ) → judged ns s ≡ gives ms → good_tree (length ns) ms ≡ true
judged-good ns s ms e = subst (Good ns) (sym (judged-step ns s) ∙ e) (go (reading s))
  where
    go : (o : Option Nodes) → Good ns (text_by ns o)
    go none = tt
    go (some t) = tree-good ns t

-- ---- the numbers of a refused text

abbrev Numbered : Answer (List ℕ) → Type 0
Numbered (refused k) = (7 ≤ k) × (k ≤ 10)
Numbered (gives s) = Unit {0}

pub refusal-numbers : (ns : List (List ℕ)) (s : List ℕ) (k : ℕ) → judged ns s ≡ refused k → (7 ≤ k) × (k ≤ 10)
refusal-numbers ns s k e = subst Numbered (sym (judged-step ns s) ∙ e) (go (reading s))
  where
    tree : (t : Nodes) (j : ℕ) → FaultNumber j → Numbered (tree_by ns t j)
    tree t zero f = tt
    tree t (suc j) (inl q) = absurd (omega arith)
    tree t (suc j) (inr (inl q)) = (omega arith, omega arith)
    tree t (suc j) (inr (inr (inl q))) = (omega arith, omega arith)
    tree t (suc j) (inr (inr (inr q))) = (omega arith, omega arith)

    go : (o : Option Nodes) → Numbered (text_by ns o)
    go none = (omega arith, omega arith)
    go (some t) = subst Numbered (sym (tree-step ns t)) (tree t (leaf_fault ns 0 (leaves t)) (fault-numbers ns 0 (leaves t)))
