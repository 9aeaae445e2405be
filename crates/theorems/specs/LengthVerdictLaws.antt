-- Laws of the verdict with lengths: when it is 17, and what it gives.
--
--   branches_of k ns t      the splits of the tree t, and those of its lengths that are kept
--   inexact-or-not         a length of a tree is outside the exact range, where lengths are kept, or none is
--   inexact-tree, exact-tree     what that comes to, of a tree without another fault: 17, or its branches
--   with-refused           a text that is refused whatever its lengths is refused with the same number
--   with-given             of any other, its lengths decide
--   with-refuses           it is refused with k exactly when it is so whatever its lengths, or k is 17 and a length is outside the range
--   with-accepts           and it gives branches exactly when no fault holds, and they are those of its tree
--   with-good              they are in order: the splits, and their lengths
use Rattle.std.specs.Prelude.{ℕ, ◌≡◌, ◌⊎◌, ◌↔◌, Bool, ◌&&◌, if◌then◌else◌}
use Rattle.std.proofs.Common.{arith, sym, ◌∙◌, subst, inl, inr, eq-eqb, ne_eqb}
use Rattle.std.proofs.Math.Path.{refl, ap}
use Rattle.std.proofs.Math.Bool.{true, false}
use mathlib.Core.List.{List, [], ◌∷◌}
use Rattle.std.proofs.Math.Option.{Option, none, some}
use Rattle.std.proofs.Math.Dec.{eqb}
use Rattle.std.proofs.Math.ListN.{length}
use Rattle.std.proofs.lemmas.Bool.{eqb-false}
use Rattle.trees.specs.Plain.{every, Answer, refused, gives}
use Rattle.trees.specs.Tree.{Nodes, leaves}
use Rattle.trees.specs.Grammar.{IsTree}
use Rattle.trees.specs.Reading.{reading}
use Rattle.trees.specs.Splits.{splits_of}
use Rattle.trees.specs.Value.{Length, length_of}
use Rattle.trees.specs.Lengths.{tokens, is_given, exact, lengths_of}
use Rattle.trees.specs.Verdict.{judged_tree, judged, Branches, with_lengths, judged_with}
use Rattle.trees.specs.Whole.{good_tree, good_length, good_branches}
use Rattle.theorems.specs.ListLaws.{and-true, equal_or_not, Mem}
use Rattle.theorems.specs.GrammarLaws.{reading-complete}
use Rattle.theorems.specs.VerdictLaws.{text_by, judged-step, judged-good}
use Rattle.theorems.specs.Refusing.{Fault, OutsideRange, Inexact, kept_lengths}
use Rattle.theorems.specs.FaultLaws.{Refusal, judged-refuses, judged-accepts}
use Rattle.theorems.specs.TreeLengthLaws.{lengths-count, lengths-good}

abbrev pub branches_of : ℕ → List (List ℕ) → Nodes → Branches
branches_of kept ns t = record { splits = splits_of ns t; lengths = kept_lengths kept ns t }

-- ---- a length outside the range, or none

abbrev has_value : List ℕ → Bool
has_value w = is_given (length_of w)

abbrev GivenOrNot : List (List ℕ) → Type 0
GivenOrNot ws =
    ((every has_value ws ≡ true) × ((w : List ℕ) → Mem w ws → length_of w ≡ none → ⊥))
    ⊎ ((every has_value ws ≡ false) × ((w : List ℕ) × Mem w ws × (length_of w ≡ none)))

some-none : {A : Type 0} {x : A} → some x ≡ none → ⊥
some-none e = let z : ◌≡◌ {A = ℕ} 0 1 = cc in omega arith

given-or-not : (ws : List (List ℕ)) → GivenOrNot ws
unfolding every
given-or-not [] = inl (refl, λ w m e. m)
given-or-not (v ∷ ws) = go (length_of v) refl (given-or-not ws)
  where
    first : (x : Length) → length_of v ≡ x → every has_value (v ∷ ws) ≡ (is_given x && every has_value ws)
    first x e = ap (λ (y : Length). is_given y && every has_value ws) e

    go : (x : Length) → length_of v ≡ x → GivenOrNot ws → GivenOrNot (v ∷ ws)
    go none e r = inr (first none e, (v, inl refl, e))
    go (some x) e (inl r) = inl (first (some x) e ∙ r.0, λ w m. rest w m)
      where
        rest : (w : List ℕ) → Mem w (v ∷ ws) → length_of w ≡ none → ⊥
        rest w (inl q) n = some-none (sym e ∙ ap length_of (sym q) ∙ n)
        rest w (inr m) n = r.1 w m n
    go (some x) e (inr r) = inr (first (some x) e ∙ r.0, (r.1.0, inr r.1.1, r.1.2))

exact-or-not : (t : Nodes) → ((exact t ≡ true) × (OutsideRange t → ⊥)) ⊎ ((exact t ≡ false) × OutsideRange t)
unfolding exact
exact-or-not t = go (given-or-not (tokens t))
  where
    go : GivenOrNot (tokens t) → ((every has_value (tokens t) ≡ true) × (OutsideRange t → ⊥)) ⊎ ((every has_value (tokens t) ≡ false) × OutsideRange t)
    go (inl r) = inl (r.0, λ o. r.1 o.0 o.1 o.2)
    go (inr r) = inr r

pub inexact-or-not : (kept : ℕ) (t : Nodes) → (Inexact kept t → ⊥) ⊎ Inexact kept t
inexact-or-not kept t = go (equal_or_not kept 0) (exact-or-not t)
  where
    go : (kept ≡ 0) ⊎ (kept ≡ 0 → ⊥) → ((exact t ≡ true) × (OutsideRange t → ⊥)) ⊎ ((exact t ≡ false) × OutsideRange t) → (Inexact kept t → ⊥) ⊎ Inexact kept t
    go (inl e) r = inl (λ o. o.0 e)
    go (inr f) (inl r) = inl (λ o. r.1 o.1)
    go (inr f) (inr r) = inr (f, r.1)

-- ---- a tree without another fault

module _ (kept : ℕ) (ns : List (List ℕ)) (t : Nodes) (ms : List ℕ) where
  -- from its two tests
  abbrev lengths_by : Bool → Bool → Answer Branches
  lengths_by b c =
      if b then gives (record { splits = ms; lengths = [] })
      else if c then gives (record { splits = ms; lengths = lengths_of ns t })
      else refused 17

  pub inexact-tree : Inexact kept t → with_lengths kept ns t (gives ms) ≡ refused 17
  unfolding with_lengths
  inexact-tree o = go (exact-or-not t)
    where
      go : ((exact t ≡ true) × (OutsideRange t → ⊥)) ⊎ ((exact t ≡ false) × OutsideRange t) → lengths_by (eqb kept 0) (exact t) ≡ refused 17
      go (inl r) = absurd (r.1 o.1)
      go (inr r) = ap (λ (b : Bool). lengths_by b (exact t)) (ne_eqb kept 0 o.0) ∙ ap (lengths_by false) r.0

  pub exact-tree : (Inexact kept t → ⊥) → with_lengths kept ns t (gives ms) ≡ gives (record { splits = ms; lengths = kept_lengths kept ns t })
  unfolding with_lengths
  exact-tree n = go (eqb kept 0) refl (exact-or-not t)
    where
      go : (b : Bool) → eqb kept 0 ≡ b → ((exact t ≡ true) × (OutsideRange t → ⊥)) ⊎ ((exact t ≡ false) × OutsideRange t)
          → lengths_by b (exact t) ≡ gives (record { splits = ms; lengths = if b then [] else lengths_of ns t })
      go true e r = refl
      go false e (inl r) = ap (lengths_by false) r.0
      go false e (inr r) = absurd (n (eqb-false kept 0 e, r.1))

-- ---- a text

module _ (kept : ℕ) (ns : List (List ℕ)) where
  -- what a text comes to that is the tree o, if it is one
  abbrev with_by : Option Nodes → Answer Branches
  with_by none = refused 7
  with_by (some t) = with_lengths kept ns t (judged_tree ns t)

  with-step : (s : List ℕ) → judged_with kept ns s ≡ with_by (reading s)
  unfolding judged_with
  with-step s = go (reading s)
    where
      go : (o : Option Nodes) → elim o as (λ _. Answer Branches) [ none ↦ refused 7 | some t ↦ with_lengths kept ns t (judged_tree ns t) ] ≡ with_by o
      go none = refl
      go (some t) = refl

  pub with-refused : (s : List ℕ) (k : ℕ) → judged ns s ≡ refused k → judged_with kept ns s ≡ refused k
  unfolding with_lengths
  with-refused s k e = with-step s ∙ go (reading s) (sym (judged-step ns s) ∙ e)
    where
      go : (o : Option Nodes) → text_by ns o ≡ refused k → with_by o ≡ refused k
      go none q = let z : 7 ≡ k = cc in ap refused z
      go (some t) q = ap (with_lengths kept ns t) q

  pub with-given : (s : List ℕ) (t : Nodes) → IsTree s t → (ms : List ℕ) → judged ns s ≡ gives ms → judged_with kept ns s ≡ with_lengths kept ns t (gives ms)
  with-given s t i ms e =
      let r = reading-complete s t i in
      with-step s ∙ ap with_by r ∙ ap (with_lengths kept ns t) (sym (judged-step ns s ∙ ap (text_by ns) r) ∙ e)

  -- ---- exactly

  abbrev pub NoLeafFault : Nodes → Type 0
  NoLeafFault t = (k : ℕ) → Fault ns [] (leaves t) k → ⊥

  abbrev pub WithRefusal : List ℕ → ℕ → Type 0
  WithRefusal s k = Refusal ns s k ⊎ ((k ≡ 17) × ((t : Nodes) × IsTree s t × NoLeafFault t × Inexact kept t))

  abbrev pub WithFine : List ℕ → Branches → Type 0
  WithFine s b = (t : Nodes) × IsTree s t × NoLeafFault t × (Inexact kept t → ⊥) × (b ≡ branches_of kept ns t)

  abbrev Judged : List ℕ → Answer Branches → Type 0
  Judged s (refused k) = WithRefusal s k
  Judged s (gives b) = WithFine s b

  -- a tree without a fault of its leaves
  module _ (s : List ℕ) (t : Nodes) (i : IsTree s t) (f : NoLeafFault t) where
    fine-given : judged_with kept ns s ≡ with_lengths kept ns t (gives (splits_of ns t))
    fine-given = with-given s t i (splits_of ns t) ((judged-accepts ns s (splits_of ns t)).1 (t, i, f, refl))

    inexact-text : Inexact kept t → judged_with kept ns s ≡ refused 17
    inexact-text o = fine-given ∙ inexact-tree kept ns t (splits_of ns t) o

    exact-text : (Inexact kept t → ⊥) → judged_with kept ns s ≡ gives (branches_of kept ns t)
    exact-text n = fine-given ∙ exact-tree kept ns t (splits_of ns t) n

    fine-judged : Judged s (judged_with kept ns s)
    fine-judged = go (inexact-or-not kept t)
      where
        go : (Inexact kept t → ⊥) ⊎ Inexact kept t → Judged s (judged_with kept ns s)
        go (inl n) = subst (Judged s) (sym (exact-text n)) (t, i, f, n, refl)
        go (inr o) = subst (Judged s) (sym (inexact-text o)) (inr (refl, (t, i, f, o)))

  text-judged : (s : List ℕ) → Judged s (judged_with kept ns s)
  text-judged s = go (judged ns s) refl
    where
      go : (a : Answer (List ℕ)) → judged ns s ≡ a → Judged s (judged_with kept ns s)
      go (refused k) e = subst (Judged s) (sym (with-refused s k e)) (inl ((judged-refuses ns s k).0 e))
      go (gives ms) e = let r = (judged-accepts ns s ms).0 e in fine-judged s r.0 r.1 r.2

  pub with-refuses : (s : List ℕ) (k : ℕ) → (judged_with kept ns s ≡ refused k) ↔ WithRefusal s k
  with-refuses s k = (λ e. subst (Judged s) e (text-judged s), λ r. go r)
    where
      go : WithRefusal s k → judged_with kept ns s ≡ refused k
      go (inl r) = with-refused s k ((judged-refuses ns s k).1 r)
      go (inr r) = inexact-text s r.1.0 r.1.1 r.1.2 r.1.3 ∙ ap refused (sym r.0)

  pub with-accepts : (s : List ℕ) (b : Branches) → (judged_with kept ns s ≡ gives b) ↔ WithFine s b
  with-accepts s b = (λ e. subst (Judged s) e (text-judged s), λ r. exact-text s r.0 r.1 r.2 r.3 ∙ ap gives (sym r.4))

  -- ---- what it gives is in order

  kept-good : (t : Nodes) → good_branches kept (splits_of ns t) (kept_lengths kept ns t) ≡ true
  unfolding good_branches
  kept-good t = go (eqb kept 0)
    where
      go : (b : Bool) → (eqb (length (if b then [] else lengths_of ns t)) (if b then 0 else length (splits_of ns t)) && every good_length (if b then [] else lengths_of ns t)) ≡ true
      go true = unfold every in refl
      go false = and-true (eq-eqb _ _ (lengths-count ns t)) (lengths-good ns t)

  pub with-good : (s : List ℕ) (b : Branches) → judged_with kept ns s ≡ gives b → (good_tree (length ns) b.splits ≡ true) × (good_branches kept b.splits b.lengths ≡ true)
  with-good s b e =
      let r = (with-accepts s b).0 e in
      let t = r.0 in
      subst (λ (c : Branches). (good_tree (length ns) c.splits ≡ true) × (good_branches kept c.splits c.lengths ≡ true)) (sym r.4)
      (judged-good ns s (splits_of ns t) ((judged-accepts ns s (splits_of ns t)).1 (t, r.1, r.2, refl)), kept-good t)
