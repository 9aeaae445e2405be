-- In a tree's text no text ends, and no quotes are open behind it: what is accepted, with a semicolon behind it, is one whole text.
--
--   no_stray            no symbol of a tree is a stray one
--   symbols-unended     bytes without a stray symbol have no semicolon outside quotes, and end outside quotes
--   tree-unended        so has a tree's text
use Rattle.std.specs.Prelude.{ℕ, Bool, ◌&&◌, not, eqb, if◌then◌else◌}
use Rattle.std.proofs.Common.{arith, ap, sym, ◌∙◌, subst, inl, inr, ⊎_elim, true≢false, ne_eqb}
use Rattle.std.proofs.Math.Path.{◌≡◌, refl}
use Rattle.std.proofs.Math.Bool.{true, false}
use mathlib.Core.List.{List, [], ◌∷◌, ◌++◌}
use Rattle.std.proofs.Math.Option.{Option}
use Rattle.trees.specs.Text.{semicolon, apostrophe, open_after, is_label, Symbol, stray, Kind, blank, label, mark, kind, kind_in, ended, symbols, symbols_after}
use Rattle.trees.specs.Tree.{Nodes}
use Rattle.trees.specs.Grammar.{MayHaveLength, no_length, a-length, MayHaveLabel, no_label, a-label, IsNode, is_leaf, is-inner, IsNodes, is_one, is-more, IsTree}
use Rattle.theorems.specs.ListLaws.{Mem, mem-cases}
use Rattle.theorems.specs.TextLaws.{by_kind, symbols-cons}
use Rattle.theorems.specs.QuoteLaws.{open-append, other-turned}
use Rattle.theorems.specs.LabelLaws.{label-closed}
use Rattle.theorems.specs.OutsideLaws.{Leads, leads-none, leads-more}
use Rattle.theorems.specs.NexusTextLaws.{Unended}

-- ---- the symbols of a tree

abbrev NoStray : List Symbol → Type 0
NoStray ss = Mem stray ss → ⊥

length-stray : {e : List Symbol} {x : Option (List ℕ)} → MayHaveLength e x → NoStray e
length-stray (a-length {w = w} f) (inr (inr x5)) = elim x5 [ ]
length-stray no_length m = m
length-stray (a-length f) (inl e) = let z : ◌≡◌ {A = ℕ} 0 1 = cc in omega arith
length-stray (a-length f) (inr (inl e)) = let z : ◌≡◌ {A = ℕ} 0 1 = cc in omega arith

label-stray : {l : List Symbol} → MayHaveLabel l → NoStray l
label-stray (a-label {w = w}) (inr x'') = elim x'' [ ]
label-stray no_label m = m
label-stray a-label (inl e) = let z : ◌≡◌ {A = ℕ} 0 1 = cc in omega arith

-- parts that have none, with another symbol between them
between : (ss us : List Symbol) (c : Symbol) → (stray ≡ c → ⊥) → NoStray ss → NoStray us → NoStray (ss ++ (c ∷ us))
between ss us c f g k m = ⊎_elim g (λ n. ⊎_elim f k n) (mem-cases stray ss (c ∷ us) m)

mutual
  pub no_stray : {d : ℕ} {ss : List Symbol} {t : Nodes} → IsNode d ss t → NoStray ss
  no_stray (is_leaf x) (inl e) = let z : ◌≡◌ {A = ℕ} 0 1 = cc in omega arith
  no_stray (is_leaf x) (inr m) = length-stray x m
  no_stray (is-inner q n w l e) (inl f) = let z : ◌≡◌ {A = ℕ} 0 1 = cc in omega arith
  no_stray (is-inner {ss = ss} {l = l'} {e = e'} q n w l e) (inr m) =
      between ss (l' ++ e') _ (λ f. let z : ◌≡◌ {A = ℕ} 0 1 = cc in omega arith) (λ x. none-stray n x) (λ k. ⊎_elim (label-stray l) (length-stray e) (mem-cases stray l' e' k)) (subst (Mem stray) q m)

  none-stray : {d : ℕ} {ss : List Symbol} {t : Nodes} → IsNodes d ss t → NoStray ss
  none-stray (is_one n) m = no_stray n m
  none-stray (is-more {ss = ss} {us = us} q g n k) m = between ss us _ (λ f. let z : ◌≡◌ {A = ℕ} 0 1 = cc in omega arith) (λ x. no_stray n x) (λ x. none-stray k x) (subst (Mem stray) q m)

-- ---- bytes without a stray symbol

ended-has : (w : List ℕ) (r : List Symbol) → NoStray (ended w r) → NoStray r
unfolding ended
ended-has [] r f m = f m
ended-has (b ∷ w) r f m = f (inr m)

-- a run that has ended is a label, or there is none
ended-closed : (w : List ℕ) (r : List Symbol) → NoStray (ended w r) → open_after false w ≡ false
unfolding ended open_after
ended-closed [] r f = refl
ended-closed (b ∷ w) r f = go (is_label (b ∷ w)) refl f
  where
    go : (t : Bool) → is_label (b ∷ w) ≡ t → (Mem stray ((if t then Symbol.token (b ∷ w) else stray) ∷ r) → ⊥) → open_after false (b ∷ w) ≡ false
    go true e g = label-closed (b ∷ w) e
    go false e g = absurd (g (inl refl))

other-kind : (b x : ℕ) (k : Kind) → kind b ≡ k → (kind x ≡ k → ⊥) → eqb b x ≡ false
other-kind b x k e f = ne_eqb b x (λ q. f (ap kind (sym q) ∙ e))

-- a byte that is no semicolon and no apostrophe, outside quotes
step-outside : (b : ℕ) (s : List ℕ) → eqb b semicolon ≡ false → eqb b apostrophe ≡ false → Leads semicolon false s false → Leads semicolon false (b ∷ s) false
step-outside b s e f l = leads-more e (subst (λ (q : Bool). Leads semicolon q s false) (sym (other-turned false b f)) l)

module _ (w : List ℕ) (b : ℕ) (s : List ℕ) (rest : (v : List ℕ) → NoStray (symbols_after v s) → Leads semicolon (open_after false v) s false) where
  -- behind a run that has ended
  step-ended : (q : Bool) → q ≡ false → (k : Kind) → kind_in q b ≡ k → (kind semicolon ≡ k → ⊥) → (kind apostrophe ≡ k → ⊥) → NoStray (symbols s) → Leads semicolon q (b ∷ s) false
  unfolding kind_in open_after
  step-ended true c k e f g n = absurd (true≢false c)
  step-ended false c k e f g n = step-outside b s (other-kind b semicolon k e f) (other-kind b apostrophe k e g) (rest [] n)

  unquoted-other : (q : Bool) → kind_in q b ≡ label → (not q && eqb b semicolon) ≡ false
  unfolding kind_in kind
  unquoted-other true e = refl
  unquoted-other false e = other-kind b semicolon label e (λ f. let z : ◌≡◌ {A = ℕ} 0 1 = cc in omega arith)

  step-unended : (k : Kind) → kind_in (open_after false w) b ≡ k → NoStray (by_kind k w b s) → Leads semicolon (open_after false w) (b ∷ s) false
  unfolding by_kind kind open_after
  step-unended blank e n =
      step-ended (open_after false w) (ended-closed w (symbols s) n) blank e (λ f. let z : ◌≡◌ {A = ℕ} 0 1 = cc in omega arith)
      (λ f. let z : ◌≡◌ {A = ℕ} 0 1 = cc in omega arith) (ended-has w (symbols s) n)
  step-unended label e n =
      leads-more (unquoted-other (open_after false w) e) (subst (λ (q : Bool). Leads semicolon q s false) (open-append false w (b ∷ [])) (rest (w ++ b ∷ []) n))
  step-unended (mark m) e n =
      let r = ended-has w (m ∷ symbols s) n in
      step-ended (open_after false w) (ended-closed w (m ∷ symbols s) n) (mark m) e (λ f. r (inl cc))
      (λ f. let z : ◌≡◌ {A = ℕ} 0 1 = cc in omega arith) (λ x. r (inr x))

pub symbols-unended : (s w : List ℕ) → NoStray (symbols_after w s) → Leads semicolon (open_after false w) s false
unfolding symbols_after
symbols-unended [] w n = subst (λ (q : Bool). Leads semicolon (open_after false w) [] q) (ended-closed w [] n) leads-none
symbols-unended (b ∷ s) w n = step-unended w b s (symbols-unended s) (kind_in (open_after false w) b) refl (subst NoStray (symbols-cons w b s) n)

pub tree-unended : {s : List ℕ} {t : Nodes} → IsTree s t → Unended s
unfolding open_after
tree-unended {s} i = symbols-unended s [] (no_stray i)
