-- The reading function reads exactly the grammar: what it reads is a tree of the grammar, it reads every tree of the grammar, and so a text is
-- at most one tree. And the nesting of a tree that is read is at most 63.
--
--   reading-sound      what is read is a tree of the grammar
--   reading-complete   every tree of the grammar is read
--   one-tree           a text is at most one tree
--   reading-symbols    texts with the same symbols are read the same
--   no-tree            nothing is read exactly where no tree is: "7 exactly when the text is no tree"
use Rattle.std.specs.Prelude.{ℕ, zero, suc, ◌+◌, ◌*◌, ◌≤◌, ◌<◌, max, ◌≡◌, ◌↔◌, Bool, true, false, leb, length, if◌then◌else◌}
use Rattle.std.proofs.Common.{arith, ap, sym, ◌∙◌, subst, length-append, leb-true, le-leb}
use Rattle.std.proofs.Math.Path.{refl}
use mathlib.Core.List.{List, [], ◌∷◌, ◌++◌, append_assoc, append-nil}
use Rattle.std.proofs.Math.Option.{Option, none, some}
use Rattle.trees.specs.Text.{Symbol, open_bracket, close_bracket, comma, colon, stray, token, symbols}
use Rattle.trees.specs.Length.{is_length}
use Rattle.trees.specs.Tree.{Nodes, nil, leaf, inner, leaf_with, inner_with, beside, width, nesting}
use Rattle.trees.specs.Grammar.{MayHaveLength, no_length, a-length, MayHaveLabel, no_label, a-label, IsNode, is_leaf, is-inner, IsNodes, is_one, is-more, IsTree}
use Rattle.trees.specs.Reading.{Read, read_length, read_label, read_closing, bracketed, joined, read_comma, followed, read_node, read_nodes, alone, reading}
use Rattle.theorems.specs.TextLaws.{symbols-length}

-- ---- sound: what the parser reads is a node, and it stops right behind it
abbrev LengthOk : (Option (List ℕ) → Nodes) → List Symbol → Read → Type 0
LengthOk t ts none = Unit {0}
LengthOk t ts (some p) = (us : List Symbol) × (x : Option (List ℕ)) × (ts ≡ us ++ p.1) × MayHaveLength us x × (p.0 ≡ t x)

abbrev NodeOk : ℕ → List Symbol → Read → Type 0
NodeOk d ts none = Unit {0}
NodeOk d ts (some p) = (us : List Symbol) × (ts ≡ us ++ p.1) × IsNode d us p.0

abbrev NodesOk : ℕ → List Symbol → Read → Type 0
NodesOk d ts none = Unit {0}
NodesOk d ts (some p) = (us : List Symbol) × (ts ≡ us ++ p.1) × IsNodes d us p.0

keep-sound : (t : Option (List ℕ) → Nodes) (w : List ℕ) (r : List Symbol) (b : Bool) → is_length w ≡ b → LengthOk t (colon ∷ token w ∷ r) (if b then some (t (some w), r) else none)
keep-sound t w r true e = (colon ∷ token w ∷ [], some w, refl, a-length e, refl)
keep-sound t w r false e = tt

length-sound : (t : Option (List ℕ) → Nodes) (ts : List Symbol) → LengthOk t ts (read_length t ts)
unfolding read_length
length-sound t [] = ([], none, refl, no_length, refl)
length-sound t (open_bracket ∷ r) = ([], none, refl, no_length, refl)
length-sound t (close_bracket ∷ r) = ([], none, refl, no_length, refl)
length-sound t (comma ∷ r) = ([], none, refl, no_length, refl)
length-sound t (stray ∷ r) = ([], none, refl, no_length, refl)
length-sound t (token w ∷ r) = ([], none, refl, no_length, refl)
length-sound t (colon ∷ []) = tt
length-sound t (colon ∷ open_bracket ∷ r) = tt
length-sound t (colon ∷ close_bracket ∷ r) = tt
length-sound t (colon ∷ comma ∷ r) = tt
length-sound t (colon ∷ colon ∷ r) = tt
length-sound t (colon ∷ stray ∷ r) = tt
length-sound t (colon ∷ token w ∷ r) = keep-sound t w r (is_length w) refl

-- what follows the closing bracket
abbrev LabelOk : (Option (List ℕ) → Nodes) → List Symbol → Read → Type 0
LabelOk t ts none = Unit {0}
LabelOk t ts (some p) = (l us : List Symbol) × (x : Option (List ℕ)) × (ts ≡ l ++ (us ++ p.1)) × MayHaveLabel l × MayHaveLength us x × (p.0 ≡ t x)

plain : (t : Option (List ℕ) → Nodes) (ts : List Symbol) (p : Read) → LengthOk t ts p → LabelOk t ts p
plain t ts none h = tt
plain t ts (some p) h = ([], h.0, h.1, h.2, no_label, h.3, h.4)

after-label : (t : Option (List ℕ) → Nodes) (w : List ℕ) (ts : List Symbol) (p : Read) → LengthOk t ts p → LabelOk t (token w ∷ ts) p
after-label t w ts none h = tt
after-label t w ts (some p) h = (token w ∷ [], h.0, h.1, ap (λ x. token w ∷ x) h.2, a-label, h.3, h.4)

label-sound : (t : Option (List ℕ) → Nodes) (ts : List Symbol) → LabelOk t ts (read_label t ts)
unfolding read_label read_length
label-sound t [] = plain t [] (read_length t []) (length-sound t [])
label-sound t (open_bracket ∷ r) = plain t (open_bracket ∷ r) (read_length t (open_bracket ∷ r)) (length-sound t (open_bracket ∷ r))
label-sound t (close_bracket ∷ r) = plain t (close_bracket ∷ r) (read_length t (close_bracket ∷ r)) (length-sound t (close_bracket ∷ r))
label-sound t (comma ∷ r) = plain t (comma ∷ r) (read_length t (comma ∷ r)) (length-sound t (comma ∷ r))
label-sound t (colon ∷ r) = plain t (colon ∷ r) (read_length t (colon ∷ r)) (length-sound t (colon ∷ r))
label-sound t (stray ∷ r) = plain t (stray ∷ r) (read_length t (stray ∷ r)) (length-sound t (stray ∷ r))
label-sound t (token w ∷ r) = after-label t w r (read_length t r) (length-sound t r)

module _ (d : ℕ) (us : List Symbol) (k : Nodes) (n : IsNodes d us k) where
  inner-ok : (r : List Symbol) (p : Read) → 2 ≤ width k → LabelOk (inner_with k) r p → NodeOk (suc d) (open_bracket ∷ (us ++ (close_bracket ∷ r))) p
  inner-ok r none c h = tt
  inner-ok r (some p) c h = (
    open_bracket ∷ (us ++ (close_bracket ∷ (h.0 ++ h.1))),
    ap (λ x. open_bracket ∷ x) (ap (λ x. us ++ (close_bracket ∷ x)) (h.3 ∙ sym (append_assoc h.0 h.1 p.1)) ∙ sym (append_assoc us (close_bracket ∷ (h.0 ++ h.1)) p.1)),
    subst (IsNode (suc d) (open_bracket ∷ (us ++ (close_bracket ∷ (h.0 ++ h.1))))) (sym h.6) (is-inner refl n c h.4 h.5),
  )

  kept : (r : List Symbol) (b : Bool) → leb 2 (width k) ≡ b → NodeOk (suc d) (open_bracket ∷ (us ++ (close_bracket ∷ r))) (if b then read_label (inner_with k) r else none)
  kept r true e = inner-ok r (read_label (inner_with k) r) (leb-true 2 (width k) e) (label-sound (inner_with k) r)
  kept r false e = tt

  closing-sound : (ts : List Symbol) → NodeOk (suc d) (open_bracket ∷ (us ++ ts)) (read_closing k ts)
  unfolding read_closing
  closing-sound [] = tt
  closing-sound (open_bracket ∷ r) = tt
  closing-sound (close_bracket ∷ r) = kept r (leb 2 (width k)) refl
  closing-sound (comma ∷ r) = tt
  closing-sound (colon ∷ r) = tt
  closing-sound (stray ∷ r) = tt
  closing-sound (token w ∷ r) = tt

bracketed-sound : (d : ℕ) (r : List Symbol) (p : Read) → NodesOk d r p → NodeOk (suc d) (open_bracket ∷ r) (bracketed p)
unfolding bracketed
bracketed-sound d r none h = tt
bracketed-sound d r (some p) h = subst (λ x. NodeOk (suc d) (open_bracket ∷ x) (read_closing p.0 p.1)) (sym h.1) (closing-sound d h.0 p.0 h.2 p.1)

leaf-sound : (d : ℕ) (w : List ℕ) (r : List Symbol) (p : Read) → LengthOk (leaf_with w) r p → NodeOk d (token w ∷ r) p
leaf-sound d w r none h = tt
leaf-sound d w r (some p) h = (token w ∷ h.0, ap (λ x. token w ∷ x) h.2, subst (IsNode d (token w ∷ h.0)) (sym h.4) (is_leaf h.3))

one_ok : (d : ℕ) (ts : List Symbol) (p : Nodes × List Symbol) → NodeOk d ts (some p) → NodesOk d ts (some p)
one_ok d ts p h = (h.0, h.1, is_one h.2)

joined-ok : (d : ℕ) (us r : List Symbol) (t : Nodes) (n : IsNode d us t) (q : Read) → NodesOk d r q → NodesOk d (us ++ (comma ∷ r)) (joined t q)
unfolding joined
joined-ok d us r t n none h = tt
joined-ok d us r t n (some q) h = (us ++ (comma ∷ h.0), ap (λ x. us ++ (comma ∷ x)) h.1 ∙ sym (append_assoc us (comma ∷ h.0) q.1), is-more refl refl n h.2)

comma-sound : (d : ℕ) (us : List Symbol) (t : Nodes) (n : IsNode d us t) (r : List Symbol) (k : List Symbol → Read) → ((x : List Symbol) → NodesOk d x (k x)) → NodesOk d (us ++ r) (read_comma t r k)
unfolding read_comma
comma-sound d us t n [] k h = (us, refl, is_one n)
comma-sound d us t n (open_bracket ∷ r) k h = (us, refl, is_one n)
comma-sound d us t n (close_bracket ∷ r) k h = (us, refl, is_one n)
comma-sound d us t n (colon ∷ r) k h = (us, refl, is_one n)
comma-sound d us t n (stray ∷ r) k h = (us, refl, is_one n)
comma-sound d us t n (token w ∷ r) k h = (us, refl, is_one n)
comma-sound d us t n (comma ∷ r) k h = joined-ok d us r t n (k r) (h r)

followed-sound : (d : ℕ) (ts : List Symbol) (p : Read) → NodeOk d ts p → (k : List Symbol → Read) → ((x : List Symbol) → NodesOk d x (k x)) → NodesOk d ts (followed p k)
unfolding followed
followed-sound d ts none h k q = tt
followed-sound d ts (some p) h k q = subst (λ x. NodesOk d x (read_comma p.0 p.1 k)) (sym h.1) (comma-sound d h.0 p.0 h.2 p.1 k q)

mutual
  unfolding read_node read_nodes

  pub node-sound : (f d : ℕ) (ts : List Symbol) → NodeOk d ts (read_node f d ts)
  node-sound zero d ts = tt
  node-sound (suc f) d [] = tt
  node-sound (suc f) d (close_bracket ∷ r) = tt
  node-sound (suc f) d (comma ∷ r) = tt
  node-sound (suc f) d (colon ∷ r) = tt
  node-sound (suc f) d (stray ∷ r) = tt
  node-sound (suc f) d (token w ∷ r) = leaf-sound d w r (read_length (leaf_with w) r) (length-sound (leaf_with w) r)
  node-sound (suc f) zero (open_bracket ∷ r) = tt
  node-sound (suc f) (suc d) (open_bracket ∷ r) = bracketed-sound d r (read_nodes f d r) (nodes-sound f d r)

  pub nodes-sound : (f d : ℕ) (ts : List Symbol) → NodesOk d ts (read_nodes f d ts)
  nodes-sound zero d ts = tt
  nodes-sound (suc f) d ts = followed-sound d ts (read_node f d ts) (node-sound f d ts) (λ r. read_nodes f d r) (λ r. nodes-sound f d r)

-- ---- complete: every node is read, whatever may stand behind one, with enough fuel
pub data Stop : List Symbol → Type 0 where
  at-end : Stop []
  at-close : {r : List Symbol} → Stop (close_bracket ∷ r)
  at-comma : {r : List Symbol} → Stop (comma ∷ r)

pub data Stop⁻ : List Symbol → Type 0 where
  at-end⁻ : Stop⁻ []
  at-close⁻ : {r : List Symbol} → Stop⁻ (close_bracket ∷ r)

weak : {r : List Symbol} → Stop⁻ r → Stop r
weak at-end⁻ = at-end
weak at-close⁻ = at-close

length-complete : (t : Option (List ℕ) → Nodes) {e r : List Symbol} {x : Option (List ℕ)} → MayHaveLength e x → Stop r → read_length t (e ++ r) ≡ some (t x, r)
unfolding read_length
length-complete t no_length at-end = refl
length-complete t no_length at-close = refl
length-complete t no_length at-comma = refl
length-complete t {r = r} (a-length {w = w} h) s = ap (λ b. if b then some (t (some w), r) else none) h

label-complete : (t : Option (List ℕ) → Nodes) {l e r : List Symbol} {x : Option (List ℕ)} → MayHaveLabel l → MayHaveLength e x → Stop r → read_label t (l ++ (e ++ r)) ≡ some (t x, r)
unfolding read_label
label-complete t no_label no_length at-end = refl
label-complete t no_label no_length at-close = length-complete t no_length at-close
label-complete t no_label no_length at-comma = length-complete t no_length at-comma
label-complete t no_label (a-length {w = w} h) s = length-complete t (a-length {w = w} h) s
label-complete t a-label e s = length-complete t e s

comma-stop : (t : Nodes) (k : List Symbol → Read) {r : List Symbol} → Stop⁻ r → read_comma t r k ≡ some (t, r)
unfolding read_comma
comma-stop t k at-end⁻ = refl
comma-stop t k at-close⁻ = refl

mutual
  unfolding read_node read_nodes bracketed read_closing read_comma followed joined

  pub node-complete : {d : ℕ} {us : List Symbol} {t : Nodes} → IsNode d us t → (r : List Symbol) → Stop r → (f : ℕ) → 2 * length us < f → read_node f d (us ++ r) ≡ some (t, r)
  node-complete (is_leaf e) r s zero h = absurd (omega arith)
  node-complete (is_leaf {w = w} e) r s (suc f) h = length-complete (leaf_with w) e s
  node-complete (is-inner z n c l e) r s zero h = absurd (omega arith)
  node-complete (is-inner {d = d} {us = us} {ss = ts} {l = lt} {e = et} {c = k} z n c l e) r s (suc f) h =
      let b : length us ≡ length ts + suc (length (lt ++ et)) = ap length z ∙ length-append ts (close_bracket ∷ (lt ++ et)) in
      let q : read_nodes f d (ts ++ (close_bracket ∷ ((lt ++ et) ++ r))) ≡ some (k, close_bracket ∷ ((lt ++ et) ++ r)) = nodes-complete n (close_bracket ∷ ((lt ++ et) ++ r)) at-close⁻ f (omega arith) in
      ap (λ x. bracketed (read_nodes f d x)) (ap (λ x. x ++ r) z ∙ append_assoc ts (close_bracket ∷ (lt ++ et)) r) ∙ ap bracketed q
      ∙ ap (λ b. if b then read_label (inner_with k) ((lt ++ et) ++ r) else none) (le-leb 2 (width k) c)
      ∙ ap (read_label (inner_with k)) (append_assoc lt et r) ∙ label-complete (inner_with k) l e s

  pub nodes-complete : {d : ℕ} {us : List Symbol} {t : Nodes} → IsNodes d us t → (r : List Symbol) → Stop⁻ r → (f : ℕ) → 2 * length us + 1 < f → read_nodes f d (us ++ r) ≡ some (t, r)
  nodes-complete (is_one n) r s zero h = absurd (omega arith)
  nodes-complete (is_one {d = d} {t = t} n) r s (suc f) h =
      ap (λ x. followed x (λ y. read_nodes f d y)) (node-complete n r (weak s) f (omega arith)) ∙ comma-stop t (λ y. read_nodes f d y) s
  nodes-complete (is-more y z n m) r s zero h = absurd (omega arith)
  nodes-complete (is-more {d = d} {vs = vs} {ss = ts} {us = us} {g = g} {t = t} {k = k} y z n m) r s (suc f) h =
      let b : length vs ≡ length ts + suc (length us) = ap length y ∙ length-append ts (comma ∷ us) in
      ap (λ x. followed (read_node f d x) (λ y. read_nodes f d y)) (ap (λ x. x ++ r) y ∙ append_assoc ts (comma ∷ us) r)
      ∙ ap (λ x. followed x (λ y. read_nodes f d y)) (node-complete n (comma ∷ (us ++ r)) at-comma f (omega arith))
      ∙ ap (joined t) (nodes-complete m r s f (omega arith)) ∙ ap (λ x. some (x, r)) (sym z)

-- ---- of a whole text
abbrev ReadingOk : List ℕ → Option Nodes → Type 0
ReadingOk s none = Unit {0}
ReadingOk s (some t) = IsNode 63 (symbols s) t

alone-ok : (s : List ℕ) (p : Read) → NodeOk 63 (symbols s) p → ReadingOk s (alone p)
alone-ok s none h = tt
alone-ok s (some p) h = go p.1 refl
  where
    go : (r : List Symbol) → p.1 ≡ r → ReadingOk s (elim r as (λ _. Option Nodes) [ [] ↦ some p.0 | x ∷ r' ↦ none ])
    go [] e = subst (λ x. IsNode 63 x p.0) (sym (h.1 ∙ ap (λ x. h.0 ++ x) e ∙ append-nil h.0)) h.2
    go (x ∷ r) e = tt

reading-ok : (s : List ℕ) → ReadingOk s (reading s)
unfolding reading
reading-ok s = alone-ok s (read_node (suc (2 * length s)) 63 (symbols s)) (node-sound (suc (2 * length s)) 63 (symbols s))

pub reading-sound : (s : List ℕ) (t : Nodes) → reading s ≡ some t → IsNode 63 (symbols s) t
reading-sound s t e = subst (ReadingOk s) e (reading-ok s)

pub reading-complete : (s : List ℕ) (t : Nodes) → IsNode 63 (symbols s) t → reading s ≡ some t
unfolding reading
reading-complete s t n =
    ap (λ x. alone (read_node (suc (2 * length s)) 63 x)) (sym (append-nil (symbols s)))
    ∙ ap alone (node-complete n [] at-end (suc (2 * length s)) (omega (arith, symbols-length [] s)))

-- ---- a text is at most one tree, and nothing is read exactly where there is none

some_same : (t u : Nodes) → some t ≡ some u → t ≡ u
some_same t u e = ap (λ o. elim o as (λ _. Nodes) [ none ↦ t | some x ↦ x ]) e

pub one-tree : (s : List ℕ) (t u : Nodes) → IsTree s t → IsTree s u → t ≡ u
one-tree s t u p q = some_same t u (sym (reading-complete s t p) ∙ reading-complete s u q)

none-some : {A : Type 0} (t : Nodes) → none ≡ some t → A
none-some {A} t e = absurd (subst (λ o. elim o as (λ _. Type 0) [ none ↦ Unit {0} | some x ↦ ⊥ ]) e tt)

pub no-tree : (s : List ℕ) → (reading s ≡ none) ↔ ((t : Nodes) → IsTree s t → ⊥)
no-tree s = (λ e t p. none-some t (sym e ∙ reading-complete s t p), λ f. go (reading s) refl f)
  where
    go : (o : Option Nodes) → reading s ≡ o → ((t : Nodes) → IsTree s t → ⊥) → reading s ≡ none
    go none e f = e
    go (some t) e f = absurd (f t (reading-sound s t e))

pub reading-symbols : (v w : List ℕ) → symbols v ≡ symbols w → reading v ≡ reading w
reading-symbols v w q = go (reading w) refl
  where
    go : (o : Option Nodes) → reading w ≡ o → reading v ≡ reading w
    go none e = (no-tree v).1 (λ t p. (no-tree w).0 e t (subst (λ x. IsNode 63 x t) q p)) ∙ sym e
    go (some t) e = reading-complete v t (subst (λ x. IsNode 63 x t) (sym q) (reading-sound w t e)) ∙ sym e

-- ---- nesting

pub nesting-beside : (t k : Nodes) → nesting (beside t k) ≡ max (nesting t) (nesting k)
unfolding nesting beside
nesting-beside nil k = omega arith
nesting-beside (leaf w e r) k = nesting-beside r k
nesting-beside (inner c e r) k = omega (arith, nesting-beside r k)

mutual
  unfolding nesting

  node-nesting : {d : ℕ} {ss : List Symbol} {t : Nodes} → IsNode d ss t → nesting t ≤ d
  node-nesting (is_leaf e) = omega arith
  node-nesting (is-inner z n c l e) = omega (arith, nodes-nesting n)

  nodes-nesting : {d : ℕ} {ss : List Symbol} {t : Nodes} → IsNodes d ss t → nesting t ≤ d
  nodes-nesting (is_one n) = node-nesting n
  nodes-nesting (is-more {d = d} {t = t} {k = k} y z n m) = subst (λ g. nesting g ≤ d) (sym z) (omega (arith, nesting-beside t k, node-nesting n, nodes-nesting m))
