-- The lengths in the symbols of a tree are those of its nodes, children before their parents.
--
--   inner_lengths t     the lengths of the inner nodes of t, children before their parents
--   tree-fine          the symbols of a tree have no stray one, and behind each colon stands a length
--   tree-lengths       the lengths in them are the tree's
--   tree-noted         and those behind closing brackets are those of its inner nodes
use Rattle.std.proofs.Common.{◌≡◌, ℕ, zero, suc, ◌+◌, ◌-◌, true, false, List, [], ◌∷◌, ◌++◌, map, length, set, sym, refl, ap, ◌∙◌, subst, ap₂, append_assoc, append-nil, add-zero, arith, length-append}
use mathlib.Core.List.{map-append}
use mathlib.Core.Option.{Option, none, some}
use lib.ListN.{length-map}
use lib.Seq.{sets}
use Rattle.trees.specs.Text.{Symbol, open_bracket, close_bracket, comma, colon, stray, token, symbols}
use Rattle.trees.specs.Tree.{Nodes, nil, leaf, inner, beside}
use Rattle.trees.specs.Grammar.{MayHaveLength, no_length, a-length, MayHaveLabel, no_label, a-label, IsNode, is_leaf, is-inner, IsNodes, is_one, is-more, IsTree}
use Rattle.trees.specs.Value.{length_of}
use Rattle.trees.specs.Lengths.{tokens, value_of}
use Rattle.theorems.specs.EdgeLengthLaws.{tokens-beside}
use Rattle.doubles.specs.Stored.{all_ones}
use Rattle.newick.specs.Words.{word_of}
use Rattle.newick.specs.Noting.{Fine, lengths_in, noted}
use Rattle.newick.proofs.ShapeLaws.{sets-append}

-- ---- what follows a node: the end, a comma or a closing bracket

abbrev Stops : List Symbol → Type 0
Stops [] = Unit {0}
Stops (open_bracket ∷ r) = ⊥
Stops (close_bracket ∷ r) = Unit {0}
Stops (comma ∷ r) = Unit {0}
Stops (colon ∷ r) = ⊥
Stops (stray ∷ r) = ⊥
Stops (token w ∷ r) = ⊥

-- ---- no stray symbol, and lengths behind colons

length-fine : {e : List Symbol} {x : Option (List ℕ)} → MayHaveLength e x → (r : List Symbol) → Fine false r → Fine false (e ++ r)
unfolding Fine
length-fine no_length r f = f
length-fine (a-length h) r f = (h, f)

label-fine : {l : List Symbol} → MayHaveLabel l → (r : List Symbol) → Fine false r → Fine false (l ++ r)
unfolding Fine
label-fine no_label r f = f
label-fine a-label r f = f

-- the symbols of an inner node, and those behind it
inner-then : (ss l e r : List Symbol) → (ss ++ (close_bracket ∷ (l ++ e))) ++ r ≡ ss ++ (close_bracket ∷ (l ++ (e ++ r)))
inner-then ss l e r = append_assoc ss (close_bracket ∷ (l ++ e)) r ∙ ap (λ z. ss ++ (close_bracket ∷ z)) (append_assoc l e r)

mutual
  unfolding Fine

  node-fine : {d : ℕ} {ss : List Symbol} {t : Nodes} → IsNode d ss t → (r : List Symbol) → Fine false r → Fine false (ss ++ r)
  node-fine (is_leaf e) r f = length-fine e r f
  node-fine (is-inner {ss = ss} {l = l} {e = e} z n h a b) r f =
      subst (Fine false) (sym (ap (λ y. y ++ r) z ∙ inner-then ss l e r)) (nodes-fine n (close_bracket ∷ (l ++ (e ++ r))) (label-fine a (e ++ r) (length-fine b r f)))

  nodes-fine : {d : ℕ} {ss : List Symbol} {t : Nodes} → IsNodes d ss t → (r : List Symbol) → Fine false r → Fine false (ss ++ r)
  nodes-fine (is_one n) r f = node-fine n r f
  nodes-fine (is-more {ss = ss} {us = us} y z n m) r f =
      subst (Fine false) (sym (ap (λ v. v ++ r) y ∙ append_assoc ss (comma ∷ us) r)) (node-fine n (comma ∷ (us ++ r)) (nodes-fine m r f))

pub tree-fine : (s : List ℕ) (t : Nodes) → IsTree s t → Fine false (symbols s)
unfolding Fine
tree-fine s t i = subst (Fine false) (append-nil (symbols s)) (node-fine i [] tt)

-- ---- the lengths

abbrev Given : Option (List ℕ) → List (List ℕ)
Given none = []
Given (some x) = x ∷ []

length-in : {e : List Symbol} {x : Option (List ℕ)} → MayHaveLength e x → (r : List Symbol) → lengths_in false (e ++ r) ≡ Given x ++ lengths_in false r
unfolding lengths_in
length-in no_length r = refl
length-in (a-length h) r = refl

label-in : {l : List Symbol} → MayHaveLabel l → (r : List Symbol) → lengths_in false (l ++ r) ≡ lengths_in false r
unfolding lengths_in
label-in no_label r = refl
label-in a-label r = refl

leaf-tokens : (w : List ℕ) (x : Option (List ℕ)) → tokens (leaf w x nil) ≡ Given x
unfolding tokens
leaf-tokens w none = refl
leaf-tokens w (some x) = refl

inner-tokens : (c : Nodes) (x : Option (List ℕ)) → tokens (inner c x nil) ≡ tokens c ++ Given x
unfolding tokens
inner-tokens c none = refl
inner-tokens c (some x) = refl

mutual
  unfolding lengths_in

  node-lengths : {d : ℕ} {ss : List Symbol} {t : Nodes} → IsNode d ss t → (r : List Symbol) → lengths_in false (ss ++ r) ≡ tokens t ++ lengths_in false r
  node-lengths (is_leaf {w = w} {x = x} e) r = length-in e r ∙ ap (λ y. y ++ lengths_in false r) (sym (leaf-tokens w x))
  node-lengths (is-inner {ss = ss} {l = l} {e = e} {c = c} {x = x} z n h a b) r =
      ap (lengths_in false) (ap (λ y. y ++ r) z ∙ inner-then ss l e r)
      ∙ nodes-lengths n (close_bracket ∷ (l ++ (e ++ r)))
      ∙ ap (λ y. tokens c ++ y) (label-in a (e ++ r) ∙ length-in b r)
      ∙ sym (append_assoc (tokens c) (Given x) (lengths_in false r))
      ∙ ap (λ y. y ++ lengths_in false r) (sym (inner-tokens c x))

  nodes-lengths : {d : ℕ} {ss : List Symbol} {t : Nodes} → IsNodes d ss t → (r : List Symbol) → lengths_in false (ss ++ r) ≡ tokens t ++ lengths_in false r
  nodes-lengths (is_one n) r = node-lengths n r
  nodes-lengths (is-more {ss = ss} {us = us} {t = t} {k = k} y z n m) r =
      ap (lengths_in false) (ap (λ v. v ++ r) y ∙ append_assoc ss (comma ∷ us) r)
      ∙ node-lengths n (comma ∷ (us ++ r))
      ∙ ap (λ v. tokens t ++ v) (nodes-lengths m r)
      ∙ sym (append_assoc (tokens t) (tokens k) (lengths_in false r))
      ∙ ap (λ v. v ++ lengths_in false r) (sym (ap tokens z ∙ tokens-beside t k))

pub tree-lengths : (s : List ℕ) (t : Nodes) → IsTree s t → lengths_in false (symbols s) ≡ tokens t
unfolding lengths_in
tree-lengths s t i = ap (lengths_in false) (sym (append-nil (symbols s))) ∙ node-lengths i [] ∙ append-nil (tokens t)

-- ---- the lengths of inner nodes

unfoldable pub inner_lengths : Nodes → List (Option (List ℕ))
inner_lengths nil = []
inner_lengths (leaf w e r) = inner_lengths r
inner_lengths (inner c e r) = inner_lengths c ++ (e ∷ inner_lengths r)

inner-beside : (t k : Nodes) → inner_lengths (beside t k) ≡ inner_lengths t ++ inner_lengths k
unfolding inner_lengths beside
inner-beside nil k = refl
inner-beside (leaf w e r) k = inner-beside r k
inner-beside (inner c e r) k = ap (λ l. inner_lengths c ++ (e ∷ l)) (inner-beside r k) ∙ sym (append_assoc (inner_lengths c) (e ∷ inner_lengths r) (inner_lengths k))

-- as words
abbrev pub words_of : List (Option (List ℕ)) → List ℕ
words_of es = map (λ e. word_of (value_of e)) es

set_twice : (l : List ℕ) (n x y : ℕ) → set (set l n x) n y ≡ set l n y
set_twice [] n x y = refl
set_twice (a ∷ l) zero x y = refl
set_twice (a ∷ l) (suc n) x y = ap (λ z. a ∷ z) (set_twice l n x y)

-- behind a node it does not matter which it is
stops-noted : (r : List Symbol) → Stops r → (n : ℕ) (l : List ℕ) → noted true false n l r ≡ noted false false n l r
unfolding noted
stops-noted [] h n l = refl
stops-noted (open_bracket ∷ r) h n l = elim h [ ]
stops-noted (close_bracket ∷ r) h n l = refl
stops-noted (comma ∷ r) h n l = refl
stops-noted (colon ∷ r) h n l = elim h [ ]
stops-noted (stray ∷ r) h n l = elim h [ ]
stops-noted (token _ ∷ r) h n l = elim h [ ]

leaf-noted : {e : List Symbol} {x : Option (List ℕ)} → MayHaveLength e x → (r : List Symbol) (n : ℕ) (l : List ℕ) → noted false false n l (e ++ r) ≡ noted false false n l r
unfolding noted
leaf-noted no_length r n l = refl
leaf-noted (a-length h) r n l = refl

length-noted : {e : List Symbol} {x : Option (List ℕ)} → MayHaveLength e x → (r : List Symbol) → Stops r → (n : ℕ) (l : List ℕ)
    → noted true false (suc n) (set l n all_ones) (e ++ r) ≡ noted false false (suc n) (set l n (word_of (value_of x))) r
unfolding noted word_of
length-noted no_length r h n l = stops-noted r h (suc n) (set l n all_ones)
length-noted (a-length {w = w} q) r h n l =
    let x : ℕ = word_of (length_of w) in
    let e : suc n - 1 ≡ n = omega arith in
    ap (λ (k : ℕ). noted true false (suc n) (set (set l n all_ones) k x) r) e
    ∙ stops-noted r h (suc n) (set (set l n all_ones) n x)
    ∙ ap (λ k. noted false false (suc n) k r) (set_twice l n all_ones x)

label-noted : {a : List Symbol} → MayHaveLabel a → (r : List Symbol) (n : ℕ) (l : List ℕ) → noted true false n l (a ++ r) ≡ noted true false n l r
unfolding noted
label-noted no_label r n l = refl
label-noted a-label r n l = refl

-- the nodes t are noted from n on
abbrev Notes : List Symbol → Nodes → List Symbol → Type 0
Notes ss t r = (n : ℕ) (l : List ℕ) → noted false false n l (ss ++ r) ≡ noted false false (n + length (inner_lengths t)) (sets l n (words_of (inner_lengths t))) r

mutual
  unfolding noted inner_lengths

  node-noted : {d : ℕ} {ss : List Symbol} {t : Nodes} → IsNode d ss t → (r : List Symbol) → Stops r → Notes ss t r
  node-noted (is_leaf e) r h n l = leaf-noted e r n l ∙ ap (λ (k : ℕ). noted false false k l r) (sym (add-zero n))
  node-noted (is-inner {ss = ss} {l = a} {e = e} {c = c} {x = x} z m h p q) r g n l =
      let vs = inner_lengths c in
      let k : ℕ = n + length vs in
      let low : List ℕ = sets l n (words_of vs) in
      ap (noted false false n l) (ap (λ y. y ++ r) z ∙ inner-then ss a e r)
      ∙ nodes-noted m (close_bracket ∷ (a ++ (e ++ r))) tt n l
      ∙ label-noted p (e ++ r) (suc k) (set low k all_ones)
      ∙ length-noted q r g k low
      ∙ ap₂ (λ (i : ℕ) y. noted false false i y r) (omega (arith, length-append vs (x ∷ [])))
      (ap (λ (i : ℕ). sets low i (word_of (value_of x) ∷ [])) (ap (λ (j : ℕ). n + j) (sym (length-map vs _)))
      ∙ sym (sets-append (words_of vs) l n (word_of (value_of x) ∷ []))
      ∙ ap (sets l n) (sym (map-append (λ y. word_of (value_of y)) vs (x ∷ []))))

  nodes-noted : {d : ℕ} {ss : List Symbol} {t : Nodes} → IsNodes d ss t → (r : List Symbol) → Stops r → Notes ss t r
  nodes-noted (is_one m) r h n l = node-noted m r h n l
  nodes-noted (is-more {ss = ss} {us = us} {t = t} {k = k} y z p q) r h n l =
      let vs = inner_lengths t in
      let ws = inner_lengths k in
      let both : inner_lengths (beside t k) ≡ vs ++ ws = inner-beside t k in
      ap (noted false false n l) (ap (λ v. v ++ r) y ∙ append_assoc ss (comma ∷ us) r)
      ∙ node-noted p (comma ∷ (us ++ r)) tt n l
      ∙ nodes-noted q r h (n + length vs) (sets l n (words_of vs))
      ∙ ap₂ (λ (i : ℕ) v. noted false false i v r) (omega (arith, length-append vs ws))
      (ap (λ (i : ℕ). sets (sets l n (words_of vs)) i (words_of ws)) (ap (λ (j : ℕ). n + j) (sym (length-map vs _)))
      ∙ sym (sets-append (words_of vs) l n (words_of ws))
      ∙ ap (sets l n) (sym (map-append (λ y. word_of (value_of y)) vs ws)))
      ∙ ap (λ (es : List (Option (List ℕ))). noted false false (n + length es) (sets l n (words_of es)) r) (sym (ap inner_lengths z ∙ both))

pub tree-noted : (s : List ℕ) (t : Nodes) → IsTree s t → (l : List ℕ) → noted false false 0 l (symbols s) ≡ sets l 0 (words_of (inner_lengths t))
unfolding noted
tree-noted s t i l = ap (noted false false 0 l) (sym (append-nil (symbols s))) ∙ node-noted i [] tt 0 l
