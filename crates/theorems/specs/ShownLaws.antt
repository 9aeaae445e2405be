-- What is shown of a tree reads back as that tree.
--
--   Readable d t         the leaves of t are labels, its inner nodes have two children or more, no node has a length, at most d brackets are open at once
--   symbols_of t          the symbols of t, as a tree
--   shown-symbols        what is shown of t has the symbols of t
--   shown-reading        what is shown of a tree reads back as it
--   shown-made           what holds of nothing, of brackets, commas and labels, and of two runs together, holds of what is shown
--   shown-closed         quotes are closed behind what is shown
--   NotShown x           the byte x is no label byte, no apostrophe, no bracket and no comma
--   shown-hides          such a byte stands in what is shown only in quotes
--   shown-unended        so no text ends in what is shown
--   shown-no-comment     and no comment begins in it
use Rattle.std.specs.Prelude.{ℕ, suc, ◌≤◌, ◌<◌, ◌≡◌, refl, Bool, true, ◌||◌, List, [], ◌∷◌, ◌++◌, eqb}
use Rattle.std.proofs.Common.{arith, sym, ◌∙◌, subst, inl, inr, append_assoc, append-nil}
use Rattle.std.proofs.Math.Path.{ap}
use Rattle.std.proofs.Math.Bool.{false}
use Rattle.std.proofs.Math.Option.{none, some}
use Rattle.trees.specs.Plain.{byte}
use Rattle.trees.specs.Text.{Symbol, mark, kind, kind_in, open_bracket, close_bracket, comma, token, symbols, symbols_after, ended, is_label_byte, is_label, apostrophe, turned, open_after, has_end}
use Rattle.trees.specs.Tree.{Nodes, nil, leaf, inner, beside, width}
use Rattle.trees.specs.Grammar.{IsNode, IsNodes, is_leaf, is-inner, is_one, is-more, no_length, no_label}
use Rattle.trees.specs.Reading.{reading}
use Rattle.trees.specs.Written.{shown, parted}
use Rattle.theorems.specs.ListLaws.{Mem}
use Rattle.theorems.specs.TextLaws.{by_kind, symbols-cons}
use Rattle.theorems.specs.GrammarLaws.{reading-complete}
use Rattle.theorems.specs.QuoteLaws.{open-append}
use Rattle.theorems.specs.LabelLaws.{outside, outside-append, end-outside, label-closed, label-hides, Ends, ends-nil, ends-mark, label-run}

-- ---- trees that can be read back

pub data Readable : ℕ → Nodes → Type 0 where
  readable-nil : {d : ℕ} → Readable d nil
  readable-leaf : {d : ℕ} {w : List ℕ} {r : Nodes} → is_label w ≡ true → Readable d r → Readable d (leaf w none r)
  readable-inner : {d : ℕ} {c r : Nodes} → 2 ≤ width c → Readable d c → Readable (suc d) r → Readable (suc d) (inner c none r)

-- ---- the symbols of a tree

parted_symbols : Nodes → List Symbol → List Symbol
parted_symbols nil ss = ss
parted_symbols (leaf w e r) ss = comma ∷ ss
parted_symbols (inner c e r) ss = comma ∷ ss

symbols_of : Nodes → List Symbol
unfolding parted_symbols
symbols_of nil = []
symbols_of (leaf w e r) = token w ∷ parted_symbols r (symbols_of r)
symbols_of (inner c e r) = open_bracket ∷ (symbols_of c ++ (close_bracket ∷ parted_symbols r (symbols_of r)))

-- they are the nodes by the grammar
symbols-nodes : {d : ℕ} {t : Nodes} → Readable d t → 0 < width t → IsNodes d (symbols_of t) t
unfolding symbols_of parted_symbols width beside
symbols-nodes readable-nil h = absurd (omega arith)
symbols-nodes (readable-leaf l readable-nil) h = is_one (is_leaf no_length)
symbols-nodes (readable-leaf {w = w} l (readable-leaf {w = w'} {r = r} l' g)) h =
    is-more {ss = token w ∷ []} {t = leaf w none nil} refl refl (is_leaf no_length) (symbols-nodes (readable-leaf {w = w'} {r = r} l' g) (omega arith))
symbols-nodes (readable-leaf {w = w} l (readable-inner k g g')) h =
    is-more {ss = token w ∷ []} {t = leaf w none nil} refl refl (is_leaf no_length) (symbols-nodes (readable-inner k g g') (omega arith))
symbols-nodes (readable-inner {c = c} k g readable-nil) h = is_one (is-inner {ss = symbols_of c} {l = []} {e = []} refl (symbols-nodes g (omega arith)) k no_label no_length)
symbols-nodes (readable-inner {c = c} k g (readable-leaf {w = w} {r = r} l g')) h =
    is-more {ss = open_bracket ∷ (symbols_of c ++ (close_bracket ∷ []))} {t = inner c none nil}
    (ap (λ x. open_bracket ∷ x) (sym (append_assoc (symbols_of c) (close_bracket ∷ []) (comma ∷ symbols_of (leaf w none r))))) refl
    (is-inner {ss = symbols_of c} {l = []} {e = []} refl (symbols-nodes g (omega arith)) k no_label no_length) (symbols-nodes (readable-leaf {w = w} {r = r} l g') (omega arith))
symbols-nodes (readable-inner {c = c} k g (readable-inner {c = c'} {r = r} k' g' g'')) h =
    is-more {ss = open_bracket ∷ (symbols_of c ++ (close_bracket ∷ []))} {t = inner c none nil}
    (ap (λ x. open_bracket ∷ x) (sym (append_assoc (symbols_of c) (close_bracket ∷ []) (comma ∷ symbols_of (inner c' none r))))) refl
    (is-inner {ss = symbols_of c} {l = []} {e = []} refl (symbols-nodes g (omega arith)) k no_label no_length) (symbols-nodes (readable-inner k' g' g'') (omega arith))

-- a tree is one inner node
symbols-node : {d : ℕ} {c : Nodes} → Readable d (inner c none nil) → IsNode d (symbols_of (inner c none nil)) (inner c none nil)
unfolding symbols_of parted_symbols
symbols-node (readable-inner {c = c} k g g') = is-inner {ss = symbols_of c} {l = []} {e = []} refl (symbols-nodes g (omega arith)) k no_label no_length

-- ---- the symbols of what is shown

symbols-mark : (b : ℕ) (m : Symbol) (s : List ℕ) → kind b ≡ mark m → symbols (b ∷ s) ≡ m ∷ symbols s
unfolding by_kind kind_in open_after ended
symbols-mark b m s e = symbols-cons [] b s ∙ ap (λ k. by_kind k [] b s) e

comma-kind : kind 44 ≡ mark comma
unfolding kind
comma-kind = refl

open-kind : kind 40 ≡ mark open_bracket
unfolding kind
open-kind = refl

close-kind : kind 41 ≡ mark close_bracket
unfolding kind
close-kind = refl

parted-ends : (r : Nodes) (s : List ℕ) → Ends s → Ends (parted r (shown r) ++ s)
unfolding parted shown
parted-ends nil s h = h
parted-ends (leaf w e r) s h = ends-mark 44 (shown (leaf w e r) ++ s) comma comma-kind
parted-ends (inner c e r) s h = ends-mark 44 (shown (inner c e r) ++ s) comma comma-kind

parted-symbols : (r : Nodes) (s : List ℕ) → symbols (shown r ++ s) ≡ symbols_of r ++ symbols s → symbols (parted r (shown r) ++ s) ≡ parted_symbols r (symbols_of r) ++ symbols s
unfolding parted shown parted_symbols symbols_of
parted-symbols nil s h = h
parted-symbols (leaf w e r) s h = symbols-mark 44 comma (shown (leaf w e r) ++ s) comma-kind ∙ ap (λ x. comma ∷ x) h
parted-symbols (inner c e r) s h = symbols-mark 44 comma (shown (inner c e r) ++ s) comma-kind ∙ ap (λ x. comma ∷ x) h

shown-symbols : {d : ℕ} {t : Nodes} → Readable d t → (s : List ℕ) → Ends s → symbols (shown t ++ s) ≡ symbols_of t ++ symbols s
unfolding shown symbols_of Ends
shown-symbols readable-nil s h = refl
shown-symbols (readable-leaf {w = w} {r = r} l g) s h =
    ap symbols (append_assoc w (parted r (shown r)) s) ∙ label-run w (parted r (shown r) ++ s) l (parted-ends r s h)
    ∙ ap (λ x. token w ∷ x) (parted-symbols r s (shown-symbols g s h))
shown-symbols (readable-inner {c = c} {r = r} k g g') s h =
    symbols-mark 40 open_bracket ((shown c ++ (41 ∷ parted r (shown r))) ++ s) open-kind
    ∙ ap (λ x. open_bracket ∷ symbols x) (append_assoc (shown c) (41 ∷ parted r (shown r)) s)
    ∙ ap (λ x. open_bracket ∷ x)
    (shown-symbols g (41 ∷ (parted r (shown r) ++ s)) (ends-mark 41 (parted r (shown r) ++ s) close_bracket close-kind)
    ∙ ap (λ x. symbols_of c ++ x) (symbols-mark 41 close_bracket (parted r (shown r) ++ s) close-kind ∙ ap (λ x. close_bracket ∷ x) (parted-symbols r s (shown-symbols g' s h)))
    ∙ sym (append_assoc (symbols_of c) (close_bracket ∷ parted_symbols r (symbols_of r)) (symbols s)))

-- ---- what is shown reads back

pub shown-reading : (c : Nodes) → Readable 63 (inner c none nil) → reading (shown (inner c none nil)) ≡ some (inner c none nil)
unfolding symbols_after
shown-reading c g =
    reading-complete (shown (inner c none nil)) (inner c none nil)
    (subst (λ x. IsNode 63 x (inner c none nil)) (sym (ap symbols (sym (append-nil (shown (inner c none nil)))) ∙ shown-symbols g [] ends-nil ∙ append-nil (symbols_of (inner c none nil)))) (symbols-node g))

-- ---- what holds of what is shown

module _ (P : List ℕ → Type 0) (none : P []) (marks : (b : ℕ) → Mem b (40 ∷ 41 ∷ 44 ∷ []) → P (b ∷ []))
    (labels : (w : List ℕ) → is_label w ≡ true → P w) (joined : (s t : List ℕ) → P s → P t → P (s ++ t)) where
  parted-made : (r : Nodes) → P (shown r) → P (parted r (shown r))
  unfolding parted
  parted-made nil h = h
  parted-made (leaf w e r) h = joined (44 ∷ []) (shown (leaf w e r)) (marks 44 (inr (inr (inl refl)))) h
  parted-made (inner c e r) h = joined (44 ∷ []) (shown (inner c e r)) (marks 44 (inr (inr (inl refl)))) h

  pub shown-made : {d : ℕ} {t : Nodes} → Readable d t → P (shown t)
  unfolding shown
  shown-made readable-nil = none
  shown-made (readable-leaf {w = w} {r = r} l g) = joined w (parted r (shown r)) (labels w l) (parted-made r (shown-made g))
  shown-made (readable-inner {c = c} {r = r} k g g') =
      joined (40 ∷ []) (shown c ++ (41 ∷ parted r (shown r))) (marks 40 (inl refl))
      (joined (shown c) (41 ∷ parted r (shown r)) (shown-made g) (joined (41 ∷ []) (parted r (shown r)) (marks 41 (inr (inl refl))) (parted-made r (shown-made g'))))

-- ---- bytes that stand in quotes alone

pub record NotShown (x : ℕ) : Type 0 where
  pub no-label-byte : is_label_byte x ≡ false
  pub no-quote : eqb apostrophe x ≡ false
  pub no-open : eqb 40 x ≡ false
  pub no-close : eqb 41 x ≡ false
  pub no-comma : eqb 44 x ≡ false

marks-closed : (b : ℕ) → Mem b (40 ∷ 41 ∷ 44 ∷ []) → turned false b ≡ false
unfolding turned
marks-closed b (inr (inr (inr x3))) = elim x3 [ ]
marks-closed b (inl e) = ap (turned false) e
marks-closed b (inr (inl e)) = ap (turned false) e
marks-closed b (inr (inr (inl e))) = ap (turned false) e

-- quotes closed behind two runs
closed-joined : (s t : List ℕ) → open_after false s ≡ false → open_after false t ≡ false → open_after false (s ++ t) ≡ false
closed-joined s t h k = open-append false s t ∙ ap (λ (q : Bool). open_after q t) h ∙ k

pub shown-closed : {d : ℕ} {t : Nodes} → Readable d t → open_after false (shown t) ≡ false
unfolding open_after
shown-closed g = shown-made (λ s. open_after false s ≡ false) refl marks-closed label-closed closed-joined g

module _ (x : ℕ) (n : NotShown x) where
  -- quotes closed behind s, and no byte x outside them
  Hides : List ℕ → Type 0
  Hides s = (open_after false s ≡ false) × (outside x false s ≡ false)

  hides-joined : (s t : List ℕ) → Hides s → Hides t → Hides (s ++ t)
  unfolding Hides
  hides-joined s t h k = (
    closed-joined s t h.0 k.0,
    outside-append x false s t ∙ ap (λ (o : Bool). o || outside x (open_after false s) t) h.1 ∙ ap (λ (q : Bool). outside x q t) h.0 ∙ k.1,
  )

  other-mark : (b : ℕ) → Mem b (40 ∷ 41 ∷ 44 ∷ []) → eqb b x ≡ false
  other-mark b (inr (inr (inr x4))) = elim x4 [ ]
  other-mark b (inl e) = ap (λ (y : ℕ). eqb y x) e ∙ n.no-open
  other-mark b (inr (inl e)) = ap (λ (y : ℕ). eqb y x) e ∙ n.no-close
  other-mark b (inr (inr (inl e))) = ap (λ (y : ℕ). eqb y x) e ∙ n.no-comma

  hides-mark : (b : ℕ) → Mem b (40 ∷ 41 ∷ 44 ∷ []) → Hides (b ∷ [])
  unfolding Hides open_after outside
  hides-mark b m = (marks-closed b m, ap (λ (o : Bool). o || false) (other-mark b m))

  hides-label : (w : List ℕ) → is_label w ≡ true → Hides w
  unfolding Hides
  hides-label w e = (label-closed w e, label-hides x n.no-label-byte n.no-quote w e)

  pub shown-hides : {d : ℕ} {t : Nodes} → Readable d t → outside x false (shown t) ≡ false
  unfolding Hides open_after outside
  shown-hides g = (shown-made Hides (refl, refl) hides-mark hides-label hides-joined g).1

semicolon-not-shown : NotShown (byte ";")
unfolding is_label_byte
semicolon-not-shown = record { no-label-byte = refl; no-quote = refl; no-open = refl; no-close = refl; no-comma = refl }

bracket-not-shown : NotShown (byte "[")
unfolding is_label_byte
bracket-not-shown = record { no-label-byte = refl; no-quote = refl; no-open = refl; no-close = refl; no-comma = refl }

pub shown-unended : {d : ℕ} {t : Nodes} → Readable d t → has_end false (shown t) ≡ false
shown-unended {t = t} g = end-outside false (shown t) ∙ shown-hides (byte ";") semicolon-not-shown g

pub shown-no-comment : {d : ℕ} {t : Nodes} → Readable d t → outside (byte "[") false (shown t) ≡ false
shown-no-comment g = shown-hides (byte "[") bracket-not-shown g
