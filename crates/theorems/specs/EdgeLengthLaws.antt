-- Laws of a tree's edges with their lengths, and of the lengths in it.
--
--   Edge, cluster      an edge with its length; the taxa on its far side
--   edges-clusters     the edges are those of the clusters, in their order
--   edges-beside, tokens-beside     the edges and the lengths of nodes, and of nodes behind them
--   tree-tokens        every length of a tree of the grammar is a length
use Rattle.std.specs.Prelude.{ℕ, ◌≡◌, true}
use Rattle.std.proofs.Math.Path.{refl, ap, ap₂, sym}
use Rattle.std.proofs.Common.{◌∙◌, subst, inl, ⊎_elim}
use mathlib.Core.List.{List, [], ◌∷◌, ◌++◌, map, map-append, append_assoc}
use Rattle.std.proofs.Math.Option.{Option, none, some}
use Rattle.trees.specs.Text.{Symbol}
use Rattle.trees.specs.Length.{is_length}
use Rattle.trees.specs.Tree.{Nodes, nil, leaf, inner, beside}
use Rattle.trees.specs.Grammar.{no_length, a-length, IsNode, is_leaf, is-inner, IsNodes, is_one, is-more, IsTree}
use Rattle.trees.specs.Splits.{taxon, taxa, clusters}
use Rattle.trees.specs.Lengths.{edges, tokens}
use Rattle.theorems.specs.ListLaws.{Mem, mem-cases}

-- ---- edges

abbrev pub Edge : Type 0
Edge = ℕ × Option (List ℕ)

abbrev pub cluster : Edge → ℕ
cluster e = e.0

module _ (ns : List (List ℕ)) where
  pub edges-clusters : (t : Nodes) → map cluster (edges ns t) ≡ clusters ns t
  unfolding edges clusters
  edges-clusters nil = refl
  edges-clusters (leaf w e r) = ap (λ (l : List ℕ). taxon ns w ∷ l) (edges-clusters r)
  edges-clusters (inner c e r) = map-append cluster (edges ns c) ((taxa ns c, e) ∷ edges ns r) ∙ ap₂ (λ (l k : List ℕ). l ++ (taxa ns c ∷ k)) (edges-clusters c) (edges-clusters r)

  pub edges-beside : (t k : Nodes) → edges ns (beside t k) ≡ edges ns t ++ edges ns k
  unfolding edges beside
  edges-beside nil k = refl
  edges-beside (leaf w e r) k = ap (λ (l : List Edge). (taxon ns w, e) ∷ l) (edges-beside r k)
  edges-beside (inner c e r) k =
      ap (λ (l : List Edge). edges ns c ++ ((taxa ns c, e) ∷ l)) (edges-beside r k) ∙ sym (append_assoc (edges ns c) ((taxa ns c, e) ∷ edges ns r) (edges ns k))

-- ---- lengths

pub tokens-beside : (t k : Nodes) → tokens (beside t k) ≡ tokens t ++ tokens k
unfolding tokens beside
tokens-beside nil k = refl
tokens-beside (leaf w none r) k = tokens-beside r k
tokens-beside (leaf w (some x) r) k = ap (λ (l : List (List ℕ)). x ∷ l) (tokens-beside r k)
tokens-beside (inner c none r) k = ap (λ (l : List (List ℕ)). tokens c ++ l) (tokens-beside r k) ∙ sym (append_assoc (tokens c) (tokens r) (tokens k))
tokens-beside (inner c (some x) r) k = ap (λ (l : List (List ℕ)). tokens c ++ (x ∷ l)) (tokens-beside r k) ∙ sym (append_assoc (tokens c) (x ∷ tokens r) (tokens k))

abbrev AreLengths : List (List ℕ) → Type 0
AreLengths l = (w : List ℕ) → Mem w l → is_length w ≡ true

lengths-append : (l k : List (List ℕ)) → AreLengths l → AreLengths k → AreLengths (l ++ k)
lengths-append l k p q w m = ⊎_elim (λ a. p w a) (λ a. q w a) (mem-cases w l k m)

lengths_none : AreLengths []
lengths_none w m = absurd m

lengths-one : (x : List ℕ) → is_length x ≡ true → AreLengths (x ∷ [])
lengths-one x h w (mathlib.Core.Logic.inr x'') = elim x'' [ ]
lengths-one x h w (inl e) = ap is_length e ∙ h

mutual
  unfolding tokens

  pub node-tokens : {d : ℕ} {ss : List Symbol} {t : Nodes} → IsNode d ss t → AreLengths (tokens t)
  node-tokens (is_leaf no_length) = lengths_none
  node-tokens (is_leaf (a-length {w = x} h)) = lengths-one x h
  node-tokens (is-inner {c = c} z n h l no_length) = lengths-append (tokens c) [] (nodes-tokens n) lengths_none
  node-tokens (is-inner {c = c} z n h l (a-length {w = x} q)) = lengths-append (tokens c) (x ∷ []) (nodes-tokens n) (lengths-one x q)

  nodes-tokens : {d : ℕ} {ss : List Symbol} {t : Nodes} → IsNodes d ss t → AreLengths (tokens t)
  nodes-tokens (is_one n) = node-tokens n
  nodes-tokens (is-more {t = t} {k = k} y z n m) = subst AreLengths (sym (ap tokens z ∙ tokens-beside t k)) (lengths-append (tokens t) (tokens k) (node-tokens n) (nodes-tokens m))

pub tree-tokens : (s : List ℕ) (t : Nodes) → IsTree s t → (w : List ℕ) → Mem w (tokens t) → is_length w ≡ true
tree-tokens s t i = node-tokens i
