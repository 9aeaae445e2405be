-- The masks of a tree's inner nodes give the tree's splits: what they lack are single leaves, and what they have besides is the root.
--
--   inners-clusters    the mask of an inner node is a cluster
--   clusters-inners    a cluster is the mask of an inner node, or that of one leaf
--   root-never         the root is no split
--   inners-splits      so the splits that count are those of the tree
use Rattle.std.proofs.Common.{◌≡◌, ℕ, ◌<◌, true, ◌⊎◌, List, [], ◌∷◌, ◌++◌, length, sym, refl, ap, ◌∙◌, subst, inl, inr, arith}
use mathlib.Core.Logic.{⊎_map}
use mathlib.Core.Option.{Option}
use lib.Bits.{or_zero_r}
use Rattle.trees.specs.Mask.{every_taxon, side, proper}
use Rattle.trees.specs.Text.{Symbol}
use Rattle.trees.specs.Tree.{Nodes, nil, leaf, inner, children}
use Rattle.trees.specs.Grammar.{IsNode, is_leaf, is-inner}
use Rattle.trees.specs.Splits.{taxon, taxa, clusters, counted, splits_of}
use Rattle.trees.specs.Opening.{Opening}
use Rattle.theorems.specs.ListLaws.{Mem, mem-left, mem-right, mem-cases}
use Rattle.theorems.specs.MaskLaws.{every-on, side-odd}
use Rattle.theorems.specs.RisingLaws.{rising-same}
use Rattle.theorems.specs.OpeningLaws.{GoodOpening}
use Rattle.theorems.specs.FewLaws.{nothing-never, leaf-never}
use Rattle.theorems.specs.SplitLaws.{counted-mem, mem-counted, counted-rising}
use Rattle.newick.specs.Splits.{inners}

-- ---- the masks of the inner nodes

module _ (ns : List (List ℕ)) where
  pub inners-clusters : (t : Nodes) (x : ℕ) → Mem x (inners ns t) → Mem x (clusters ns t)
  unfolding inners clusters
  inners-clusters nil x h = h
  inners-clusters (leaf w l r) x h = inr (inners-clusters r x h)
  inners-clusters (inner c l r) x h =
      go (mem-cases x (inners ns c) (taxa ns c ∷ inners ns r) h) (inners-clusters c x) (inners-clusters r x)
    where
      go : Mem x (inners ns c) ⊎ ((x ≡ taxa ns c) ⊎ Mem x (inners ns r)) → (Mem x (inners ns c) → Mem x (clusters ns c))
          → (Mem x (inners ns r) → Mem x (clusters ns r))
          → Mem x (clusters ns c ++ (taxa ns c ∷ clusters ns r))
      go (inl k) p q = mem-left x (clusters ns c) (taxa ns c ∷ clusters ns r) (p k)
      go (inr (inl e)) p q = mem-right x (clusters ns c) (taxa ns c ∷ clusters ns r) (inl e)
      go (inr (inr k)) p q = mem-right x (clusters ns c) (taxa ns c ∷ clusters ns r) (inr (q k))

  -- the mask of one leaf
  abbrev OfLeaf : ℕ → Type 0
  OfLeaf x = (w : List ℕ) × (x ≡ taxon ns w)

  clusters-inners : (t : Nodes) (x : ℕ) → Mem x (clusters ns t) → Mem x (inners ns t) ⊎ OfLeaf x
  unfolding inners clusters
  clusters-inners nil x h = inl h
  clusters-inners (leaf w l r) x (inl e) = inr (w, e)
  clusters-inners (leaf w l r) x (inr h) = clusters-inners r x h
  clusters-inners (inner c l r) x h =
      go (mem-cases x (clusters ns c) (taxa ns c ∷ clusters ns r) h) (clusters-inners c x) (clusters-inners r x)
    where
      go : Mem x (clusters ns c) ⊎ ((x ≡ taxa ns c) ⊎ Mem x (clusters ns r)) → (Mem x (clusters ns c) → Mem x (inners ns c) ⊎ OfLeaf x)
          → (Mem x (clusters ns r) → Mem x (inners ns r) ⊎ OfLeaf x)
          → Mem x (inners ns c ++ (taxa ns c ∷ inners ns r)) ⊎ OfLeaf x
      go (inl k) p q = ⊎_map (mem-left x (inners ns c) (taxa ns c ∷ inners ns r)) (λ y. y) (p k)
      go (inr (inl e)) p q = inl (mem-right x (inners ns c) (taxa ns c ∷ inners ns r) (inl e))
      go (inr (inr k)) p q = ⊎_map (λ y. mem-right x (inners ns c) (taxa ns c ∷ inners ns r) (inr y)) (λ y. y) (q k)

-- ---- what never counts

root-never : (n : ℕ) → 0 < n → proper n (side n (every_taxon n)) ≡ true → ⊥
root-never n h p = nothing-never n (every_taxon n) (side-odd n (every_taxon n) (every-on n 0 h) ∙ omega arith) p

-- ---- the splits

module _ (o : Opening) (g : GoodOpening o) (c : Nodes) (all : taxa o.names c ≡ every_taxon (length o.names)) where
  abbrev n : ℕ
  n = length o.names

  abbrev masks : List ℕ
  masks = inners o.names c ++ (taxa o.names c ∷ [])

  some-taxa : 0 < n
  some-taxa = omega (arith, g.named.count, g.ranges.least-taxa)

  right : (y : ℕ) → Mem y (counted n masks) → Mem y (counted n (clusters o.names c))
  right y h = let r = counted-mem n masks y h in subst (λ (x : ℕ). Mem x (counted n (clusters o.names c))) (sym r.2)
      (mem-counted n (clusters o.names c) r.0 (go r.0 (mem-cases r.0 (inners o.names c) (taxa o.names c ∷ []) r.1) (ap (proper n) (sym r.2) ∙ r.3)) (ap (proper n) (sym r.2) ∙ r.3))
    where
      go : (x : ℕ) → Mem x (inners o.names c) ⊎ ((x ≡ taxa o.names c) ⊎ ⊥) → proper n (side n x) ≡ true → Mem x (clusters o.names c)
      go x (inl k) p = inners-clusters o.names c x k
      go x (inr (inl e)) p = absurd (root-never n some-taxa (ap (λ (z : ℕ). proper n (side n z)) (sym (e ∙ all)) ∙ p))
      go x (inr (inr k)) p = absurd k

  left : (y : ℕ) → Mem y (counted n (clusters o.names c)) → Mem y (counted n masks)
  left y h = let r = counted-mem n (clusters o.names c) y h in subst (λ (x : ℕ). Mem x (counted n masks)) (sym r.2)
      (mem-counted n masks r.0 (go r.0 (clusters-inners o.names c r.0 r.1) (ap (proper n) (sym r.2) ∙ r.3)) (ap (proper n) (sym r.2) ∙ r.3))
    where
      go : (x : ℕ) → Mem x (inners o.names c) ⊎ OfLeaf o.names x → proper n (side n x) ≡ true → Mem x masks
      go x (inl k) p = mem-left x (inners o.names c) (taxa o.names c ∷ []) k
      go x (inr q) p = absurd (leaf-never o.names q.0 (ap (λ (z : ℕ). proper n (side n z)) (sym q.1) ∙ p))

  inner-splits : (e : Option (List ℕ)) → counted n (inners o.names (inner c e nil)) ≡ splits_of o.names (inner c e nil)
  unfolding splits_of children inners
  inner-splits e =
      rising-same (counted n masks) (counted n (clusters o.names c)) (counted-rising n masks) (counted-rising n (clusters o.names c)) right left

pub inners-splits : (o : Opening) → GoodOpening o → {d : ℕ} {ss : List Symbol} {t : Nodes} → IsNode d ss t → taxa o.names t ≡ every_taxon (length o.names)
    → counted (length o.names) (inners o.names t) ≡ splits_of o.names t
unfolding splits_of children clusters inners counted taxa
inners-splits o g (is_leaf e) all = refl
inners-splits o g (is-inner {c = c} {x = x} z n h l e) all = inner-splits o g c (sym (or_zero_r (taxa o.names c)) ∙ all) x
