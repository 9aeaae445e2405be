-- The labels of a text's leaves, and the taxa that they name.
--
--   taxa-append, leaves-taxa     the taxa of labels, then of others; of the leaves of nodes
--   labels_from, labels_next     the labels of more leaves begin with those of fewer
--   labels-sub                   the taxa of fewer leaves are among those of more
use Rattle.std.proofs.Common.{◌≡◌, ℕ, zero, suc, ◌+◌, ◌*◌, ◌<◌, ◌≤◌, Bool, true, false, leb, List, [], ◌∷◌, ◌++◌, get_or, sym, refl, ap, ◌∙◌, ap₂, ⊎_elim, append_assoc, append-nil, arith, leb-false, leb-true}
use lib.Bits.{bit_or, or_zero_l, or_zero_r}
use lib.Seq.{slice}
use Rattle.trees.specs.Tree.{Nodes, nil, leaf, inner, leaves}
use Rattle.trees.specs.Splits.{taxon, taxa}
use Rattle.theorems.specs.BitLaws.{Sub, ext, on?, or-on, on-or-l, on-or-r}
use Rattle.newick.specs.Running.{labels_at, label_taxa}

-- ---- the taxa of labels

or_assoc : (a b c : ℕ) → bit_or (bit_or a b) c ≡ bit_or a (bit_or b c)
or_assoc a b c = ext (bit_or (bit_or a b) c) (bit_or a (bit_or b c)) right left
  where
    right : Sub (bit_or (bit_or a b) c) (bit_or a (bit_or b c))
    right i h = ⊎_elim (λ n. on-or-r a (bit_or b c) i (⊎_elim (λ m. on-or-r b c i (or-on (bit_or a b) c i h (λ o. m (or-on a b i o n)))) (λ o. on-or-l b c i o) (on? b i))) (λ o. on-or-l a (bit_or b c) i o) (on? a i)

    left : Sub (bit_or a (bit_or b c)) (bit_or (bit_or a b) c)
    left i h = ⊎_elim (λ n. ⊎_elim (λ m. on-or-r (bit_or a b) c i (or-on b c i (or-on a (bit_or b c) i h n) m)) (λ o. on-or-l (bit_or a b) c i (on-or-r a b i o)) (on? b i)) (λ o. on-or-l (bit_or a b) c i (on-or-l a b i o)) (on? a i)

module _ (ns : List (List ℕ)) where
  pub taxa-append : (vs ws : List (List ℕ)) → label_taxa ns (vs ++ ws) ≡ bit_or (label_taxa ns vs) (label_taxa ns ws)
  unfolding label_taxa
  taxa-append [] ws = sym (or_zero_l (label_taxa ns ws))
  taxa-append (v ∷ vs) ws = ap (bit_or (taxon ns v)) (taxa-append vs ws) ∙ sym (or_assoc (taxon ns v) (label_taxa ns vs) (label_taxa ns ws))

  pub taxa-one : (w : List ℕ) → label_taxa ns (w ∷ []) ≡ taxon ns w
  unfolding label_taxa
  taxa-one w = or_zero_r (taxon ns w)

  pub leaves-taxa : (t : Nodes) → label_taxa ns (leaves t) ≡ taxa ns t
  unfolding label_taxa leaves taxa
  leaves-taxa nil = refl
  leaves-taxa (leaf w e r) = ap (bit_or (taxon ns w)) (leaves-taxa r)
  leaves-taxa (inner c e r) = taxa-append (leaves c) (leaves r) ∙ ap₂ bit_or (leaves-taxa c) (leaves-taxa r)

-- ---- fewer leaves and more

module _ (s l : List ℕ) where
  -- the label of leaf j
  abbrev pub label_at : ℕ → List ℕ
  label_at j = slice (get_or l (2 * j) 0) (get_or l (2 * j + 1) 0) s

  pub labels_from : (i j : ℕ) → i ≤ j → (ws : List (List ℕ)) × (labels_at s l j ≡ labels_at s l i ++ ws)
  unfolding labels_at
  labels_from i zero h = let e : i ≡ 0 = omega arith in ([], rw e refl)
  labels_from i (suc j) h = go (leb i j) refl (labels_from i j)
    where
      go : (b : Bool) → leb i j ≡ b → (i ≤ j → (ws : List (List ℕ)) × (labels_at s l j ≡ labels_at s l i ++ ws))
          → (ws : List (List ℕ)) × (labels_at s l j ++ (label_at j ∷ []) ≡ labels_at s l i ++ ws)
      go true e f =
          let r = f (leb-true i j e) in
          (r.0 ++ (label_at j ∷ []), ap (λ y. y ++ (label_at j ∷ [])) r.1 ∙ append_assoc (labels_at s l i) r.0 (label_at j ∷ []))
      go false e f =
          let q : i ≡ suc j = omega (arith, leb-false i j e) in
          ([], rw q (sym (append-nil (labels_at s l (suc j)))))

  pub labels_next : (j k : ℕ) → j < k → (ws : List (List ℕ)) × (labels_at s l k ≡ labels_at s l j ++ (label_at j ∷ ws))
  unfolding labels_at
  labels_next j k h =
      let r = labels_from (suc j) k h in
      (r.0, r.1 ∙ append_assoc (labels_at s l j) (label_at j ∷ []) r.0)

  pub labels-sub : (ns : List (List ℕ)) (i j : ℕ) → i ≤ j → Sub (label_taxa ns (labels_at s l i)) (label_taxa ns (labels_at s l j))
  labels-sub ns i j h n o =
      let r = labels_from i j h in
      rw (r.1, taxa-append ns (labels_at s l i) r.0) (on-or-l (label_taxa ns (labels_at s l i)) (label_taxa ns r.0) n o)
