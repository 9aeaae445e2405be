-- The spans of a tree's inner nodes: the taxa of the record where a span ends, without those of the record where it begins, are the
-- taxa below the node.
--
--   inner_nodes t        how many inner nodes t has
--   spans-length        each has one span
--   spans-few           and two children or more, so that there are fewer of them than leaves
--   spans-within        each begins no later than it ends, and ends no later than the leaves do
--   spans-inners        the masks of spans are those of the inner nodes
use Rattle.std.proofs.Common.{◌≡◌, ℕ, suc, ◌+◌, ◌*◌, ◌<◌, ◌≤◌, Bool, true, false, ltb, ◌⊎◌, List, [], ◌∷◌, ◌++◌, length, get_or, sym, refl, ap, ◌∙◌, subst, ap₂, inl, inr, append_assoc, append-nil, add-zero, zero-add, arith, length-append, get_or-append-add, ltb-false, ltb-true}
use lib.Bits.{bit_or, or_disjoint}
use Rattle.trees.specs.Mask.{without}
use Rattle.trees.specs.Text.{Symbol}
use Rattle.trees.specs.Tree.{Nodes, nil, leaf, inner, beside, width, leaves}
use Rattle.trees.specs.Grammar.{IsNode, is_leaf, is-inner, IsNodes, is_one, is-more}
use Rattle.trees.specs.Splits.{taxa}
use Rattle.theorems.specs.BitLaws.{Dis, Sub, on-or-l, dis-and, less-add}
use Rattle.theorems.specs.MaskLaws.{without_sub}
use Rattle.theorems.specs.FewLaws.{width-beside, leaves-beside}
use Rattle.records.specs.Records.{wide}
use Rattle.newick.specs.Shape.{spans}
use Rattle.newick.specs.Splits.{inners}
use Rattle.newick.specs.Running.{label_taxa, span_masks}
use Rattle.newick.proofs.LabelLaws.{taxa-append, leaves-taxa}

-- ---- how many they are

unfoldable pub inner_nodes : Nodes → ℕ
inner_nodes nil = 0
inner_nodes (leaf w e r) = inner_nodes r
inner_nodes (inner c e r) = inner_nodes c + suc (inner_nodes r)

pub spans-length : (i : ℕ) (t : Nodes) → length (spans i t) ≡ 2 * inner_nodes t
unfolding spans inner_nodes
spans-length i nil = refl
spans-length i (leaf w e r) = spans-length (i + 1) r
spans-length i (inner c e r) =
    omega
    (arith, length-append (spans i c) (i ∷ (i + length (leaves c)) ∷ spans (i + length (leaves c)) r), spans-length i c, spans-length (i + length (leaves c)) r)

inners-beside : (t k : Nodes) → inner_nodes (beside t k) ≡ inner_nodes t + inner_nodes k
unfolding inner_nodes beside
inners-beside nil k = omega arith
inners-beside (leaf w e r) k = inners-beside r k
inners-beside (inner c e r) k = omega (arith, inners-beside r k)

abbrev Few : Nodes → Type 0
Few t = inner_nodes t + width t ≤ length (leaves t)

mutual
  unfolding inner_nodes width leaves

  pub spans-few : {d : ℕ} {ss : List Symbol} {t : Nodes} → IsNode d ss t → Few t
  spans-few (is_leaf e) = omega arith
  spans-few (is-inner {c = c} z n h l e) = omega (arith, nodes-few n, length-append (leaves c) [])

  nodes-few : {d : ℕ} {ss : List Symbol} {t : Nodes} → IsNodes d ss t → Few t
  nodes-few (is_one n) = spans-few n
  nodes-few (is-more {t = t} {k = k} y z n m) =
      subst Few (sym z)
      (omega
      (arith, inners-beside t k, width-beside t k, ap length (leaves-beside t k), length-append (leaves t) (leaves k), spans-few n, nodes-few m))

-- ---- where they lie in a list

module _ (l : List ℕ) where
  -- span j begins no later than it ends, and ends no later than k
  abbrev pub Lies : ℕ → ℕ → Type 0
  Lies k j = (get_or l (2 * j) 0 ≤ get_or l (2 * j + 1) 0) × (get_or l (2 * j + 1) 0 ≤ k)

  -- span p of the list is that from a up to b
  span-at : (xs ys : List ℕ) (p a b : ℕ) → l ≡ xs ++ (a ∷ b ∷ ys) → length xs ≡ 2 * p → (get_or l (2 * p) 0 ≡ a) × (get_or l (2 * p + 1) 0 ≡ b)
  span-at xs ys p a b e n = (
    ap (λ (k : ℕ). get_or l k 0) (omega (arith, n)) ∙ ap (λ z. get_or z (length xs + 0) 0) e ∙ get_or-append-add xs (a ∷ b ∷ ys) 0 0,
    ap (λ (k : ℕ). get_or l k 0) (omega (arith, n)) ∙ ap (λ z. get_or z (length xs + 1) 0) e ∙ get_or-append-add xs (a ∷ b ∷ ys) 1 0,
  )

  module _ (i : ℕ) (c r : Nodes) (xs ys : List ℕ) (p : ℕ) (n : length xs ≡ 2 * p) where
    abbrev end : ℕ
    end = i + length (leaves c)

    module _ (e : l ≡ xs ++ ((spans i c ++ (i ∷ end ∷ spans end r)) ++ ys)) where
      children-lie : l ≡ xs ++ (spans i c ++ (i ∷ end ∷ (spans end r ++ ys)))
      children-lie = e ∙ ap (λ z. xs ++ z) (append_assoc (spans i c) (i ∷ end ∷ spans end r) ys)

      parent-lies : l ≡ (xs ++ spans i c) ++ (i ∷ end ∷ (spans end r ++ ys))
      parent-lies = children-lie ∙ sym (append_assoc xs (spans i c) (i ∷ end ∷ (spans end r ++ ys)))

      rest-lies : l ≡ ((xs ++ spans i c) ++ (i ∷ end ∷ [])) ++ (spans end r ++ ys)
      rest-lies = parent-lies ∙ sym (append_assoc (xs ++ spans i c) (i ∷ end ∷ []) (spans end r ++ ys))

      parent_place : length (xs ++ spans i c) ≡ 2 * (p + inner_nodes c)
      parent_place = omega (arith, length-append xs (spans i c), spans-length i c, n)

      rest-place : length ((xs ++ spans i c) ++ (i ∷ end ∷ [])) ≡ 2 * suc (p + inner_nodes c)
      rest-place = omega (arith, length-append (xs ++ spans i c) (i ∷ end ∷ []), parent_place)

      parent-at : (get_or l (2 * (p + inner_nodes c)) 0 ≡ i) × (get_or l (2 * (p + inner_nodes c) + 1) 0 ≡ end)
      parent-at = span-at (xs ++ spans i c) (spans end r ++ ys) (p + inner_nodes c) i end parent-lies parent_place

compare : (a b : ℕ) → (a < b) ⊎ ((a ≡ b) ⊎ (b < a))
compare a b = go (ltb a b) (ltb b a) refl refl
  where
    go : (p q : Bool) → ltb a b ≡ p → ltb b a ≡ q → (a < b) ⊎ ((a ≡ b) ⊎ (b < a))
    go true q e f = inl (ltb-true a b e)
    go false true e f = inr (inr (ltb-true b a f))
    go false false e f = inr (inl (omega (arith, ltb-false a b e, ltb-false b a f)))

pub spans-within : (l : List ℕ) (i : ℕ) (t : Nodes) (xs ys : List ℕ) (p : ℕ) → length xs ≡ 2 * p → l ≡ xs ++ (spans i t ++ ys)
    → (j : ℕ) → p ≤ j → j < p + inner_nodes t → Lies l (i + length (leaves t)) j
unfolding spans inner_nodes leaves
spans-within l i nil xs ys p n e j a b = absurd (omega arith)
spans-within l i (leaf w x r) xs ys p n e j a b = let q = spans-within l (i + 1) r xs ys p n e j a b in (q.0, omega (arith, q.1))
spans-within l i (inner c x r) xs ys p n e j a b =
    go (spans-within l i c xs (i ∷ (i + length (leaves c)) ∷ (spans (i + length (leaves c)) r ++ ys)) p n (children-lie l i c r xs ys p n e) j a)
    (spans-within l (i + length (leaves c)) r ((xs ++ spans i c) ++ (i ∷ (i + length (leaves c)) ∷ [])) ys (suc (p + inner_nodes c)) (rest-place l i c r xs ys p n e) (rest-lies l i c r xs ys p n e) j)
    (compare j (p + inner_nodes c))
  where
    all : length (leaves c ++ leaves r) ≡ length (leaves c) + length (leaves r)
    all = length-append (leaves c) (leaves r)

    go : (j < p + inner_nodes c → Lies l (i + length (leaves c)) j)
        → (suc (p + inner_nodes c) ≤ j → j < suc (p + inner_nodes c) + inner_nodes r → Lies l (i + length (leaves c) + length (leaves r)) j)
        → (j < p + inner_nodes c) ⊎ ((j ≡ p + inner_nodes c) ⊎ (p + inner_nodes c < j))
        → Lies l (i + length (leaves c ++ leaves r)) j
    go f g (inl h) = let q = f h in (q.0, omega (arith, q.1, all))
    go f g (inr (inl h)) = let q = parent-at l i c r xs ys p n e in rw h (omega (arith, q.0, q.1), omega (arith, q.1, all))
    go f g (inr (inr h)) = let q = g h (omega arith) in (q.0, omega (arith, q.1, all))

-- ---- their masks

-- of each inner node, by the masks m of the first leaves
unfoldable span_taxa : (ℕ → ℕ) → ℕ → Nodes → List ℕ
unfolding without leaves
span_taxa m i nil = []
span_taxa m i (leaf w e r) = span_taxa m (i + 1) r
span_taxa m i (inner c e r) = span_taxa m i c ++ (without (m (i + length (leaves c))) (m i) ∷ span_taxa m (i + length (leaves c)) r)

module _ (u l : List ℕ) where
  abbrev mask : ℕ → ℕ
  mask j = get_or u (wide * j) 0

  masks-lie : (i : ℕ) (t : Nodes) (xs ys : List ℕ) (p : ℕ) → length xs ≡ 2 * p → l ≡ xs ++ (spans i t ++ ys)
      → span_masks u l (p + inner_nodes t) ≡ span_masks u l p ++ span_taxa mask i t
  unfolding spans inner_nodes span_taxa span_masks
  masks-lie i nil xs ys p n e = ap (span_masks u l) (add-zero p) ∙ sym (append-nil (span_masks u l p))
  masks-lie i (leaf w o r) xs ys p n e = masks-lie (i + 1) r xs ys p n e
  masks-lie i (inner c o r) xs ys p n e =
      let low = masks-lie i c xs (i ∷ (i + length (leaves c)) ∷ (spans (i + length (leaves c)) r ++ ys)) p n (children-lie l i c r xs ys p n e) in
      let high = masks-lie (i + length (leaves c)) r ((xs ++ spans i c) ++ (i ∷ (i + length (leaves c)) ∷ [])) ys (suc (p + inner_nodes c)) (rest-place l i c r xs ys p n e) (rest-lies l i c r xs ys p n e) in
      let at = parent-at l i c r xs ys p n e in
      let q : p + (inner_nodes c + suc (inner_nodes r)) ≡ suc (p + inner_nodes c) + inner_nodes r = omega arith in
      let x : ℕ = without (mask (i + length (leaves c))) (mask i) in
      let d : List ℕ = span_taxa mask (i + length (leaves c)) r in
      ap (span_masks u l) q
      ∙ high
      ∙ ap (λ z. z ++ d)
      (ap₂ (λ y (z : ℕ). y ++ (z ∷ [])) low (ap₂ (λ (a b : ℕ). without (mask a) (mask b)) at.1 at.0)
      ∙ append_assoc (span_masks u l p) (span_taxa mask i c) (x ∷ []))
      ∙ append_assoc (span_masks u l p) (span_taxa mask i c ++ (x ∷ [])) d
      ∙ ap (λ z. span_masks u l p ++ z) (append_assoc (span_taxa mask i c) (x ∷ []) d)

-- what joins two parts, without the one, is the other
without-join : (a b : ℕ) → Dis a b → without (bit_or a b) a ≡ b
without-join a b d =
    let s : Sub a (bit_or a b) = λ i h. on-or-l a b i h in
    without_sub (bit_or a b) a s ∙ omega (arith, less-add (bit_or a b) a s, or_disjoint a b (dis-and a b d))

module _ (ns ws : List (List ℕ)) (m : ℕ → ℕ)
    (masked : (xs ys : List (List ℕ)) → ws ≡ xs ++ ys → m (length xs) ≡ label_taxa ns xs)
    (apart : (xs ys zs : List (List ℕ)) → ws ≡ xs ++ (ys ++ zs) → Dis (label_taxa ns xs) (label_taxa ns ys)) where
  span-inners : (t : Nodes) (xs zs : List (List ℕ)) → ws ≡ xs ++ (leaves t ++ zs) → span_taxa m (length xs) t ≡ inners ns t
  unfolding span_taxa inners leaves
  span-inners nil xs zs e = refl
  span-inners (leaf w l r) xs zs e =
      ap (λ (n : ℕ). span_taxa m n r) (sym (length-append xs (w ∷ [])))
      ∙ span-inners r (xs ++ (w ∷ [])) zs (e ∙ sym (append_assoc xs (w ∷ []) (leaves r ++ zs)))
  span-inners (inner c l r) xs zs e =
      let f : ws ≡ xs ++ (leaves c ++ (leaves r ++ zs)) = e ∙ ap (λ z. xs ++ z) (append_assoc (leaves c) (leaves r) zs) in
      let g : ws ≡ (xs ++ leaves c) ++ (leaves r ++ zs) = f ∙ sym (append_assoc xs (leaves c) (leaves r ++ zs)) in
      let n : length (xs ++ leaves c) ≡ length xs + length (leaves c) = length-append xs (leaves c) in
      let here : without (m (length xs + length (leaves c))) (m (length xs)) ≡ taxa ns c =
      ap₂ without (ap m (sym n) ∙ masked (xs ++ leaves c) (leaves r ++ zs) g ∙ taxa-append ns xs (leaves c)) (masked xs (leaves c ++ (leaves r ++ zs)) f)
      ∙ without-join (label_taxa ns xs) (label_taxa ns (leaves c)) (apart xs (leaves c) (leaves r ++ zs) f)
      ∙ leaves-taxa ns c in
      ap₂ ◌++◌ (span-inners c xs (leaves r ++ zs) f) (ap₂ ◌∷◌ here (ap (λ (k : ℕ). span_taxa m k r) (sym n) ∙ span-inners r (xs ++ leaves c) zs g))

pub spans-inners : (ns : List (List ℕ)) (t : Nodes) (u l ys : List ℕ) → l ≡ spans 0 t ++ ys
    → ((xs zs : List (List ℕ)) → leaves t ≡ xs ++ zs → get_or u (wide * length xs) 0 ≡ label_taxa ns xs)
    → ((xs vs zs : List (List ℕ)) → leaves t ≡ xs ++ (vs ++ zs) → Dis (label_taxa ns xs) (label_taxa ns vs))
    → span_masks u l (inner_nodes t) ≡ inners ns t
unfolding span_masks
spans-inners ns t u l ys e f g =
    ap (span_masks u l) (sym (zero-add (inner_nodes t)))
    ∙ masks-lie u l 0 t [] ys 0 refl e
    ∙ span-inners ns (leaves t) (mask u l) f g t [] [] (sym (append-nil (leaves t)))
