-- No more than two edges of a tree give one split: its nodes have different taxa, so one edge has the split's own taxa below it and one
-- the other taxa.
--
--   Once l         no number comes twice in l
--   Sturdy ns t    the leaves of t are different taxa, and each inner node has two children or more
--   sturdy-tree    so it is with a tree of the grammar, if its leaves have no fault
--   inners-once    then its inner nodes have different taxa
--   sides-twice    and no more than two of them one side
use Rattle.std.proofs.Common.{◌≡◌, ℕ, ◌+◌, ◌-◌, ◌^◌, ◌<◌, ◌≤◌, Bool, true, eqb, ◌⊎◌, List, [], ◌∷◌, ◌++◌, length, sym, refl, ◌∙◌, subst, inl, inr, ⊎_elim, arith, eqb-true}
use lib.Bits.{bit_or}
use Rattle.trees.specs.Plain.{keep}
use Rattle.trees.specs.Mask.{every_taxon, side}
use Rattle.trees.specs.Text.{Symbol}
use Rattle.trees.specs.Tree.{Nodes, nil, leaf, inner, beside, width, leaves}
use Rattle.trees.specs.Grammar.{IsNode, is_leaf, is-inner, IsNodes, is_one, is-more}
use Rattle.trees.specs.Splits.{taxon, taxa, clusters}
use Rattle.trees.specs.Verdict.{leaf_fault}
use Rattle.theorems.specs.ListLaws.{by-test, Mem, mem-left, mem-right, mem-cases}
use Rattle.theorems.specs.BitLaws.{On, on?, Sub, Dis, on-or-l, on-or-r, self-on, sub-le}
use Rattle.theorems.specs.MaskLaws.{below_sub, side-even, side-odd}
use Rattle.theorems.specs.SplitLaws.{Distinct, taxon-named, cluster-sub}
use Rattle.theorems.specs.VerdictLaws.{leaf-fine, tree-distinct}
use Rattle.newick.specs.Splits.{inners}
use Rattle.newick.proofs.ClusterLaws.{inners-clusters}

-- ---- lists in which nothing comes twice

abbrev pub Once : List ℕ → Type 0
Once [] = Unit {0}
Once (x ∷ l) = (Mem x l → ⊥) × Once l

once-append : (a b : List ℕ) → Once a → Once b → ((x : ℕ) → Mem x a → Mem x b → ⊥) → Once (a ++ b)
once-append [] b p q f = q
once-append (x ∷ a) b p q f = (λ m. ⊎_elim (λ k. p.0 k) (λ k. f x (inl refl) k) (mem-cases x a b m), once-append a b p.1 q (λ y m k. f y (inr m) k))

module _ (p : ℕ → Bool) where
  kept-none : (l : List ℕ) → ((y : ℕ) → Mem y l → p y ≡ true → ⊥) → length (keep p l) ≤ 0
  unfolding keep
  kept-none [] f = omega arith
  kept-none (x ∷ l) f = by-test (λ (k : List ℕ). length k ≤ 0) (p x) (λ e. absurd (f x (inl refl) e)) (λ e. kept-none l (λ y m. f y (inr m)))

  -- all that pass the test are a
  kept-one : (a : ℕ) (l : List ℕ) → Once l → ((y : ℕ) → Mem y l → p y ≡ true → y ≡ a) → length (keep p l) ≤ 1
  unfolding keep
  kept-one a [] o f = omega arith
  kept-one a (x ∷ l) o f =
      by-test (λ (k : List ℕ). length k ≤ 1) (p x)
      (λ e. let z = kept-none l (λ y m q. o.0 (subst (λ (w : ℕ). Mem w l) (f y (inr m) q ∙ sym (f x (inl refl) e)) m)) in omega arith)
      (λ e. kept-one a l o.1 (λ y m. f y (inr m)))

  -- all that pass the test are a or b
  kept-two : (a b : ℕ) (l : List ℕ) → Once l → ((y : ℕ) → Mem y l → p y ≡ true → (y ≡ a) ⊎ (y ≡ b)) → length (keep p l) ≤ 2
  unfolding keep
  kept-two a b [] o f = omega arith
  kept-two a b (x ∷ l) o f =
      by-test (λ (k : List ℕ). length k ≤ 2) (p x)
      (λ e. let z = go (f x (inl refl) e) in omega arith)
      (λ e. kept-two a b l o.1 (λ y m. f y (inr m)))
    where
      other : (c : ℕ) (y : ℕ) → x ≡ c → Mem y l → y ≡ c → ⊥
      other c y e m q = o.0 (subst (λ (w : ℕ). Mem w l) (q ∙ sym e) m)

      go : (x ≡ a) ⊎ (x ≡ b) → length (keep p l) ≤ 1
      go (inl e) = kept-one b l o.1 (λ y m q. ⊎_elim (λ r. absurd (other a y e m r)) (λ r. r) (f y (inr m) q))
      go (inr e) = kept-one a l o.1 (λ y m q. ⊎_elim (λ r. r) (λ r. absurd (other b y e m r)) (f y (inr m) q))

-- ---- trees

-- at least one taxon
abbrev Some : ℕ → Type 0
Some m = (i : ℕ) × On m i

module _ (ns : List (List ℕ)) where
  abbrev pub Sturdy : Nodes → Type 0
  Sturdy nil = Unit {0}
  Sturdy (leaf w e r) = Some (taxon ns w) × Dis (taxon ns w) (taxa ns r) × Sturdy r
  Sturdy (inner c e r) = (2 ≤ width c) × Dis (taxa ns c) (taxa ns r) × Sturdy c × Sturdy r

  -- two children or more
  abbrev Branching : Nodes → Type 0
  Branching nil = Unit {0}
  Branching (leaf w e r) = Branching r
  Branching (inner c e r) = (2 ≤ width c) × Branching c × Branching r

  branching-beside : (t k : Nodes) → Branching t → Branching k → Branching (beside t k)
  unfolding beside
  branching-beside nil k p q = q
  branching-beside (leaf w e r) k p q = branching-beside r k p q
  branching-beside (inner c e r) k p q = (p.0, p.1, branching-beside r k p.2 q)

  mutual
    node-branching : {d : ℕ} {ss : List Symbol} {t : Nodes} → IsNode d ss t → Branching t
    node-branching (is_leaf e) = tt
    node-branching (is-inner z n h l e) = (h, nodes-branching n, tt)

    nodes-branching : {d : ℕ} {ss : List Symbol} {t : Nodes} → IsNodes d ss t → Branching t
    nodes-branching (is_one n) = node-branching n
    nodes-branching (is-more {t = t} {k = k} y z n m) = subst Branching (sym z) (branching-beside t k (node-branching n) (nodes-branching m))

  -- leaves without a fault name taxa
  named : (seen : ℕ) (ws : List (List ℕ)) → leaf_fault ns seen ws ≡ 0 → (w : List ℕ) → Mem w ws → Some (taxon ns w)
  named seen [] z w m = elim m [ ]
  named seen (v ∷ ws) z w m =
      let p = leaf-fine ns seen v ws z in
      ⊎_elim (λ e. (p.0, subst (λ (u : List ℕ). On (taxon ns u) p.0) (sym e) (subst (λ (x : ℕ). On x p.0) (sym (taxon-named ns v p.0 p.1)) (self-on p.0))))
      (λ k. named (seen + 2 ^ p.0) ws p.3 w k) m

  sturdy : (t : Nodes) → Branching t → Distinct ns t → ((w : List ℕ) → Mem w (leaves t) → Some (taxon ns w)) → Sturdy t
  unfolding leaves
  sturdy nil b d f = tt
  sturdy (leaf w e r) b d f = (f w (inl refl), d.0, sturdy r b d.1 (λ v m. f v (inr m)))
  sturdy (inner c e r) b d f = (b.0, d.0, sturdy c b.1 d.1 (λ v m. f v (mem-left v (leaves c) (leaves r) m)), sturdy r b.2 d.2 (λ v m. f v (mem-right v (leaves c) (leaves r) m)))

  pub sturdy-tree : {d : ℕ} {ss : List Symbol} {t : Nodes} → IsNode d ss t → leaf_fault ns 0 (leaves t) ≡ 0 → Sturdy t
  sturdy-tree {t = t} n z = sturdy t (node-branching n) (tree-distinct ns t z) (named 0 (leaves t) z)

  -- ---- every node has taxa, and more than each below it

  some-taxa : (t : Nodes) → Sturdy t → 1 ≤ width t → Some (taxa ns t)
  unfolding taxa width
  some-taxa nil p h = absurd (omega arith)
  some-taxa (leaf w e r) p h = (p.0.0, on-or-l (taxon ns w) (taxa ns r) p.0.0 p.0.1)
  some-taxa (inner c e r) p h = let a = some-taxa c p.2 (omega (arith, p.0)) in (a.0, on-or-l (taxa ns c) (taxa ns r) a.0 a.1)

  some-cluster : (t : Nodes) → Sturdy t → (x : ℕ) → Mem x (clusters ns t) → Some x
  unfolding clusters
  some-cluster nil p x m = elim m [ ]
  some-cluster (leaf w e r) p x (inl q) = subst Some (sym q) p.0
  some-cluster (leaf w e r) p x (inr m) = some-cluster r p.2 x m
  some-cluster (inner c e r) p x m = go (mem-cases x (clusters ns c) (taxa ns c ∷ clusters ns r) m) (some-cluster c p.2 x) (some-cluster r p.3 x)
    where
      go : Mem x (clusters ns c) ⊎ ((x ≡ taxa ns c) ⊎ Mem x (clusters ns r)) → (Mem x (clusters ns c) → Some x) → (Mem x (clusters ns r) → Some x) → Some x
      go (inl k) f g = f k
      go (inr (inl q)) f g = subst Some (sym q) (some-taxa c p.2 (omega (arith, p.0)))
      go (inr (inr k)) f g = g k

  -- x lies within one of two parts, and not both
  not-both : (a b x : ℕ) → Some a → Some b → Dis a b → Sub x a ⊎ Sub x b → Sub (bit_or a b) x → ⊥
  not-both a b x p q d (inl s) f = d q.0 (s q.0 (f q.0 (on-or-r a b q.0 q.1))) q.1
  not-both a b x p q d (inr s) f = d p.0 p.1 (s p.0 (f p.0 (on-or-l a b p.0 p.1)))

  same-sub : {x y : ℕ} → x ≡ y → Sub x y
  same-sub e i h = subst (λ (z : ℕ). On z i) e h

  -- no node of two or more side by side has all their taxa
  smaller : (c : Nodes) → Sturdy c → 2 ≤ width c → (x : ℕ) → Mem x (clusters ns c) → x ≡ taxa ns c → ⊥
  unfolding clusters taxa width
  smaller nil p h x m e = omega arith
  smaller (leaf w l r) p h x m e =
      not-both (taxon ns w) (taxa ns r) x p.0 (some-taxa r p.2 (omega arith)) p.1
      (⊎_elim (λ q. inl (same-sub q)) (λ k. inr (cluster-sub ns r x k)) m) (same-sub (sym e))
  smaller (inner c l r) p h x m e =
      not-both (taxa ns c) (taxa ns r) x (some-taxa c p.2 (omega (arith, p.0))) (some-taxa r p.3 (omega arith)) p.1
      (go (mem-cases x (clusters ns c) (taxa ns c ∷ clusters ns r) m)) (same-sub (sym e))
    where
      go : Mem x (clusters ns c) ⊎ ((x ≡ taxa ns c) ⊎ Mem x (clusters ns r)) → Sub x (taxa ns c) ⊎ Sub x (taxa ns r)
      go (inl k) = inl (cluster-sub ns c x k)
      go (inr (inl q)) = inl (same-sub q)
      go (inr (inr k)) = inr (cluster-sub ns r x k)

  pub inners-once : (t : Nodes) → Sturdy t → Once (inners ns t)
  unfolding inners
  inners-once nil p = tt
  inners-once (leaf w e r) p = inners-once r p.2
  inners-once (inner c e r) p =
      once-append (inners ns c) (taxa ns c ∷ inners ns r) (inners-once c p.2)
      ((λ m. apart (taxa ns c) (λ i h. h) (cluster-sub ns r (taxa ns c) (inners-clusters ns r (taxa ns c) m)) (some-taxa c p.2 (omega (arith, p.0)))), inners-once r p.3)
      (λ x m k. go x (inners-clusters ns c x m) k)
    where
      apart : (x : ℕ) → Sub x (taxa ns c) → Sub x (taxa ns r) → Some x → ⊥
      apart x f g s = p.1 s.0 (f s.0 s.1) (g s.0 s.1)

      go : (x : ℕ) → Mem x (clusters ns c) → (x ≡ taxa ns c) ⊎ Mem x (inners ns r) → ⊥
      go x m (inl q) = smaller c p.2 p.0 x m q
      go x m (inr k) = apart x (cluster-sub ns c x m) (cluster-sub ns r x (inners-clusters ns r x k)) (some-cluster c p.2 x m)

-- ---- one side

side-of : (n m y : ℕ) → y < 2 ^ n → eqb (side n y) m ≡ true → (y ≡ m) ⊎ (y ≡ every_taxon n - m)
side-of n m y h e = go (on? y 0)
  where
    go : (On y 0 → ⊥) ⊎ On y 0 → (y ≡ m) ⊎ (y ≡ every_taxon n - m)
    go (inl f) = inl (sym (side-even n y f) ∙ eqb-true (side n y) m e)
    go (inr o) = inr (omega (arith, side-odd n y o, eqb-true (side n y) m e, sub-le y (every_taxon n) (below_sub n y h)))

pub sides-twice : (n m : ℕ) (l : List ℕ) → Once l → ((y : ℕ) → Mem y l → y < 2 ^ n) → length (keep (λ y. eqb (side n y) m) l) ≤ 2
sides-twice n m l o f = kept-two (λ y. eqb (side n y) m) m (every_taxon n - m) l o (λ y k e. side-of n m y (f y k) e)
