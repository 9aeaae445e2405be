-- Trees are unrooted: any root, any order of children, and the splits are the same.
--
--   perm-faultless       leaves without a fault have none in any order
--   one_split            the two sides of an edge give one split
--   counted_same         clusters that give the same sides count the same
--   unrooted-leaves      trees that are one unrooted tree have the same leaves, but for their order
--   unrooted-faultless   so either has a fault of its leaves or neither
--   unrooted             and they have the same splits
--   any-root             every inner node of a tree can be its root
--   unrooted-accepts     so a collection that accepts a text of it accepts any other whose lengths are in range, with the same splits
use Rattle.std.specs.Prelude.{ℕ, zero, suc, ◌+◌, ◌-◌, ◌^◌, ◌≤◌, ◌<◌, ◌≡◌, ◌⊎◌, length}
use Rattle.std.proofs.Common.{arith, ◌∙◌, subst}
use Rattle.std.proofs.Math.Path.{refl, ap, ap₂, sym}
use Rattle.std.proofs.Math.Logic.{inl, inr, ⊎_elim}
use mathlib.Core.List.{List, [], ◌∷◌, ◌++◌, append-nil, append_assoc}
use Rattle.std.proofs.Math.Option.{Option}
use Rattle.std.specs.Int.Bits.{bit_or, or_disjoint, or_zero_r}
use Rattle.trees.specs.Mask.{every_taxon, side, proper}
use Rattle.trees.specs.Tree.{Nodes, nil, leaf, inner, beside, width, leaves, children}
use Rattle.trees.specs.Grammar.{IsTree}
use Rattle.trees.specs.Splits.{taxon, taxa, clusters, counted, splits_of}
use Rattle.trees.specs.Verdict.{leaf_fault, Branches}
use Rattle.trees.specs.Consensus.{recorded}
use Rattle.trees.specs.Held.{Held, most_text}
use Rattle.theorems.specs.ListLaws.{Mem, mem-cases, mem-left, mem-right}
use Rattle.theorems.specs.RisingLaws.{rising-same}
use Rattle.theorems.specs.BitLaws.{On, on?, Sub, ext, dis-and, on-or-l, on-or-r, or-on, only-on, self-on, sub-le}
use Rattle.theorems.specs.MaskLaws.{every-on, side-even, side-odd, others-on, on-others}
use Rattle.theorems.specs.SplitLaws.{counted-mem, mem-counted, counted-rising, taxa-sub}
use Rattle.theorems.specs.VerdictLaws.{leaf-fine, leaf-new, leaves-distinct}
use Rattle.theorems.specs.FewLaws.{none-missing, leaves-beside}
use Rattle.theorems.specs.FaultLaws.{fault-numbers-only, faultless-exactly}
use Rattle.theorems.specs.Refusing.{Fault, Inexact, kept_lengths, Accepts}
use Rattle.theorems.specs.EdgeLaws.{Hangs, a-leaf, a-node, below, behind-leaf, behind-node, taxa-at, at-taxa, hangs-cluster}
use Rattle.theorems.specs.PermLaws.{Perm, perm_same, perm-swap, perm-behind, perm-onward, perm-back, perm-equal, perm-mem, perm-groups, perm-front, perm-end}
use Rattle.theorems.specs.Unrooted.{Reordered, swapped, past-leaf, past-node, at-depth, ButLengths, no-nodes, same-leaf, same-node, SameUnrooted, reordered, lengthened, moved, dissolved, itself, back, onward}

-- ---- leaves in another order

-- two leaves that are fine one after the other are fine the other way round
swap-faultless : (ns : List (List ℕ)) (seen : ℕ) (v w : List ℕ) (ws : List (List ℕ)) → leaf_fault ns seen (v ∷ w ∷ ws) ≡ 0 → leaf_fault ns seen (w ∷ v ∷ ws) ≡ 0
swap-faultless ns seen v w ws z =
    let p = leaf-fine ns seen v (w ∷ ws) z in
    let q = leaf-fine ns (seen + 2 ^ p.0) w ws p.3 in
    let i = p.0 in
    let j = q.0 in
    let u : bit_or seen (2 ^ i) ≡ seen + 2 ^ i = with-taxon seen i p.2 in
    let g : On seen j → ⊥ = λ o. q.2 (subst (λ (x : ℕ). On x j) u (on-or-l seen (2 ^ i) j o)) in
    let d : i ≡ j → ⊥ = λ e. q.2 (subst (λ (x : ℕ). On x j) u (on-or-r seen (2 ^ i) j (subst (On (2 ^ i)) e (self-on i)))) in
    leaf-new ns seen w (v ∷ ws) j q.1 g
    ∙ leaf-new ns (seen + 2 ^ j) v ws i p.1 (λ o. d (sym (only-on j i (or-on seen (2 ^ j) i (subst (λ (x : ℕ). On x i) (sym (with-taxon seen j g)) o) p.2))))
    ∙ ap (λ (x : ℕ). leaf_fault ns x ws) (omega arith) ∙ q.3
  where
    with-taxon : (seen i : ℕ) → (On seen i → ⊥) → bit_or seen (2 ^ i) ≡ seen + 2 ^ i
    with-taxon seen i f = or_disjoint seen (2 ^ i) (dis-and seen (2 ^ i) (λ k a b. f (subst (On seen) (sym (only-on i k b)) a)))

pub perm-faultless : (ns : List (List ℕ)) {ws vs : List (List ℕ)} → Perm ws vs → (seen : ℕ) → leaf_fault ns seen ws ≡ 0 → leaf_fault ns seen vs ≡ 0
perm-faultless ns perm_same seen z = z
perm-faultless ns (perm-swap {x = v} {y = w} {l = ws}) seen z = swap-faultless ns seen v w ws z
perm-faultless ns (perm-behind {x = w} {l = ws} {k = vs} p) seen z =
    let q = leaf-fine ns seen w ws z in
    leaf-new ns seen w vs q.0 q.1 q.2 ∙ perm-faultless ns p (seen + 2 ^ q.0) q.3
perm-faultless ns (perm-onward p q) seen z = perm-faultless ns q seen (perm-faultless ns p seen z)

-- ---- the two sides of an edge give one split

pub one_split : (n x : ℕ) → 0 < n → Sub x (every_taxon n) → side n (every_taxon n - x) ≡ side n x
one_split n x p s = go (on? x 0)
  where
    go : (On x 0 → ⊥) ⊎ On x 0 → side n (every_taxon n - x) ≡ side n x
    go (inl f) = side-odd n (every_taxon n - x) (others-on (every_taxon n) x s 0 (every-on n 0 p) f) ∙ omega (arith, sub-le x (every_taxon n) s) ∙ sym (side-even n x f)
    go (inr o) = side-even n (every_taxon n - x) (λ h. (on-others (every_taxon n) x s 0 h).1 o) ∙ sym (side-odd n x o)

-- every cluster of cs has the side of one of ds
abbrev SidesIn : ℕ → List ℕ → List ℕ → Type 0
SidesIn n cs ds = (c : ℕ) → Mem c cs → (d : ℕ) × Mem d ds × (side n c ≡ side n d)

pub counted_same : (n : ℕ) (cs ds : List ℕ) → SidesIn n cs ds → SidesIn n ds cs → counted n cs ≡ counted n ds
counted_same n cs ds f g = rising-same (counted n cs) (counted n ds) (counted-rising n cs) (counted-rising n ds) (into cs ds f) (into ds cs g)
  where
    into : (us vs : List ℕ) → SidesIn n us vs → (y : ℕ) → Mem y (counted n us) → Mem y (counted n vs)
    into us vs k y h =
        let p = counted-mem n us y h in
        let q = k p.0 p.1 in
        let e : y ≡ side n q.0 = p.2 ∙ q.2 in
        subst (λ (z : ℕ). Mem z (counted n vs)) (sym e) (mem-counted n vs q.0 q.1 (ap (proper n) (sym e) ∙ p.3))

module _ (ns : List (List ℕ)) where
  clusters-beside : (t k : Nodes) → clusters ns (beside t k) ≡ clusters ns t ++ clusters ns k
  unfolding clusters beside
  clusters-beside nil k = refl
  clusters-beside (leaf w e r) k = ap (λ (l : List ℕ). taxon ns w ∷ l) (clusters-beside r k)
  clusters-beside (inner c e r) k =
      ap (λ (l : List ℕ). clusters ns c ++ (taxa ns c ∷ l)) (clusters-beside r k) ∙ sym (append_assoc (clusters ns c) (taxa ns c ∷ clusters ns r) (clusters ns k))

  -- ---- any order of children

  reordered-leaves : {t u : Nodes} → Reordered t u → Perm (leaves t) (leaves u)
  unfolding leaves
  reordered-leaves (swapped a b r) =
      perm-onward (perm-equal (leaves-beside a (beside b r) ∙ ap (λ l. leaves a ++ l) (leaves-beside b r)))
      (perm-onward (perm-groups (leaves a) (leaves b) (leaves r)) (perm-equal (sym (leaves-beside b (beside a r) ∙ ap (λ l. leaves b ++ l) (leaves-beside a r)))))
  reordered-leaves (past-leaf q) = perm-behind (reordered-leaves q)
  reordered-leaves (past-node {c} q) = perm-front (leaves c) (reordered-leaves q)
  reordered-leaves (at-depth {c} {d} {r} q) = perm-end (leaves r) (reordered-leaves q)

  -- nodes with the same leaves have the same taxa
  perm-taxa : (t u : Nodes) → Perm (leaves t) (leaves u) → taxa ns t ≡ taxa ns u
  perm-taxa t u p = ext (taxa ns t) (taxa ns u) (into t u p) (into u t (perm-back p))
    where
      into : (t u : Nodes) → Perm (leaves t) (leaves u) → Sub (taxa ns t) (taxa ns u)
      into t u p i h = let a = taxa-at ns t i h in at-taxa ns u i a.0 (perm-mem p a.0 a.1) a.2

  -- three groups of clusters
  groups : (a b r : Nodes) → clusters ns (beside a (beside b r)) ≡ clusters ns a ++ (clusters ns b ++ clusters ns r)
  groups a b r = clusters-beside a (beside b r) ∙ ap (λ (l : List ℕ). clusters ns a ++ l) (clusters-beside b r)

  reordered-clusters : {t u : Nodes} → Reordered t u → Perm (clusters ns t) (clusters ns u)
  unfolding clusters
  reordered-clusters (swapped a b r) =
      perm-onward (perm-equal (groups a b r)) (perm-onward (perm-groups (clusters ns a) (clusters ns b) (clusters ns r)) (perm-equal (sym (groups b a r))))
  reordered-clusters (past-leaf q) = perm-behind (reordered-clusters q)
  reordered-clusters (past-node {c} q) = perm-front (clusters ns c) (perm-behind (reordered-clusters q))
  reordered-clusters (at-depth {c} {d} {r} q) =
      perm-onward (perm-end (taxa ns c ∷ clusters ns r) (reordered-clusters q))
      (perm-equal (ap (λ (m : ℕ). clusters ns d ++ (m ∷ clusters ns r)) (perm-taxa c d (reordered-leaves q))))

  reordered-splits : {c d : Nodes} (x : Option (List ℕ)) → Reordered c d → splits_of ns (inner c x nil) ≡ splits_of ns (inner d x nil)
  unfolding splits_of children
  reordered-splits {c} {d} x q =
      counted_same (length ns) (clusters ns c) (clusters ns d) (λ x h. (x, perm-mem (reordered-clusters q) x h, refl))
      (λ x h. (x, perm-mem (perm-back (reordered-clusters q)) x h, refl))

  -- ---- any lengths

  lengthened-leaves : {t u : Nodes} → ButLengths t u → leaves t ≡ leaves u
  unfolding leaves
  lengthened-leaves no-nodes = refl
  lengthened-leaves (same-leaf {w} q) = ap (λ l. w ∷ l) (lengthened-leaves q)
  lengthened-leaves (same-node p q) = ap₂ ◌++◌ (lengthened-leaves p) (lengthened-leaves q)

  lengthened-clusters : {t u : Nodes} → ButLengths t u → clusters ns t ≡ clusters ns u
  unfolding clusters
  lengthened-clusters no-nodes = refl
  lengthened-clusters (same-leaf {w} q) = ap (λ (l : List ℕ). taxon ns w ∷ l) (lengthened-clusters q)
  lengthened-clusters (same-node {c} {d} {t} {u} p q) =
      ap₂ (λ (l k : List ℕ). l ++ (taxa ns c ∷ k)) (lengthened-clusters p) (lengthened-clusters q)
      ∙ ap (λ (m : ℕ). clusters ns d ++ (m ∷ clusters ns u)) (perm-taxa c d (perm-equal (lengthened-leaves p)))

  lengthened-splits : {t u : Nodes} → ButLengths t u → splits_of ns t ≡ splits_of ns u
  unfolding splits_of children
  lengthened-splits no-nodes = refl
  lengthened-splits (same-leaf q) = refl
  lengthened-splits (same-node p q) = ap (counted (length ns)) (lengthened-clusters p)

  -- ---- any root

  -- the children c of an inner node beside the other children r of the root, of a tree whose leaves have no fault
  module _ (c r : Nodes) (e x : Option (List ℕ)) (few : 0 < length ns) (z : leaf_fault ns 0 (leaves (inner (inner c e r) x nil)) ≡ 0) where
    all_there : taxa ns c + taxa ns r ≡ every_taxon (length ns)
    unfolding leaf_fault taxa
    all_there =
        let d = leaves-distinct ns (inner (inner c e r) x nil) 0 [] (ap (leaf_fault ns 0) (append-nil (leaves (inner (inner c e r) x nil))) ∙ z) in
        let e : 0 + bit_or (bit_or (taxa ns c) (taxa ns r)) 0 ≡ every_taxon (length ns) = none-missing _ (length ns) d.2 in
        let f : bit_or (taxa ns c) (taxa ns r) ≡ taxa ns c + taxa ns r = or_disjoint (taxa ns c) (taxa ns r) (dis-and (taxa ns c) (taxa ns r) d.1.1.0) in
        sym f ∙ sym (or_zero_r (bit_or (taxa ns c) (taxa ns r))) ∙ omega (arith, e)

    other-side : side (length ns) (taxa ns c) ≡ side (length ns) (taxa ns r)
    other-side = sym (ap (side (length ns)) (omega (arith, all_there)) ∙ one_split (length ns) (taxa ns c) few (taxa-sub ns c))

    -- where the taxa of r are a cluster behind those of c, those of c need not be one
    merged : (ks : List ℕ) → ((x : ℕ) → Mem x (clusters ns r) → Mem x ks) → Mem (taxa ns r) ks → SidesIn (length ns) (clusters ns c ++ (taxa ns c ∷ clusters ns r)) (clusters ns c ++ ks)
    merged ks f m x h = go (mem-cases x (clusters ns c) (taxa ns c ∷ clusters ns r) h)
      where
        go : Mem x (clusters ns c) ⊎ ((x ≡ taxa ns c) ⊎ Mem x (clusters ns r)) → (d : ℕ) × Mem d (clusters ns c ++ ks) × (side (length ns) x ≡ side (length ns) d)
        go (inl k) = (x, mem-left x (clusters ns c) ks k, refl)
        go (inr (inl e)) = (taxa ns r, mem-right (taxa ns r) (clusters ns c) ks m, ap (side (length ns)) e ∙ other-side)
        go (inr (inr k)) = (x, mem-right x (clusters ns c) ks (f x k), refl)

    unmerged : (ks : List ℕ) → ((x : ℕ) → Mem x ks → Mem x (clusters ns r) ⊎ (x ≡ taxa ns r)) → SidesIn (length ns) (clusters ns c ++ ks) (clusters ns c ++ (taxa ns c ∷ clusters ns r))
    unmerged ks f x h = ⊎_elim (λ k. (x, mem-left x (clusters ns c) (taxa ns c ∷ clusters ns r) k, refl)) (λ k. go (f x k)) (mem-cases x (clusters ns c) ks h)
      where
        go : Mem x (clusters ns r) ⊎ (x ≡ taxa ns r) → (d : ℕ) × Mem d (clusters ns c ++ (taxa ns c ∷ clusters ns r)) × (side (length ns) x ≡ side (length ns) d)
        go (inl k) = (x, mem-right x (clusters ns c) (taxa ns c ∷ clusters ns r) (inr k), refl)
        go (inr e) = (taxa ns c, mem-right (taxa ns c) (clusters ns c) (taxa ns c ∷ clusters ns r) (inl refl), ap (side (length ns)) e ∙ sym other-side)

    -- the children c, and behind them nodes k with the clusters of r and the taxa of r
    rooted-there : (k : Nodes) → ((x : ℕ) → Mem x (clusters ns r) → Mem x (clusters ns k)) → Mem (taxa ns r) (clusters ns k)
        → ((x : ℕ) → Mem x (clusters ns k) → Mem x (clusters ns r) ⊎ (x ≡ taxa ns r)) → splits_of ns (inner (inner c e r) x nil) ≡ splits_of ns (inner (beside c k) x nil)
    unfolding splits_of children clusters
    rooted-there k f m g =
        counted_same (length ns) (clusters ns c ++ (taxa ns c ∷ clusters ns r)) (clusters ns c ++ clusters ns k) (merged (clusters ns k) f m) (unmerged (clusters ns k) g)
        ∙ ap (counted (length ns)) (sym (clusters-beside c k))

    moved-splits : splits_of ns (inner (inner c e r) x nil) ≡ splits_of ns (inner (beside c (inner r e nil)) x nil)
    unfolding clusters
    moved-splits =
        rooted-there (inner r e nil) (λ x h. mem-left x (clusters ns r) (taxa ns r ∷ []) h) (mem-right (taxa ns r) (clusters ns r) (taxa ns r ∷ []) (inl refl))
        (λ x h. ⊎_elim (λ k. inl k) (λ k. inr (only x k)) (mem-cases x (clusters ns r) (taxa ns r ∷ []) h))
      where
        only : (x : ℕ) → (x ≡ taxa ns r) ⊎ ⊥ → x ≡ taxa ns r
        only x (inr x3) = elim x3 [ ]
        only x (inl e) = e

    -- the taxa of one node are a cluster
    one-cluster : (k : Nodes) → width k ≡ 1 → Mem (taxa ns k) (clusters ns k)
    unfolding width
    one-cluster nil e = absurd (omega arith)
    one-cluster (leaf w l nil) e = hangs-cluster ns a-leaf
    one-cluster (leaf w l (leaf v m k)) e = absurd (omega arith)
    one-cluster (leaf w l (inner d m k)) e = absurd (omega arith)
    one-cluster (inner d l nil) e = hangs-cluster ns a-node
    one-cluster (inner d l (leaf v m k)) e = absurd (omega arith)
    one-cluster (inner d l (inner b m k)) e = absurd (omega arith)

    dissolved-splits : width r ≡ 1 → splits_of ns (inner (inner c e r) x nil) ≡ splits_of ns (inner (beside c r) x nil)
    dissolved-splits o = rooted-there r (λ x h. h) (one-cluster r o) (λ x h. inl h)

  -- ---- both

  pub unrooted-leaves : {t u : Nodes} → SameUnrooted t u → Perm (leaves t) (leaves u)
  unfolding leaves
  unrooted-leaves (reordered q) = perm-end [] (reordered-leaves q)
  unrooted-leaves (lengthened q) = perm-equal (lengthened-leaves q)
  unrooted-leaves (moved {e} c r) =
      perm-equal (ap (λ l. l ++ []) (sym (leaves-beside c (inner r e nil) ∙ ap (λ l. leaves c ++ l) (append-nil (leaves r)))))
  unrooted-leaves (dissolved c r e) = perm-equal (ap (λ l. l ++ []) (sym (leaves-beside c r)))
  unrooted-leaves (itself t) = perm_same
  unrooted-leaves (back s) = perm-back (unrooted-leaves s)
  unrooted-leaves (onward s s') = perm-onward (unrooted-leaves s) (unrooted-leaves s')

  pub unrooted-faultless : {t u : Nodes} → SameUnrooted t u → leaf_fault ns 0 (leaves t) ≡ 0 → leaf_fault ns 0 (leaves u) ≡ 0
  unrooted-faultless s z = perm-faultless ns (unrooted-leaves s) 0 z

  pub unrooted : {t u : Nodes} → 0 < length ns → SameUnrooted t u → leaf_fault ns 0 (leaves t) ≡ 0 → splits_of ns t ≡ splits_of ns u
  unrooted p (reordered {x = x} q) z = reordered-splits x q
  unrooted p (lengthened q) z = lengthened-splits q
  unrooted p (moved {e} {x} c r) z = moved-splits c r e x p z
  unrooted p (dissolved {e} {x} c r o) z = dissolved-splits c r e x p z o
  unrooted p (itself t) z = refl
  unrooted p (back s) z = sym (unrooted p s (unrooted-faultless (back s) z))
  unrooted p (onward s s') z = unrooted p s z ∙ unrooted p s' (unrooted-faultless s z)

-- ---- every inner node can be the root

beside-nil : (t : Nodes) → beside t nil ≡ t
unfolding beside
beside-nil nil = refl
beside-nil (leaf w e r) = ap (leaf w e) (beside-nil r)
beside-nil (inner c e r) = ap (inner c e) (beside-nil r)

leaf-inner : {w : List ℕ} {c : Nodes} {l m : Option (List ℕ)} → leaf w l nil ≡ inner c m nil → ⊥
leaf-inner e = let z : ◌≡◌ {A = ℕ} 0 1 = cc in omega arith

same-children : {b c : Nodes} {l m : Option (List ℕ)} → inner b l nil ≡ inner c m nil → b ≡ c
same-children e = cc

-- the node with the children c hangs at d, beside which the nodes k are children of the root
root-at : (c : Nodes) (m y : Option (List ℕ)) {x d : Nodes} → Hangs x d → x ≡ inner c m nil → (k : Nodes) → (r : Nodes) × SameUnrooted (inner (beside d k) y nil) (inner (beside c r) y nil)
unfolding beside
root-at c m y a-leaf e k = absurd (leaf-inner e)
root-at c m y (a-node {c = b} {r = r} {e = l}) e k =
    (inner (beside r k) l nil, subst (λ (z : Nodes). SameUnrooted (inner (inner b l (beside r k)) y nil) (inner (beside z (inner (beside r k) l nil)) y nil)) (same-children e) (moved b (beside r k)))
root-at c m y (below {c = b} {r = r} {e = l} h) e k = let p = root-at c m y h e (inner (beside r k) l nil) in (p.0, onward (moved b (beside r k)) p.1)
root-at c m y (behind-leaf {w = w} {e = l} {r = r} h) e k = let p = root-at c m y h e (leaf w l k) in (p.0, onward (reordered (swapped (leaf w l nil) r k)) p.1)
root-at c m y (behind-node {c = b} {r = r} {e = l} h) e k = let p = root-at c m y h e (inner b l k) in (p.0, onward (reordered (swapped (inner b l nil) r k)) p.1)

pub any-root : (c d : Nodes) (m y : Option (List ℕ)) → Hangs (inner c m nil) d → (r : Nodes) × SameUnrooted (inner d y nil) (inner (beside c r) y nil)
any-root c d m y h = let p = root-at c m y h refl nil in (p.0, subst (λ (z : Nodes). SameUnrooted (inner z y nil) (inner (beside c p.0) y nil)) (beside-nil d) p.1)

-- ---- texts of one unrooted tree

module _ (h : Held) (s v : List ℕ) (b : Branches) (u : Nodes) (a : Accepts h s b) (one : SameUnrooted a.tree u) where
  was-faultless : leaf_fault h.opening.names 0 (leaves a.tree) ≡ 0
  was-faultless = (faultless-exactly h.opening.names (leaves a.tree)).1 (λ k q. a.faultless.leaves-fine (suc k) q)

  still-faultless : (k : ℕ) → Fault h.opening.names [] (leaves u) k → ⊥
  still-faultless k q = go k (fault-numbers-only h.opening.names q).0 q
    where
      go : (k : ℕ) → 8 ≤ k → Fault h.opening.names [] (leaves u) k → ⊥
      go zero l q = absurd (omega arith)
      go (suc k) l q = (faultless-exactly h.opening.names (leaves u)).0 (unrooted-faultless h.opening.names one was-faultless) k q

  -- the lengths are those of the text
  pub unrooted-accepts : 0 < length h.opening.names → IsTree v u → length v ≤ most_text → (Inexact h.opening.numbers.kept u → ⊥)
      → Accepts h v (record { splits = b.splits; lengths = kept_lengths h.opening.numbers.kept h.opening.names u })
  unrooted-accepts p i l x =
      let e : splits_of h.opening.names a.tree ≡ splits_of h.opening.names u = unrooted h.opening.names p one was-faultless in
      record {
        tree = u;
        faultless = record { short = l; tree = i; leaves-fine = still-faultless };
        in-range = x;
        tree-room = a.tree-room;
        split-room = subst (λ (x : List ℕ). length (recorded (h.trees ++ x ∷ [])) ≤ h.opening.numbers.split_room) e a.split-room;
        splits = a.splits ∙ e;
        lengths = refl;
      }
