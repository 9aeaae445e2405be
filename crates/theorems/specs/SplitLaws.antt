-- Laws of clusters and splits: the clusters of a tree whose leaves are different taxa agree in pairs, and so do its splits.
--
--   Distinct ns t       no taxon comes twice among the leaves of t, as a type
--   clusters-agree      then every two clusters agree
--   counted-mem, mem-counted, counted-rising    what counts among the sides of clusters
--   splits-good         then the splits of a tree are proper, rising, and agree in pairs
use Rattle.std.specs.Prelude.{ℕ, suc, ◌+◌, ◌^◌, ◌<◌, ◌≡◌, refl, ◌⊎◌, Bool, true, false, List, [], ◌∷◌, ◌++◌, length, if◌then◌else◌}
use Rattle.std.proofs.Common.{arith, ap, sym, ◌∙◌, subst, inl, inr, ⊎_elim, true≢false}
use Rattle.std.proofs.Math.Option.{Option, none, some}
use Rattle.std.specs.Int.Bits.{bit_or}
use Rattle.trees.specs.Plain.{every, same_bytes}
use Rattle.trees.specs.Mask.{every_taxon, agree, side, proper}
use Rattle.trees.specs.Tree.{Nodes, nil, leaf, inner, children}
use Rattle.trees.specs.Text.{read_as}
use Rattle.trees.specs.Names.{taxon_from, taxon_of}
use Rattle.trees.specs.Splits.{bit_of, taxon, taxa, clusters, insert, counted, splits_of}
use Rattle.trees.specs.Whole.{agree_in_pairs, good_tree}
use Rattle.theorems.specs.ListLaws.{by-test, and_left, and_right, and-true, Mem, mem-cases, every-at, every-intro}
use Rattle.theorems.specs.RisingLaws.{Rising, true-rising, insert-mem, mem-insert, insert-rising}
use Rattle.theorems.specs.BitLaws.{On, on?, off_zero, Sub, Dis, or-on, on-or-l, on-or-r, only-on}
use Rattle.theorems.specs.MaskLaws.{Ag, ag-self, ag-sym, agree-true, true-agree, agree-side, every-on}

-- ---- taxa

pub taxon_from-below : (ns : List (List ℕ)) (k : ℕ) (w : List ℕ) (i : ℕ) → taxon_from k ns w ≡ some i → i < k + length ns
unfolding taxon_from
taxon_from-below [] k w i e = let z : ◌≡◌ {A = ℕ} 0 1 = cc in omega arith
taxon_from-below (v ∷ vs) k w i e = go (same_bytes v w) (taxon_from-below vs (suc k) w i) e
  where
    go : (b : Bool) → (taxon_from (suc k) vs w ≡ some i → i < suc k + length vs) → (if b then some k else taxon_from (suc k) vs w) ≡ some i → i < k + suc (length vs)
    go true f q = let z : k ≡ i = cc in omega arith
    go false f q = omega (arith, f q)

pub taxon-named : (ns : List (List ℕ)) (w : List ℕ) (i : ℕ) → taxon_of ns w ≡ some i → taxon ns w ≡ 2 ^ i
unfolding taxon
taxon-named ns w i e = ap bit_of e

pub taxon-sub : (ns : List (List ℕ)) (w : List ℕ) → Sub (taxon ns w) (every_taxon (length ns))
unfolding taxon taxon_of
taxon-sub ns w = go (taxon_from 0 ns (read_as w)) refl
  where
    go : (o : Option ℕ) → taxon_from 0 ns (read_as w) ≡ o → Sub (bit_of o) (every_taxon (length ns))
    go none e i h = absurd (off_zero i h)
    go (some j) e i h = every-on (length ns) i (omega (arith, taxon_from-below ns 0 (read_as w) j e, only-on j i h))

or-sub : (a b r : ℕ) → Sub a r → Sub b r → Sub (bit_or a b) r
or-sub a b r f g i h = ⊎_elim (λ n. g i (or-on a b i h n)) (λ o. f i o) (on? a i)

pub taxa-sub : (ns : List (List ℕ)) (t : Nodes) → Sub (taxa ns t) (every_taxon (length ns))
unfolding taxa
taxa-sub ns nil = λ i h. absurd (off_zero i h)
taxa-sub ns (leaf w e r) = or-sub (taxon ns w) (taxa ns r) (every_taxon (length ns)) (taxon-sub ns w) (taxa-sub ns r)
taxa-sub ns (inner c e r) = or-sub (taxa ns c) (taxa ns r) (every_taxon (length ns)) (taxa-sub ns c) (taxa-sub ns r)

-- ---- clusters

abbrev pub Distinct : List (List ℕ) → Nodes → Type 0
Distinct ns nil = Unit {0}
Distinct ns (leaf w e r) = Dis (taxon ns w) (taxa ns r) × Distinct ns r
Distinct ns (inner c e r) = Dis (taxa ns c) (taxa ns r) × Distinct ns c × Distinct ns r

-- a cluster of an inner node and the nodes behind it: below the node, its own, or behind it
inner-cases : (ns : List (List ℕ)) (c r : Nodes) (x : ℕ) → Mem x (clusters ns c ++ (taxa ns c ∷ clusters ns r)) → (Mem x (clusters ns c) ⊎ (x ≡ taxa ns c)) ⊎ Mem x (clusters ns r)
inner-cases ns c r x h = go (mem-cases x (clusters ns c) (taxa ns c ∷ clusters ns r) h)
  where
    go : Mem x (clusters ns c) ⊎ ((x ≡ taxa ns c) ⊎ Mem x (clusters ns r)) → (Mem x (clusters ns c) ⊎ (x ≡ taxa ns c)) ⊎ Mem x (clusters ns r)
    go (inl k) = inl (inl k)
    go (inr (inl e)) = inl (inr e)
    go (inr (inr k)) = inr k

sub-eq : {x y : ℕ} → x ≡ y → Sub x y
sub-eq e i h = subst (λ (z : ℕ). On z i) e h

pub cluster-sub : (ns : List (List ℕ)) (t : Nodes) (x : ℕ) → Mem x (clusters ns t) → Sub x (taxa ns t)
unfolding clusters taxa
cluster-sub ns nil x k i h = elim k [ ]
cluster-sub ns (leaf w l r) x (inl e) i h = on-or-l (taxon ns w) (taxa ns r) i (sub-eq e i h)
cluster-sub ns (leaf w l r) x (inr k) i h = on-or-r (taxon ns w) (taxa ns r) i (cluster-sub ns r x k i h)
cluster-sub ns (inner c l r) x k i h =
    ⊎_elim (λ p. on-or-l (taxa ns c) (taxa ns r) i (⊎_elim (λ q. cluster-sub ns c x q i h) (λ e. sub-eq e i h) p)) (λ q. on-or-r (taxa ns c) (taxa ns r) i (cluster-sub ns r x q i h))
    (inner-cases ns c r x k)

dis-parts : (x y a b : ℕ) → Sub x a → Sub y b → Dis a b → Dis x y
dis-parts x y a b f g d i h k = d i (f i h) (g i k)

pub clusters-agree : (ns : List (List ℕ)) (t : Nodes) → Distinct ns t → (x y : ℕ) → Mem x (clusters ns t) → Mem y (clusters ns t) → Ag x y
unfolding clusters
clusters-agree ns nil d x y h k = elim h [ ]
clusters-agree ns (leaf w l r) d x y (inl e) (inl f) = inr (inl (sub-eq (e ∙ sym f)))
clusters-agree ns (leaf w l r) d x y (inl e) (inr k) = inl (dis-parts x y (taxon ns w) (taxa ns r) (sub-eq e) (cluster-sub ns r y k) d.0)
clusters-agree ns (leaf w l r) d x y (inr h) (inl f) = ag-sym y x (inl (dis-parts y x (taxon ns w) (taxa ns r) (sub-eq f) (cluster-sub ns r x h) d.0))
clusters-agree ns (leaf w l r) d x y (inr h) (inr k) = clusters-agree ns r d.1 x y h k
clusters-agree ns (inner c l r) d x y h k = go (inner-cases ns c r x h) (inner-cases ns c r y k) (λ p q. clusters-agree ns c d.1 x y p q) (λ p q. clusters-agree ns r d.2 x y p q)
  where
    low : (z : ℕ) → Mem z (clusters ns c) ⊎ (z ≡ taxa ns c) → Sub z (taxa ns c)
    low z (inl p) = cluster-sub ns c z p
    low z (inr e) = sub-eq e

    go : (Mem x (clusters ns c) ⊎ (x ≡ taxa ns c)) ⊎ Mem x (clusters ns r) → (Mem y (clusters ns c) ⊎ (y ≡ taxa ns c)) ⊎ Mem y (clusters ns r)
        → (Mem x (clusters ns c) → Mem y (clusters ns c) → Ag x y) → (Mem x (clusters ns r) → Mem y (clusters ns r) → Ag x y) → Ag x y
    go (inl (inl p)) (inl (inl q)) f g = f p q
    go (inl p) (inl (inr e)) f g = inr (inl (λ i o. sub-eq (sym e) i (low x p i o)))
    go (inl (inr e)) (inl (inl q)) f g = inr (inr (λ i o. sub-eq (sym e) i (low y (inl q) i o)))
    go (inl p) (inr q) f g = inl (dis-parts x y (taxa ns c) (taxa ns r) (low x p) (cluster-sub ns r y q) d.0)
    go (inr p) (inl q) f g = ag-sym y x (inl (dis-parts y x (taxa ns c) (taxa ns r) (low y q) (cluster-sub ns r x p) d.0))
    go (inr p) (inr q) f g = g p q

-- ---- what counts

pub counted-mem : (n : ℕ) (cs : List ℕ) (y : ℕ) → Mem y (counted n cs) → (c : ℕ) × Mem c cs × (y ≡ side n c) × (proper n y ≡ true)
unfolding counted
counted-mem n [] y h = elim h [ ]
counted-mem n (c ∷ cs) y h = go (proper n (side n c)) refl h (λ k. let r = counted-mem n cs y k in (r.0, inr r.1, r.2, r.3))
  where
    go : (b : Bool) → proper n (side n c) ≡ b → Mem y (if b then insert (side n c) (counted n cs) else counted n cs)
        → (Mem y (counted n cs) → (d : ℕ) × ((d ≡ c) ⊎ Mem d cs) × (y ≡ side n d) × (proper n y ≡ true)) → (d : ℕ) × ((d ≡ c) ⊎ Mem d cs) × (y ≡ side n d) × (proper n y ≡ true)
    go true e k f = ⊎_elim (λ q. (c, inl refl, q, ap (proper n) q ∙ e)) (λ q. f q) (insert-mem (side n c) (counted n cs) y k)
    go false e k f = f k

pub mem-counted : (n : ℕ) (cs : List ℕ) (c : ℕ) → Mem c cs → proper n (side n c) ≡ true → Mem (side n c) (counted n cs)
unfolding counted
mem-counted n [] c x'' p = elim x'' [ ]
mem-counted n (d ∷ cs) c (inl e) p =
    by-test (Mem (side n c)) (proper n (side n d)) (λ q. mem-insert (side n d) (counted n cs) (side n c) (inl (ap (side n) e)))
    (λ q. absurd (true≢false (sym p ∙ ap (λ (x : ℕ). proper n (side n x)) e ∙ q)))
mem-counted n (d ∷ cs) c (inr h) p =
    by-test (Mem (side n c)) (proper n (side n d)) (λ q. mem-insert (side n d) (counted n cs) (side n c) (inr (mem-counted n cs c h p))) (λ q. mem-counted n cs c h p)

pub counted-rising : (n : ℕ) (cs : List ℕ) → Rising (counted n cs)
unfolding counted
counted-rising n [] = tt
counted-rising n (c ∷ cs) = by-test Rising (proper n (side n c)) (λ e. insert-rising (side n c) (counted n cs) (counted-rising n cs)) (λ e. counted-rising n cs)

-- ---- agreement in pairs: the test and the type

pub pairs-at : (l : List ℕ) → agree_in_pairs l ≡ true → (x y : ℕ) → Mem x l → Mem y l → Ag x y
unfolding agree_in_pairs
pairs-at [] e x y x5 _ = elim x5 [ ]
pairs-at (m ∷ l) e x y (inl p) (inl q) = subst (Ag x) (p ∙ sym q) (ag-self x)
pairs-at (m ∷ l) e x y (inl p) (inr k) = subst (λ (z : ℕ). Ag z y) (sym p) (agree-true m y (every-at (agree m) l (and_left (every (agree m) l) (agree_in_pairs l) e) y k))
pairs-at (m ∷ l) e x y (inr h) (inl q) = subst (λ (z : ℕ). Ag x z) (sym q) (ag-sym m x (agree-true m x (every-at (agree m) l (and_left (every (agree m) l) (agree_in_pairs l) e) x h)))
pairs-at (m ∷ l) e x y (inr h) (inr k) = pairs-at l (and_right (every (agree m) l) (agree_in_pairs l) e) x y h k

pub pairs-intro : (l : List ℕ) → ((x y : ℕ) → Mem x l → Mem y l → Ag x y) → agree_in_pairs l ≡ true
unfolding agree_in_pairs
pairs-intro [] f = refl
pairs-intro (m ∷ l) f = and-true (every-intro (agree m) l (λ y k. true-agree m y (f m y (inl refl) (inr k)))) (pairs-intro l (λ x y h k. f x y (inr h) (inr k)))

-- ---- the splits of a tree

counted-agree : (ns : List (List ℕ)) (t : Nodes) → Distinct ns t → agree_in_pairs (counted (length ns) (clusters ns t)) ≡ true
counted-agree ns t d =
    pairs-intro (counted (length ns) (clusters ns t))
    (λ x y h k.
    let p = counted-mem (length ns) (clusters ns t) x h in
    let q = counted-mem (length ns) (clusters ns t) y k in
    subst (λ (z : ℕ). Ag z y) (sym p.2)
    (subst (λ (z : ℕ). Ag (side (length ns) p.0) z) (sym q.2)
    (agree-side (length ns) p.0 q.0 (λ i o. taxa-sub ns t i (cluster-sub ns t p.0 p.1 i o)) (λ i o. taxa-sub ns t i (cluster-sub ns t q.0 q.1 i o))
    (clusters-agree ns t d p.0 q.0 p.1 q.1))))

counted-good : (ns : List (List ℕ)) (t : Nodes) → Distinct ns t → good_tree (length ns) (counted (length ns) (clusters ns t)) ≡ true
unfolding good_tree
counted-good ns t d =
    and-true (every-intro (proper (length ns)) (counted (length ns) (clusters ns t)) (λ y h. (counted-mem (length ns) (clusters ns t) y h).3))
    (and-true (true-rising (counted (length ns) (clusters ns t)) (counted-rising (length ns) (clusters ns t))) (counted-agree ns t d))

pub splits-good : (ns : List (List ℕ)) (t : Nodes) → Distinct ns t → good_tree (length ns) (splits_of ns t) ≡ true
unfolding splits_of children
splits-good ns nil d = counted-good ns nil tt
splits-good ns (leaf w e r) d = counted-good ns nil tt
splits-good ns (inner c e r) d = counted-good ns c d.1
