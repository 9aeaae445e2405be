-- The laws of the outer masks of a list that rises, a mask at a time. Assumes nothing.
--
--   outer-none, outer-more     one turn of the loop over the masks
--   outer_same                 a mask that agrees with all before it passes the test
--   outer-pairs                those that pass agree in pairs
use Rattle.std.specs.Prelude.{◌≡◌, ℕ, suc, ◌+◌, ◌^◌, ◌<◌, true, ◌≢◌, ◌⊎◌, List, [], ◌∷◌, ◌++◌, length, take, drop, bit_and, bit_or, slice_index, slice_index_or, slice_set, refl}
use Rattle.std.proofs.Common.{eq-zero-or-pos, add-one, arith, sym, subst, ◌∙◌, inl, inr, ⊎_elim, take-suc, get_or-set_same, get_or-set_other}
use Rattle.std.proofs.Math.Seq.{split_at}
use Rattle.trees.specs.Mask.{without, lowest}
use Rattle.trees.specs.Whole.{agree_in_pairs}
use Rattle.theorems.specs.ListLaws.{Mem, mem-left, mem-right, mem-cases}
use Rattle.theorems.specs.BitLaws.{On, on?, Sub, Dis, ext, and-on, on_and, on-or-l, on-or-r, or-on, off_zero, only-on, self-on, sub-le}
use Rattle.theorems.specs.MaskLaws.{Ag, ag-self, ag-sym}
use Rattle.theorems.specs.WidestLaws.{lowest-on}
use Rattle.theorems.specs.SplitLaws.{pairs-at, pairs-intro}
use Rattle.theorems.specs.BranchLaws.{on-pos}
use Rattle.store.specs.Outer.{UnionAt, Outer}
use Rattle.store.specs.UnionLaws.{on-without, without_on}

-- ---- one turn of the loop over the masks

pub outer-none : (ms : List ℕ) → Outer [] ms 0 0
outer-none ms =
    record {
      agreed = λ x y h k. absurd h;
      inside = λ y h. absurd h;
      member = λ t o. absurd (off_zero t o);
      headed = λ t i o. absurd (off_zero t o);
      alone = λ t u i o. absurd (off_zero t o);
      union = record { each = λ t o. absurd (off_zero t o); only = λ i o. absurd (off_zero i o) };
    }

-- x is the next mask, above those before it, and inner the union of the outer masks whose heads it has, the inner ones
module _ (l ms : List ℕ) (heads covered x inner : ℕ) (o : Outer l ms heads covered) (above : (y : ℕ) → Mem y l → y < x)
    (u : UnionAt ms (bit_and heads x) inner) where
  -- ---- where x agrees with all before it, the covered taxa that it has are those of the inner ones

  module _ (a : (y : ℕ) → Mem y l → Ag y x) where
    -- no mask before x contains it
    meets-sub : (y i : ℕ) → Mem y l → On y i → On x i → Sub y x
    meets-sub y i m h k = go (a y m)
      where
        go : Ag y x → Sub y x
        go (inl d) = absurd (d i h k)
        go (inr (inl s)) = s
        go (inr (inr s)) = absurd (omega (arith, sub-le x y s, above y m))

    inner-common : Sub inner (bit_and covered x)
    inner-common i h =
        let w = u.only i h in
        let k = and-on heads x w.0 w.1 in
        let s = meets-sub _ w.0 (o.member w.0 k.0) (o.headed w.0 i k.0 w.2) k.1 in
        on_and covered x i (o.union.each w.0 k.0 i w.2) (s i w.2)

    common-inner : Sub (bit_and covered x) inner
    common-inner i h =
        let k = and-on covered x i h in
        let w = o.union.only i k.0 in
        let s = meets-sub _ i (o.member w.0 w.1) w.2 k.1 in
        u.each w.0 (on_and heads x w.0 w.1 (s w.0 (o.headed w.0 i w.1 w.2))) i w.2

    common-same : bit_and covered x ≡ inner
    common-same = ext (bit_and covered x) inner common-inner inner-common

  -- ---- where they are, it agrees with all before it

  module _ (c : bit_and covered x ≡ inner) where
    -- an outer mask whose head x has lies within x
    taken-sub : (t : ℕ) → On heads t → On x t → Sub (slice_index ms t) x
    taken-sub t h k i m = (and-on covered x i (rw c (u.each t (on_and heads x t h k) i m))).1

    -- one whose head it has not is apart from it: no taxon is in two outer masks
    kept-dis : (t : ℕ) → On heads t → (On x t → ⊥) → Dis (slice_index ms t) x
    kept-dis t h f i m k =
        let q : On inner i = rw (← c) (on_and covered x i (o.union.each t h i m) k) in
        let w = u.only i q in
        let g = and-on heads x w.0 w.1 in
        f (rw (o.alone t w.0 i h g.0 m w.2) g.1)

    agrees-new : (y : ℕ) → Mem y l → Ag y x
    agrees-new y m = let w = o.inside y m in go w (on? x w.0)
      where
        go : (w : (t : ℕ) × On heads t × Sub y (slice_index ms t)) → (On x w.0 → ⊥) ⊎ On x w.0 → Ag y x
        go w (inl f) = inl (λ i h. kept-dis w.0 w.1 f i (w.2 i h))
        go w (inr k) = inr (inl (λ i h. taken-sub w.0 w.1 k i (w.2 i h)))

    -- a head that is kept is not that of x: before an empty mask there is none
    fresh : (t : ℕ) → On heads t → (On x t → ⊥) → t ≢ lowest x
    fresh t h f e = ⊎_elim (λ (z : x ≡ 0). omega (arith, above _ (o.member t h))) (λ (z : 0 < x). f (rw e (lowest-on x z))) (eq-zero-or-pos x)

    -- ---- the masks with x

    module _ (at : ℕ) (e : at ≡ lowest x) (b : at < length ms) where
      abbrev ms' : List ℕ
      ms' = slice_set ms at x

      abbrev heads' : ℕ
      heads' = bit_or (without heads x) (2 ^ at)

      abbrev covered' : ℕ
      covered' = bit_or covered x

      kept : (t : ℕ) → On heads t → (On x t → ⊥) → slice_index ms' t ≡ slice_index ms t
      kept t h f = get_or-set_other ms at t x 0 (rw e (fresh t h f))

      placed : slice_index_or ms' at 0 ≡ x
      placed = get_or-set_same ms at x 0 b

      -- a head is kept, or that of x
      head-cases : (t : ℕ) → On heads' t → (On heads t × (On x t → ⊥)) ⊎ (at ≡ t)
      head-cases t h = go (on? (without heads x) t)
        where
          go : (On (without heads x) t → ⊥) ⊎ On (without heads x) t → (On heads t × (On x t → ⊥)) ⊎ (at ≡ t)
          go (inl f) = inr (only-on at t (or-on (without heads x) (2 ^ at) t h f))
          go (inr k) = inl (without_on heads x t k)

      head-kept : (t : ℕ) → On heads t → (On x t → ⊥) → On heads' t
      head-kept t h f = on-or-l (without heads x) (2 ^ at) t (on-without heads x t h f)

      head-new : On heads' at
      head-new = on-or-r (without heads x) (2 ^ at) at (self-on at)

      inside-cases : (y : ℕ) → (w : (t : ℕ) × On heads t × Sub y (slice_index ms t)) → (On x w.0 → ⊥) ⊎ On x w.0
          → (t : ℕ) × On heads' t × Sub y (slice_index ms' t)
      inside-cases y w (inl f) = (w.0, head-kept w.0 w.1 f, rw (kept w.0 w.1 f) w.2)
      inside-cases y w (inr k) = (at, head-new, rw placed (λ i h. taken-sub w.0 w.1 k i (w.2 i h)))

      more-inside : (y : ℕ) → Mem y (l ++ x ∷ []) → (t : ℕ) × On heads' t × Sub y (slice_index ms' t)
      more-inside y m = go (mem-cases y l (x ∷ []) m)
        where
          go : Mem y l ⊎ Mem y (x ∷ []) → (t : ℕ) × On heads' t × Sub y (slice_index ms' t)
          go (inr (inr x3)) = elim x3 [ ]
          go (inl k) = let w = o.inside y k in inside-cases y w (on? x w.0)
          go (inr (inl q)) = (at, head-new, rw (placed, q) (λ i h. h))

      more-agreed : (y z : ℕ) → Mem y (l ++ x ∷ []) → Mem z (l ++ x ∷ []) → Ag y z
      more-agreed y z m k = go (mem-cases y l (x ∷ []) m) (mem-cases z l (x ∷ []) k)
        where
          go : Mem y l ⊎ Mem y (x ∷ []) → Mem z l ⊎ Mem z (x ∷ []) → Ag y z
          go (inr (inr x7)) _ = elim x7 [ ]
          go (inr (inl p)) (inr (inr x8)) = elim x8 [ ]
          go (inl p) (inr (inr x5)) = elim x5 [ ]
          go (inl p) (inl q) = o.agreed y z p q
          go (inl p) (inr (inl q)) = rw q (agrees-new y p)
          go (inr (inl p)) (inl q) = rw p (ag-sym z x (agrees-new z q))
          go (inr (inl p)) (inr (inl q)) = rw (p, q) (ag-self x)

      more-member : (t : ℕ) → On heads' t → Mem (slice_index ms' t) (l ++ x ∷ [])
      more-member t h = go (head-cases t h)
        where
          go : (On heads t × (On x t → ⊥)) ⊎ (at ≡ t) → Mem (slice_index ms' t) (l ++ x ∷ [])
          go (inl k) = rw (kept t k.0 k.1) (mem-left _ l (x ∷ []) (o.member t k.0))
          go (inr q) = rw (← q, placed) (mem-right x l (x ∷ []) (inl refl))

      more-headed : (t i : ℕ) → On heads' t → On (slice_index ms' t) i → On (slice_index ms' t) t
      more-headed t i h = go (head-cases t h)
        where
          go : (On heads t × (On x t → ⊥)) ⊎ (at ≡ t) → On (slice_index ms' t) i → On (slice_index ms' t) t
          go (inl k) m = rw (kept t k.0 k.1) (o.headed t i k.0 (rw (kept t k.0 k.1) at m))
          go (inr q) m = rw (← q, placed) (rw e (lowest-on x (on-pos x i (rw (← q, placed) at m))))

      more-alone : (t v i : ℕ) → On heads' t → On heads' v → On (slice_index ms' t) i → On (slice_index ms' v) i → t ≡ v
      more-alone t v i h k = go (head-cases t h) (head-cases v k)
        where
          go : (On heads t × (On x t → ⊥)) ⊎ (at ≡ t) → (On heads v × (On x v → ⊥)) ⊎ (at ≡ v)
              → On (slice_index ms' t) i → On (slice_index ms' v) i → t ≡ v
          go (inl p) (inl q) a c = o.alone t v i p.0 q.0 (rw (kept t p.0 p.1) at a) (rw (kept v q.0 q.1) at c)
          go (inl p) (inr q) a c = absurd (kept-dis t p.0 p.1 i (rw (kept t p.0 p.1) at a) (rw (← q, placed) at c))
          go (inr p) (inl q) a c = absurd (kept-dis v q.0 q.1 i (rw (kept v q.0 q.1) at c) (rw (← p, placed) at a))
          go (inr p) (inr q) a c = sym p ∙ q

      more-each : (t : ℕ) → On heads' t → Sub (slice_index ms' t) covered'
      more-each t h i m = go (head-cases t h)
        where
          go : (On heads t × (On x t → ⊥)) ⊎ (at ≡ t) → On covered' i
          go (inl k) = on-or-l covered x i (o.union.each t k.0 i (rw (kept t k.0 k.1) at m))
          go (inr q) = on-or-r covered x i (rw (← q, placed) at m)

      more-only : (i : ℕ) → On covered' i → (t : ℕ) × On heads' t × On (slice_index ms' t) i
      more-only i h = go (on? x i) (on? covered i)
        where
          new : On x i → (t : ℕ) × On heads' t × On (slice_index ms' t) i
          new k = (at, head-new, rw placed k)

          old : (On x i → ⊥) → (w : (t : ℕ) × On heads t × On (slice_index ms t) i) → (On x w.0 → ⊥) ⊎ On x w.0
              → (t : ℕ) × On heads' t × On (slice_index ms' t) i
          old f w (inl k) = (w.0, head-kept w.0 w.1 k, rw (kept w.0 w.1 k) w.2)
          old f w (inr k) = absurd (f (taken-sub w.0 w.1 k i w.2))

          go : (On x i → ⊥) ⊎ On x i → (On covered i → ⊥) ⊎ On covered i → (t : ℕ) × On heads' t × On (slice_index ms' t) i
          go (inr k) c = new k
          go (inl f) (inl g) = absurd (f (or-on covered x i h g))
          go (inl f) (inr k) = let w = o.union.only i k in old f w (on? x w.0)

      with-next : Outer (l ++ x ∷ []) ms' heads' covered'
      with-next =
          record {
            agreed = more-agreed;
            inside = more-inside;
            member = more-member;
            headed = more-headed;
            alone = more-alone;
            union = record { each = more-each; only = more-only };
          }

-- ---- the first masks of a list

pub outer-pairs : (l ms : List ℕ) (heads covered : ℕ) → Outer l ms heads covered → agree_in_pairs l ≡ true
outer-pairs l ms heads covered o = pairs-intro l o.agreed

pairs-before : (l r : List ℕ) (x y : ℕ) → agree_in_pairs (l ++ x ∷ r) ≡ true → Mem y l → Ag y x
pairs-before l r x y e m = pairs-at (l ++ x ∷ r) e y x (mem-left y l (x ∷ r) m) (mem-right x l (x ∷ r) (inl refl))

-- x is the mask behind the first j, above them
module _ (l ms : List ℕ) (j heads covered x inner : ℕ) (h : j < length l) (e : x ≡ slice_index l j) (o : Outer (take j l) ms heads covered)
    (above : (y : ℕ) → Mem y (take j l) → y < x) (u : UnionAt ms (bit_and heads x) inner) where
  pub outer_same : agree_in_pairs l ≡ true → bit_and covered x ≡ inner
  outer_same a =
      let s : l ≡ take j l ++ x ∷ drop (suc j) l = split_at l j 0 h ∙ rw e in
      let b = subst (λ (k : List ℕ). agree_in_pairs k ≡ true) s a in
      common-same (take j l) ms heads covered x inner o above u (λ y m. pairs-before (take j l) _ x y b m)

  pub outer-more : bit_and covered x ≡ inner → (at heads' covered' : ℕ) → at ≡ lowest x → at < length ms
      → heads' ≡ bit_or (without heads x) (2 ^ lowest x) → covered' ≡ bit_or covered x → Outer (take (j + 1) l) (slice_set ms at x) heads' covered'
  outer-more c at heads' covered' p i f g =
      rw (add-one j, take-suc l j 0 h, ← e, f, g, ← p) (with-next (take j l) ms heads covered x inner o above u c at p i)
