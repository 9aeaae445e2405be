-- The walk over the masks of two trees.
--
--   Going av xs bv ys t i j     what is left behind the places i and j, added to t, is the weighted distance
--   going-none, going-all       at its beginning, and at its end
--   going-first, going-second, going-both     past a mask of the first list, of the second, of both
--   zero-literal                the code's zero
use Rattle.std.specs.Prelude.{ℕ, ◌+◌, ◌≤◌, ◌<◌, ◌≡◌, refl, true, List, [], ◌∷◌, length, get_or, drop, Float}
use Rattle.std.proofs.Common.{eq-or-lt_of_le, add-one, arith, sym, ◌∙◌, inl, inr, drop-cons}
use Rattle.std.proofs.Math.Seq.{drop-length}
use Rattle.std.specs.Float.{nan, binary64}
use Rattle.std.specs.Float.Ieee.{add, of_bits}
use Rattle.trees.specs.Whole.{rising}
use Rattle.trees.specs.Sums.{plus_zero}
use Rattle.trees.specs.Weighted.{gap, weighted}
use Rattle.theorems.specs.RisingLaws.{Above, Rising, rising-true}
use Rattle.weighing.specs.MergeLaws.{from, from_all, from-none, from_first, from_second, from-both}

pub zero-literal : of_bits binary64 0 ≡ plus_zero
unfolding of_bits
zero-literal = refl

-- ---- what is left of a list

at : {A : Type 0} (l : List A) (i : ℕ) (d : A) → i < length l → drop i l ≡ get_or l i d ∷ drop (i + 1) l
at l i d h = drop-cons l i d h ∙ rw (add-one i)

-- it rises, and is above what stood before it
rising-rest : (l : List ℕ) (i : ℕ) → i < length l → Rising (drop i l) → Above (get_or l i 0) (drop (i + 1) l) × Rising (drop (i + 1) l)
rising-rest l i h r = rw (at l i 0 h) at r

rising-above : (m : ℕ) (l : List ℕ) (j : ℕ) → j ≤ length l → Rising (drop j l) → (j < length l → m < get_or l j 0) → Above m (drop j l)
rising-above m l j h r f = elim (eq-or-lt_of_le h) [ inl z ↦ rw (z, drop-length l) (λ y q. absurd q) | inr k ↦ rw (at l j 0 k) (head k) ]
  where
    head : j < length l → Above m (get_or l j 0 ∷ drop (j + 1) l)
    head k y (inl e) = omega (arith, f k)
    head k y (inr q) = omega (arith, f k, (rising-rest l j k r).0 y q)

module _ (av : List ℕ) (xs : List Float) (bv : List ℕ) (ys : List Float) where
  pub record Going (t : Float) (i j : ℕ) : Type 0 where
    pub first : i ≤ length av
    pub second : j ≤ length bv
    pub rising-first : Rising (drop i av)
    pub rising-second : Rising (drop j bv)
    pub rest : from t (drop i av) (drop i xs) (drop j bv) (drop j ys) ≡ weighted av xs bv ys

  pub going-none : rising av ≡ true → rising bv ≡ true → Going (of_bits binary64 0) 0 0
  going-none h k =
      record {
        first = omega arith;
        second = omega arith;
        rising-first = rising-true av h;
        rising-second = rising-true bv k;
        rest = rw zero-literal (from_all av xs bv ys);
      }

  pub going-all : (t : Float) (i j : ℕ) → Going t i j → length av + length bv ≤ i + j → t ≡ weighted av xs bv ys
  going-all t i j g h =
      let p : i ≡ length av = omega (arith, g.first, g.second) in
      let q : j ≡ length bv = omega (arith, g.first, g.second) in
      let z : from t [] (drop (length av) xs) [] (drop (length bv) ys) ≡ weighted av xs bv ys = rw (p, q, drop-length av, drop-length bv) at g.rest in
      sym (from-none t (drop (length av) xs) (drop (length bv) ys)) ∙ z

  module _ (l : length xs ≡ length av) (l' : length ys ≡ length bv) (t u : Float) (i j : ℕ) (g : Going t i j) where
    pub going-first : (i < length av) × (j < length bv → get_or av i 0 < get_or bv j 0) → u ≡ add binary64 t (gap (get_or xs i nan) plus_zero) → Going u (i + 1) j
    going-first (h, f) e =
        let m = get_or av i 0 in
        let r = rising-rest av i h g.rising-first in
        let b = rising-above m bv j g.second g.rising-second f in
        record {
          first = omega arith;
          second = g.second;
          rising-first = r.1;
          rising-second = g.rising-second;
          rest = rw e (sym (from_first t m (drop (i + 1) av) (drop (i + 1) xs) (drop j bv) (drop j ys) r.0 b (get_or xs i nan)) ∙ rw (← at av i 0 h, ← at xs i nan (omega arith)) g.rest);
        }

    pub going-second : (j < length bv) × (i < length av → get_or bv j 0 < get_or av i 0) → u ≡ add binary64 t (gap plus_zero (get_or ys j nan)) → Going u i (j + 1)
    going-second (h, f) e =
        let m = get_or bv j 0 in
        let r = rising-rest bv j h g.rising-second in
        let a = rising-above m av i g.first g.rising-first f in
        record {
          first = g.first;
          second = omega arith;
          rising-first = g.rising-first;
          rising-second = r.1;
          rest = rw e (sym (from_second t m (drop i av) (drop i xs) (drop (j + 1) bv) (drop (j + 1) ys) a r.0 (get_or ys j nan)) ∙ rw (← at bv j 0 h, ← at ys j nan (omega arith)) g.rest);
        }

    pub going-both : (i < length av) × (j < length bv) × (get_or av i 0 ≡ get_or bv j 0) → u ≡ add binary64 t (gap (get_or xs i nan) (get_or ys j nan)) → Going u (i + 1) (j + 1)
    going-both (h, k, z) e =
        let m = get_or av i 0 in
        let r = rising-rest av i h g.rising-first in
        let s = rising-rest bv j k g.rising-second in
        let b : Above m (drop (j + 1) bv) = rw z s.0 in
        let d : drop j bv ≡ m ∷ drop (j + 1) bv = at bv j 0 k ∙ rw z in
        record {
          first = omega arith;
          second = omega arith;
          rising-first = r.1;
          rising-second = s.1;
          rest = rw e (sym (from-both t m (drop (i + 1) av) (drop (i + 1) xs) (drop (j + 1) bv) (drop (j + 1) ys) r.0 b (get_or xs i nan) (get_or ys j nan)) ∙ rw (← at av i 0 h, ← at xs i nan (omega arith), ← d, ← at ys j nan (omega arith)) g.rest);
        }
