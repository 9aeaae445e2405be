-- The masks of a tree rise and agree in pairs: so the smallest group that has two taxa is the first of them that has both.
--
--   First i j ms x      x is a mask of ms, has the taxa i and j, and none before it has both
--   nearest-first       the mask that is named for two taxa is exactly that one
use Rattle.std.specs.Prelude.{ℕ, ◌≤◌, ◌<◌, ◌≡◌, refl, ◌⊎◌, ◌↔◌, true, List, [], ◌∷◌, ◌++◌}
use Rattle.std.proofs.Common.{le_of_eq, le_of_lt, arith, ap, sym, subst, inl, inr}
use Rattle.std.specs.Int.Count.{ones}
use Rattle.trees.specs.Mask.{ones_below, proper}
use Rattle.trees.specs.Whole.{good_tree}
use Rattle.trees.specs.Groups.{nearest}
use Rattle.theorems.specs.ListLaws.{Mem, mem-left, mem-right, mem-cases, every-at}
use Rattle.theorems.specs.RisingLaws.{Rising, rising-true}
use Rattle.theorems.specs.BitLaws.{sub-le}
use Rattle.theorems.specs.OnesLaws.{below-ones, ones_lt}
use Rattle.theorems.specs.MaskLaws.{Ag, has_on, sub-below}
use Rattle.theorems.specs.SplitLaws.{pairs-at}
use Rattle.theorems.specs.ProperLaws.{proper-sub}
use Rattle.theorems.specs.ConsensusLaws.{good-proper, good-rising, good-pairs}
use Rattle.theorems.specs.GroupLaws.{Both, Smallest, nearest-exactly}

pub record First (i j : ℕ) (ms : List ℕ) (x : ℕ) : Type 0 where
  pub before : List ℕ
  pub behind : List ℕ
  pub stands : ms ≡ before ++ x ∷ behind
  pub both : Both i j x
  pub none : (m : ℕ) → Mem m before → Both i j m → ⊥

-- ---- a rising list

rising-before : (b : List ℕ) (x : ℕ) (d : List ℕ) → Rising (b ++ x ∷ d) → (m : ℕ) → Mem m b → m < x
rising-before [] x d h m x4 = elim x4 [ ]
rising-before (u ∷ b) x d h m (inl e) = subst (λ (z : ℕ). z < x) (sym e) (h.0 x (mem-right x b (x ∷ d) (inl refl)))
rising-before (u ∷ b) x d h m (inr k) = rising-before b x d h.1 m k

rising-behind : (b : List ℕ) (x : ℕ) (d : List ℕ) → Rising (b ++ x ∷ d) → (m : ℕ) → Mem m d → x < m
rising-behind [] x d h m k = h.0 m k
rising-behind (u ∷ b) x d h m k = rising-behind b x d h.1 m k

-- ---- of two masks that share a taxon, the smaller number has fewer taxa

module _ (n : ℕ) (ms : List ℕ) (good : good_tree n ms ≡ true) (i j : ℕ) where
  counted : (m : ℕ) → Mem m ms → ones_below n m ≡ ones m
  counted m k = below-ones n m (sub-below n m (proper-sub n m (every-at (proper n) ms (good-proper n ms good) m k)))

  fewer : (x y : ℕ) → Mem x ms → Mem y ms → Both i j x → Both i j y → x < y → ones_below n x < ones_below n y
  fewer x y a b p q l = go (pairs-at ms (good-pairs n ms good) x y a b)
    where
      go : Ag x y → ones_below n x < ones_below n y
      go (inl d) = absurd (d i (has_on x i p.0) (has_on y i q.0))
      go (inr (inl s)) = omega (arith, ones_lt x y s l, counted x a, counted y b)
      go (inr (inr s)) = absurd (omega (arith, sub-le y x s))

  rises : (b : List ℕ) (x : ℕ) (d : List ℕ) → ms ≡ b ++ x ∷ d → Rising (b ++ x ∷ d)
  rises b x d e = subst Rising e (rising-true ms (good-rising n ms good))

  stands-in : (b : List ℕ) (x : ℕ) (d : List ℕ) → ms ≡ b ++ x ∷ d → (m : ℕ) → Mem m (b ++ x ∷ d) → Mem m ms
  stands-in b x d e m k = subst (Mem m) (sym e) k

  smallest-first : (x : ℕ) → Smallest n i j ms x → First i j ms x
  smallest-first x s = record { before = s.before; behind = s.behind; stands = s.stands; both = s.both; none = none }
    where
      inside : (m : ℕ) → Mem m (s.before ++ x ∷ s.behind) → Mem m ms
      inside = stands-in s.before x s.behind s.stands

      none : (m : ℕ) → Mem m s.before → Both i j m → ⊥
      none m k h =
          let l = rising-before s.before x s.behind (rises s.before x s.behind s.stands) m k in
          let f = fewer m x (inside m (mem-left m s.before (x ∷ s.behind) k)) (inside x (mem-right x s.before (x ∷ s.behind) (inl refl))) h s.both l in
          omega (arith, f, s.first m k h)

  first-smallest : (x : ℕ) → First i j ms x → Smallest n i j ms x
  first-smallest x s = record {
    before = s.before;
    behind = s.behind;
    stands = s.stands;
    both = s.both;
    least = λ m k h. least m k h (mem-cases m s.before (x ∷ s.behind) (subst (Mem m) s.stands k));
    first = λ m k h. absurd (s.none m k h);
  }
    where
      mine : Mem x ms
      mine = stands-in s.before x s.behind s.stands x (mem-right x s.before (x ∷ s.behind) (inl refl))

      least : (m : ℕ) → Mem m ms → Both i j m → Mem m s.before ⊎ ((m ≡ x) ⊎ Mem m s.behind) → ones_below n x ≤ ones_below n m
      least m k h (inl q) = absurd (s.none m q h)
      least m k h (inr (inl e)) = le_of_eq (ap (ones_below n) (sym e))
      least m k h (inr (inr q)) = le_of_lt (fewer x m mine k s.both h (rising-behind s.before x s.behind (rises s.before x s.behind s.stands) m q))

  pub nearest-first : (x : ℕ) → ((nearest n i j ms ≡ x) × (x ≡ 0 → ⊥)) ↔ First i j ms x
  nearest-first x = (λ e. smallest-first x ((nearest-exactly n i j ms x).0 e), λ s. (nearest-exactly n i j ms x).1 (first-smallest x s))
