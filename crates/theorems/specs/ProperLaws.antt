-- Laws of proper masks, the masks of splits that count.
--
--   proper-ones        proper, with the library's count of set bits
--   proper-even, proper-two, proper-most, proper-sub   what it says of a mask that it is proper
--   true-proper        and what makes it proper
--   every-ones         all n taxa are n
--   one-taxon          the cluster of one taxon is never a split
use Rattle.std.specs.Prelude.{ℕ, ◌-◌, ◌^◌, ◌%◌, ◌≤◌, ◌<◌, ◌≡◌, refl, ◌⊎◌, Bool, true, false, ◌&&◌, leb, ltb, eqb}
use Rattle.std.proofs.Common.{arith, ap, sym, ◌∙◌, inl, inr, ltb-true, lt-ltb, leb-true, le-leb, eqb-true, eq-eqb}
use Rattle.std.proofs.Math.Bool.{and-false}
use Rattle.std.specs.Int.Count.{ones, ones-ones}
use Rattle.trees.specs.Mask.{ones_below, every_taxon, proper, side}
use Rattle.theorems.specs.ListLaws.{and_left, and_right, and-true}
use Rattle.theorems.specs.BitLaws.{On, Sub, on-first, first_on, on?}
use Rattle.theorems.specs.OnesLaws.{below-ones, ones-part}
use Rattle.theorems.specs.MaskLaws.{below_sub, others-xor, side-even, side-odd}

-- ---- one split

pub proper-ones : (n m : ℕ) → proper n m ≡ (eqb (m % 2) 0 && (leb 2 (ones m) && (leb (ones m) (n - 2) && ltb m (2 ^ n))))
unfolding proper
proper-ones n m = go (ltb m (2 ^ n)) refl
  where
    none : (a b c : Bool) → (a && (b && (c && false))) ≡ false
    none a b c = rw (and-false c, and-false b) (and-false a)

    go : (b : Bool) → ltb m (2 ^ n) ≡ b
        → (eqb (m % 2) 0 && (leb 2 (ones_below n m) && (leb (ones_below n m) (n - 2) && b))) ≡ (eqb (m % 2) 0 && (leb 2 (ones m) && (leb (ones m) (n - 2) && b)))
    go true e = ap (λ (k : ℕ). eqb (m % 2) 0 && (leb 2 k && (leb k (n - 2) && true))) (below-ones n m (ltb-true m (2 ^ n) e))
    go false e = none (eqb (m % 2) 0) (leb 2 (ones_below n m)) (leb (ones_below n m) (n - 2)) ∙ sym (none (eqb (m % 2) 0) (leb 2 (ones m)) (leb (ones m) (n - 2)))

module _ (n m : ℕ) (h : proper n m ≡ true) where
  proper-all : (eqb (m % 2) 0 && (leb 2 (ones m) && (leb (ones m) (n - 2) && ltb m (2 ^ n)))) ≡ true
  proper-all = sym (proper-ones n m) ∙ h

  pub proper-even : On m 0 → ⊥
  proper-even o = omega (arith, first_on m o, eqb-true (m % 2) 0 (and_left (eqb (m % 2) 0) _ proper-all))

  proper-rest : (leb 2 (ones m) && (leb (ones m) (n - 2) && ltb m (2 ^ n))) ≡ true
  proper-rest = and_right (eqb (m % 2) 0) _ proper-all

  pub proper-two : 2 ≤ ones m
  proper-two = leb-true 2 (ones m) (and_left (leb 2 (ones m)) _ proper-rest)

  pub proper-most : ones m ≤ n - 2
  proper-most = leb-true (ones m) (n - 2) (and_left (leb (ones m) (n - 2)) _ (and_right (leb 2 (ones m)) _ proper-rest))

  pub proper-sub : Sub m (every_taxon n)
  proper-sub = below_sub n m (ltb-true m (2 ^ n) (and_right (leb (ones m) (n - 2)) _ (and_right (leb 2 (ones m)) _ proper-rest)))

pub true-proper : (n m : ℕ) → (On m 0 → ⊥) → 2 ≤ ones m → ones m ≤ n - 2 → m < 2 ^ n → proper n m ≡ true
true-proper n m f a b c =
    let even : m % 2 ≡ 1 → ⊥ = λ e. f (on-first m e) in
    proper-ones n m ∙ and-true (eq-eqb (m % 2) 0 (omega (arith, even))) (and-true (le-leb 2 (ones m) a) (and-true (le-leb (ones m) (n - 2) b) (lt-ltb m (2 ^ n) c)))

-- ---- the cluster of one taxon is never a split

pub every-ones : (n : ℕ) → ones (every_taxon n) ≡ n
unfolding every_taxon
every-ones n = ones-ones n

pub one-taxon : (n c : ℕ) → Sub c (every_taxon n) → ones c ≡ 1 → proper n (side n c) ≡ true → ⊥
one-taxon n c h e p = go (on? c 0)
  where
    go : (On c 0 → ⊥) ⊎ On c 0 → ⊥
    go (inl f) = omega (arith, proper-two n (side n c) p, ap ones (side-even n c f))
    go (inr o) =
        omega
        (arith, proper-two n (side n c) p, proper-most n (side n c) p, ap ones (side-odd n c o ∙ others-xor (every_taxon n) c h), ones-part c (every_taxon n) h, every-ones n)
