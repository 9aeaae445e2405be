-- Laws of masks: agreement, the mask of all taxa, the two sides of a split.
--
--   Ag a b          the splits a and b agree, as a type: nothing common, or one within the other
--   agree-true, true-agree     the test and the type
--   agree-side      clusters that agree have sides that agree
use Rattle.std.specs.Prelude.{ℕ, zero, suc, ◌-◌, ◌/◌, ◌%◌, ◌^◌, ◌<◌, ◌≡◌, refl, ◌⊎◌, Bool, true, false, ◌||◌, leb}
use Rattle.std.proofs.Common.{arith, pow-suc, lt_of_lt_of_le, ap, sym, ◌∙◌, subst, inl, inr, ⊎_elim, pow_pos, pow_mono, eqb-true, eq-eqb, ne_eqb, leb-true, leb-false}
use Rattle.std.proofs.Math.Nat.{div-eq_of_lt}
use Rattle.std.specs.Int.Bits.{bit_and, bit_xor}
use Rattle.std.proofs.lemmas.Nat.{and_comm}
use Rattle.std.proofs.lemmas.Bool.{eqb-false}
use Rattle.trees.specs.Mask.{has, every_taxon, without, apart, within, agree, side}
use Rattle.theorems.specs.ListLaws.{or_cases, or_left, or_right, if-true, if-false}
use Rattle.theorems.specs.BitLaws.{On, on?, Sub, Dis, on-first, first_on, shift-on, and-dis, dis-and, and-sub, sub-and, less-add, less-sub, less-dis, on_xor, sub-le}

-- ---- one taxon

pub has_on : (m i : ℕ) → has m i ≡ true → On m i
unfolding has On
has_on m i e = eqb-true (m / 2 ^ i % 2) 1 e

pub on-has : (m i : ℕ) → On m i → has m i ≡ true
unfolding has On
on-has m i h = eq-eqb (m / 2 ^ i % 2) 1 h

pub off-has : (m i : ℕ) → (On m i → ⊥) → has m i ≡ false
unfolding has On
off-has m i f = ne_eqb (m / 2 ^ i % 2) 1 f

pub has-off : (m i : ℕ) → has m i ≡ false → On m i → ⊥
unfolding has On
has-off m i e = eqb-false (m / 2 ^ i % 2) 1 e

-- ---- agreement

abbrev pub Ag : ℕ → ℕ → Type 0
Ag a b = Dis a b ⊎ (Sub a b ⊎ Sub b a)

within-sub : (a b : ℕ) → within a b ≡ true → Sub a b
unfolding within
within-sub a b e = and-sub a b (eqb-true (bit_and a b) a e)

sub_within : (a b : ℕ) → Sub a b → within a b ≡ true
unfolding within
sub_within a b h = eq-eqb (bit_and a b) a (sub-and a b h)

pub agree-true : (a b : ℕ) → agree a b ≡ true → Ag a b
unfolding agree apart
agree-true a b e =
    ⊎_elim (λ p. inl (and-dis a b (eqb-true (bit_and a b) 0 p))) (λ p. inr (⊎_elim (λ q. inl (within-sub a b q)) (λ q. inr (within-sub b a q)) (or_cases (within a b) (within b a) p)))
    (or_cases (apart a b) (within a b || within b a) e)

pub true-agree : (a b : ℕ) → Ag a b → agree a b ≡ true
unfolding agree apart
true-agree a b (inl d) = or_left (apart a b) (within a b || within b a) (eq-eqb (bit_and a b) 0 (dis-and a b d))
true-agree a b (inr (inl s)) = or_right (apart a b) (within a b || within b a) (or_left (within a b) (within b a) (sub_within a b s))
true-agree a b (inr (inr s)) = or_right (apart a b) (within a b || within b a) (or_right (within a b) (within b a) (sub_within b a s))

pub ag-sym : (a b : ℕ) → Ag a b → Ag b a
ag-sym a b (inl d) = inl (λ i h k. d i k h)
ag-sym a b (inr (inl s)) = inr (inr s)
ag-sym a b (inr (inr s)) = inr (inl s)

pub ag-self : (a : ℕ) → Ag a a
ag-self a = inr (inl (λ i h. h))

-- ---- the mask of all taxa

pub every-on : (n i : ℕ) → i < n → On (every_taxon n) i
unfolding every_taxon
every-on zero i h = absurd (omega arith)
every-on (suc n) zero h = on-first (2 ^ suc n - 1) (let e = pow-suc 2 n in let p = pow_pos n in omega (arith, e, p))
every-on (suc n) (suc i) h =
    let e = pow-suc 2 n in
    let p = pow_pos n in
    let q : (2 ^ suc n - 1) / 2 ≡ 2 ^ n - 1 = omega (arith, e, p) in
    shift-on (2 ^ suc n - 1) i (subst (λ (x : ℕ). On x i) (sym q) (every-on n i (omega arith)))

pub on_below : (n m i : ℕ) → m < 2 ^ n → On m i → i < n
unfolding On
on_below n m i h o = go (leb n i) refl
  where
    go : (b : Bool) → leb n i ≡ b → i < n
    go true e = let z : m / 2 ^ i ≡ 0 = div-eq_of_lt (lt_of_lt_of_le h (pow_mono (leb-true n i e))) in absurd (omega (arith, ap (λ (x : ℕ). x % 2) z))
    go false e = leb-false n i e

pub below_sub : (n m : ℕ) → m < 2 ^ n → Sub m (every_taxon n)
below_sub n m h i o = every-on n i (on_below n m i h o)

pub sub-below : (n m : ℕ) → Sub m (every_taxon n) → m < 2 ^ n
unfolding every_taxon
sub-below n m h = omega (arith, sub-le m (2 ^ n - 1) h, pow_pos n)

-- ---- the other taxa: r - x, for x within r

module _ (r x : ℕ) (h : Sub x r) where
  pub others-xor : r - x ≡ bit_xor r x
  others-xor = omega (arith, less-add r x h)

  pub others-on : (i : ℕ) → On r i → (On x i → ⊥) → On (r - x) i
  others-on i o f = subst (λ (z : ℕ). On z i) (sym others-xor) (on_xor r x i o f)

  pub on-others : (i : ℕ) → On (r - x) i → On r i × (On x i → ⊥)
  on-others i o =
      let q : On (bit_xor r x) i = subst (λ (z : ℕ). On z i) others-xor o in
      (less-sub r x h i q, λ k. less-dis r x h i k q)

pub without_sub : (r x : ℕ) → Sub x r → without r x ≡ bit_xor r x
unfolding without
without_sub r x h = ap (λ (z : ℕ). r - z) (and_comm r x ∙ sub-and x r h) ∙ others-xor r x h

-- ---- the side without taxon 0

pub side-even : (n m : ℕ) → (On m 0 → ⊥) → side n m ≡ m
unfolding side
side-even n m f = if-false (every_taxon n - m) m (ne_eqb (m % 2) 1 (λ e. f (on-first m e)))

pub side-odd : (n m : ℕ) → On m 0 → side n m ≡ every_taxon n - m
unfolding side
side-odd n m h = if-true (every_taxon n - m) m (eq-eqb (m % 2) 1 (first_on m h))

-- the sides of two clusters that agree agree
module _ (n x y : ℕ) (hx : Sub x (every_taxon n)) (hy : Sub y (every_taxon n)) where
  -- y has taxon 0 and x has not: the other side of y
  one-turned : (On x 0 → ⊥) → On y 0 → Ag x y → Ag x (every_taxon n - y)
  one-turned f o (inl d) = inr (inl (λ i k. others-on (every_taxon n) y hy i (hx i k) (λ q. d i k q)))
  one-turned f o (inr (inl s)) = inl (λ i k q. (on-others (every_taxon n) y hy i q).1 (s i k))
  one-turned f o (inr (inr s)) = absurd (f (s 0 o))

  both-turned : On x 0 → On y 0 → Ag x y → Ag (every_taxon n - x) (every_taxon n - y)
  both-turned o p (inl d) = absurd (d 0 o p)
  both-turned o p (inr (inl s)) = inr (inr (λ i k. let q = on-others (every_taxon n) y hy i k in others-on (every_taxon n) x hx i q.0 (λ u. q.1 (s i u))))
  both-turned o p (inr (inr s)) = inr (inl (λ i k. let q = on-others (every_taxon n) x hx i k in others-on (every_taxon n) y hy i q.0 (λ u. q.1 (s i u))))

pub agree-side : (n x y : ℕ) → Sub x (every_taxon n) → Sub y (every_taxon n) → Ag x y → Ag (side n x) (side n y)
agree-side n x y hx hy a = go (on? x 0) (on? y 0)
  where
    move : (u v : ℕ) → side n x ≡ u → side n y ≡ v → Ag u v → Ag (side n x) (side n y)
    move u v p q g = subst (λ (z : ℕ). Ag z (side n y)) (sym p) (subst (λ (z : ℕ). Ag u z) (sym q) g)

    go : (On x 0 → ⊥) ⊎ On x 0 → (On y 0 → ⊥) ⊎ On y 0 → Ag (side n x) (side n y)
    go (inl f) (inl g) = move x y (side-even n x f) (side-even n y g) a
    go (inl f) (inr p) = move x (every_taxon n - y) (side-even n x f) (side-odd n y p) (one-turned n x y hx hy f p a)
    go (inr o) (inl g) = move (every_taxon n - x) y (side-odd n x o) (side-even n y g) (ag-sym y (every_taxon n - x) (one-turned n y x hy hx g o (ag-sym x y a)))
    go (inr o) (inr p) = move (every_taxon n - x) (every_taxon n - y) (side-odd n x o) (side-odd n y p) (both-turned n x y hx hy o p a)
