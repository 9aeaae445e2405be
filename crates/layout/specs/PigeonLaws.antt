-- Numbers below n, all different, that stand in n places: each of them stands in one. Assumes nothing.
--
--   no_room        n + 1 different numbers below n there are not
--   each_stands    of n different numbers below n, none is left out
use Rattle.std.specs.Prelude.{ℕ, zero, suc, ◌-◌, ◌<◌, ◌≡◌, refl, ◌⊎◌, Bool, true, false, ltb, eqb, if◌then◌else◌}
use Rattle.std.proofs.Common.{arith, ap, ◌∙◌, inl, inr, ltb-true, ltb-false, eqb-true}
use Rattle.std.proofs.lemmas.Bool.{eqb-false}

-- ---- the numbers but v, closed up

closed : ℕ → ℕ → ℕ
closed v x = if ltb v x then x - 1 else x

closed-below : (n v x : ℕ) → v < suc n → x < suc n → (x ≡ v → ⊥) → closed v x < n
unfolding closed
closed-below n v x a b d = go (ltb v x) refl
  where
    go : (t : Bool) → ltb v x ≡ t → (if t then x - 1 else x) < n
    go true e = omega (arith, ltb-true v x e)
    go false e = omega (arith, ltb-false v x e, d)

closed_same : (v x y : ℕ) → (x ≡ v → ⊥) → (y ≡ v → ⊥) → closed v x ≡ closed v y → x ≡ y
unfolding closed
closed_same v x y d e q = go (ltb v x) (ltb v y) refl refl q
  where
    go : (s t : Bool) → ltb v x ≡ s → ltb v y ≡ t → (if s then x - 1 else x) ≡ (if t then y - 1 else y) → x ≡ y
    go true true a b h = omega (arith, ltb-true v x a, ltb-true v y b)
    go true false a b h = omega (arith, ltb-true v x a, ltb-false v y b, d, e)
    go false true a b h = omega (arith, ltb-false v x a, ltb-true v y b, d, e)
    go false false a b h = h

abbrev Below : ℕ → ℕ → (ℕ → ℕ) → Type 0
Below m n f = (i : ℕ) → i < m → f i < n

abbrev Different : ℕ → (ℕ → ℕ) → Type 0
Different m f = (i j : ℕ) → i < m → j < m → f i ≡ f j → i ≡ j

-- ---- more numbers than there are

pub no_room : (n : ℕ) (f : ℕ → ℕ) → Below (suc n) n f → Different (suc n) f → ⊥
no_room zero f b d = omega (arith, b 0 (omega arith))
no_room (suc n) f b d =
    let other : (i : ℕ) → i < suc n → f i ≡ f (suc n) → ⊥ = λ i l e. omega (arith, d i (suc n) (omega arith) (omega arith) e) in
    no_room n (λ i. closed (f (suc n)) (f i))
    (λ i l. closed-below n (f (suc n)) (f i) (b (suc n) (omega arith)) (b i (omega arith)) (other i l))
    (λ i j k l e. d i j (omega arith) (omega arith) (closed_same (f (suc n)) (f i) (f j) (other i k) (other j l) e))

-- ---- none is left out

found : (f : ℕ → ℕ) (k m : ℕ) → ((r : ℕ) × (r < m) × (f r ≡ k)) ⊎ ((r : ℕ) → r < m → f r ≡ k → ⊥)
found f k zero = inr (λ r l e. omega arith)
found f k (suc m) = go (eqb (f m) k) refl (found f k m)
  where
    go : (t : Bool) → eqb (f m) k ≡ t → ((r : ℕ) × (r < m) × (f r ≡ k)) ⊎ ((r : ℕ) → r < m → f r ≡ k → ⊥)
        → ((r : ℕ) × (r < suc m) × (f r ≡ k)) ⊎ ((r : ℕ) → r < suc m → f r ≡ k → ⊥)
    go true e h = inl (m, omega arith, eqb-true (f m) k e)
    go false e (inl h) = inl (h.0, omega (arith, h.1), h.2)
    go false e (inr h) = inr (λ r l q. last r l q (ltb r m) refl)
      where
        last : (r : ℕ) → r < suc m → f r ≡ k → (t : Bool) → ltb r m ≡ t → ⊥
        last r l q true u = h r (ltb-true r m u) q
        last r l q false u = let z : m ≡ r = omega (arith, ltb-false r m u) in eqb-false (f m) k e (ap f z ∙ q)

pub each_stands : (n : ℕ) (f : ℕ → ℕ) → Below n n f → Different n f → (k : ℕ) → k < n → (r : ℕ) × (r < n) × (f r ≡ k)
each_stands zero f b d k h = absurd (omega arith)
each_stands (suc n) f b d k h = go (found f k (suc n))
  where
    go : ((r : ℕ) × (r < suc n) × (f r ≡ k)) ⊎ ((r : ℕ) → r < suc n → f r ≡ k → ⊥) → (r : ℕ) × (r < suc n) × (f r ≡ k)
    go (inl q) = q
    go (inr q) =
        absurd (no_room n (λ i. closed k (f i))
        (λ i l. closed-below n k (f i) h (b i l) (q i l))
        (λ i j a c e. d i j a c (closed_same k (f i) (f j) (q i a) (q j c) e)))
