-- Masks as sets of taxa: which bits are on, and what the operations do to them, over natural numbers of any size.
--
--   On m i       taxon i is in the mask m, as a type
--   Sub a b      every taxon of a is in b
--   Dis a b      no taxon is in both
--   ext          masks with the same taxa are one mask
use Rattle.std.specs.Prelude.{ℕ, zero, suc, ◌+◌, ◌*◌, ◌/◌, ◌%◌, ◌^◌, ◌≤◌, ◌<◌, min, max, ◌≡◌, refl, ◌⊎◌}
use native.Mathlib.Omega.{arith}
use Rattle.std.proofs.Common.{pow-suc, mul_comm, ap, sym, ◌∙◌, subst, inl, inr}
use Rattle.std.proofs.Math.Nat.{div-div-eq-div-mul, zero-div}
use Rattle.std.proofs.Math.Path.{ap₂}
use Rattle.std.proofs.Math.Arith.{bin_ind}
use Rattle.std.specs.Int.Bits.{bit_and, bit_or, bit_xor, and_step, or_step, xor_step, xor_add_and, differ}
use Rattle.std.proofs.lemmas.Nat.{and_shr, or_shr, xor_shr, and_comm, and_le_r, or_disjoint}

unfoldable pub On : ℕ → ℕ → Type 0
On m i = m / 2 ^ i % 2 ≡ 1

pub even_odd : (a : ℕ) → (a % 2 ≡ 0) ⊎ (a % 2 ≡ 1)
even_odd a = go (a % 2) (omega arith)
  where
    go : (k : ℕ) → k < 2 → (k ≡ 0) ⊎ (k ≡ 1)
    go zero h = inl refl
    go (suc zero) h = inr refl
    go (suc (suc k)) h = absurd (omega arith)

pub on? : (m i : ℕ) → (On m i → ⊥) ⊎ On m i
unfolding On
on? m i = go (even_odd (m / 2 ^ i))
  where
    go : (m / 2 ^ i % 2 ≡ 0) ⊎ (m / 2 ^ i % 2 ≡ 1) → (m / 2 ^ i % 2 ≡ 1 → ⊥) ⊎ (m / 2 ^ i % 2 ≡ 1)
    go (inl e) = inl (λ h. omega arith)
    go (inr e) = inr e

and-odd : (a b : ℕ) → bit_and a b % 2 ≡ min (a % 2) (b % 2)
and-odd a b = let e = and_step a b in omega arith

or-odd : (a b : ℕ) → bit_or a b % 2 ≡ max (a % 2) (b % 2)
or-odd a b = let e = or_step a b in omega arith

module _ (a b i : ℕ) where
  and-bit : bit_and a b / 2 ^ i % 2 ≡ min (a / 2 ^ i % 2) (b / 2 ^ i % 2)
  and-bit = ap (λ (x : ℕ). x % 2) (and_shr a b i) ∙ and-odd (a / 2 ^ i) (b / 2 ^ i)

  or-bit : bit_or a b / 2 ^ i % 2 ≡ max (a / 2 ^ i % 2) (b / 2 ^ i % 2)
  or-bit = ap (λ (x : ℕ). x % 2) (or_shr a b i) ∙ or-odd (a / 2 ^ i) (b / 2 ^ i)

  pub on_and : On a i → On b i → On (bit_and a b) i
  unfolding On
  on_and h k = let e = and-bit in omega arith

  pub and-on : On (bit_and a b) i → On a i × On b i
  unfolding On
  and-on h = let e = and-bit in (omega arith, omega arith)

  pub on-or-l : On a i → On (bit_or a b) i
  unfolding On
  on-or-l h = let e = or-bit in omega arith

  pub on-or-r : On b i → On (bit_or a b) i
  unfolding On
  on-or-r h = let e = or-bit in omega arith

  pub or-on : On (bit_or a b) i → (On a i → ⊥) → On b i
  unfolding On
  or-on h k = let e = or-bit in let z : a / 2 ^ i % 2 ≡ 0 = no_one (a / 2 ^ i) k in omega arith
    where
      no_one : (x : ℕ) → (x % 2 ≡ 1 → ⊥) → x % 2 ≡ 0
      no_one x f = omega (arith, f)

-- masks with the same bits on are one mask
halves : (a b : ℕ) → a / 2 ≡ b / 2 → a % 2 ≡ b % 2 → a ≡ b
halves a b h k = omega arith

same-odd : (a b : ℕ) → (a % 2 ≡ 1 → b % 2 ≡ 1) → (b % 2 ≡ 1 → a % 2 ≡ 1) → a % 2 ≡ b % 2
same-odd a b f g = go (even_odd a) (even_odd b)
  where
    go : (a % 2 ≡ 0) ⊎ (a % 2 ≡ 1) → (b % 2 ≡ 0) ⊎ (b % 2 ≡ 1) → a % 2 ≡ b % 2
    go (inl x) (inl y) = omega arith
    go (inl x) (inr y) = omega (arith, g y)
    go (inr x) (inl y) = omega (arith, f x)
    go (inr x) (inr y) = omega arith

pub shift : (a i : ℕ) → a / 2 / 2 ^ i ≡ a / 2 ^ suc i
shift a i = div-div-eq-div-mul a 2 (2 ^ i) ∙ ap (λ (x : ℕ). a / x) (mul_comm 2 (2 ^ i) ∙ sym (pow-suc 2 i))

pub on-shift : (a i : ℕ) → On a (suc i) → On (a / 2) i
unfolding On
on-shift a i h = ap (λ (x : ℕ). x % 2) (shift a i) ∙ h

pub shift-on : (a i : ℕ) → On (a / 2) i → On a (suc i)
unfolding On
shift-on a i h = ap (λ (x : ℕ). x % 2) (sym (shift a i)) ∙ h

pub on-first : (a : ℕ) → a % 2 ≡ 1 → On a 0
unfolding On
on-first a h = omega arith

pub first_on : (a : ℕ) → On a 0 → a % 2 ≡ 1
unfolding On
first_on a h = omega arith

pub off_zero : (i : ℕ) → On 0 i → ⊥
unfolding On
off_zero i h = let z : 0 / 2 ^ i ≡ 0 = zero-div (2 ^ i) in omega (arith, ap (λ (x : ℕ). x % 2) z)

pub none-on : (b : ℕ) → ((i : ℕ) → On b i → ⊥) → b ≡ 0
none-on = bin_ind (λ (b : ℕ). ((i : ℕ) → On b i → ⊥) → b ≡ 0) (λ h. refl)
    (λ b ih h.
    let z : b / 2 ≡ 0 = ih (λ i k. h (suc i) (shift-on b i k)) in
    let o : b % 2 ≡ 1 → ⊥ = λ k. h 0 (on-first b k) in
    omega (arith, o))

-- a lies within b
abbrev pub Sub : ℕ → ℕ → Type 0
Sub a b = (i : ℕ) → On a i → On b i

-- a and b have nothing in common
abbrev pub Dis : ℕ → ℕ → Type 0
Dis a b = (i : ℕ) → On a i → On b i → ⊥

pub ext : (a b : ℕ) → Sub a b → Sub b a → a ≡ b
ext = bin_ind (λ (a : ℕ). (b : ℕ) → Sub a b → Sub b a → a ≡ b) (λ b f g. sym (none-on b (λ i h. off_zero i (g i h))))
    (λ a ih b f g.
    halves a b (ih (b / 2) (λ i h. on-shift b i (f (suc i) (shift-on a i h))) (λ i h. on-shift a i (g (suc i) (shift-on b i h))))
    (same-odd a b (λ h. first_on b (f 0 (on-first a h))) (λ h. first_on a (g 0 (on-first b h)))))

pub sub-and : (a b : ℕ) → Sub a b → bit_and a b ≡ a
sub-and a b h = ext (bit_and a b) a (λ i k. (and-on a b i k).0) (λ i k. on_and a b i k (h i k))

pub and-sub : (a b : ℕ) → bit_and a b ≡ a → Sub a b
and-sub a b e i h = (and-on a b i (subst (λ (x : ℕ). On x i) (sym e) h)).1

pub and-dis : (a b : ℕ) → bit_and a b ≡ 0 → Dis a b
and-dis a b e i h k = off_zero i (subst (λ (x : ℕ). On x i) e (on_and a b i h k))

pub sub-le : (a b : ℕ) → Sub a b → a ≤ b
sub-le a b h = subst (λ (x : ℕ). x ≤ b) (sub-and a b h) (and_le_r a b)

-- ---- taking a part away
pub xor-odd : (a b : ℕ) → bit_xor a b % 2 ≡ differ (a % 2) (b % 2)
xor-odd a b = go (even_odd a) (even_odd b)
  where
    go : (a % 2 ≡ 0) ⊎ (a % 2 ≡ 1) → (b % 2 ≡ 0) ⊎ (b % 2 ≡ 1) → bit_xor a b % 2 ≡ differ (a % 2) (b % 2)
    go (inl x) (inl y) = let e = xor_step a b ∙ ap₂ (λ (u v : ℕ). bit_xor (a / 2) (b / 2) * 2 + differ u v) x y in ap (λ (u : ℕ). u % 2) e ∙ omega arith ∙ sym (ap₂ differ x y)
    go (inl x) (inr y) = let e = xor_step a b ∙ ap₂ (λ (u v : ℕ). bit_xor (a / 2) (b / 2) * 2 + differ u v) x y in ap (λ (u : ℕ). u % 2) e ∙ omega arith ∙ sym (ap₂ differ x y)
    go (inr x) (inl y) = let e = xor_step a b ∙ ap₂ (λ (u v : ℕ). bit_xor (a / 2) (b / 2) * 2 + differ u v) x y in ap (λ (u : ℕ). u % 2) e ∙ omega arith ∙ sym (ap₂ differ x y)
    go (inr x) (inr y) = let e = xor_step a b ∙ ap₂ (λ (u v : ℕ). bit_xor (a / 2) (b / 2) * 2 + differ u v) x y in ap (λ (u : ℕ). u % 2) e ∙ omega arith ∙ sym (ap₂ differ x y)

module _ (a b i : ℕ) where
  xor-bit : bit_xor a b / 2 ^ i % 2 ≡ differ (a / 2 ^ i % 2) (b / 2 ^ i % 2)
  xor-bit = ap (λ (x : ℕ). x % 2) (xor_shr a b i) ∙ xor-odd (a / 2 ^ i) (b / 2 ^ i)

  pub on_xor : On a i → (On b i → ⊥) → On (bit_xor a b) i
  unfolding On
  on_xor h k = xor-bit ∙ ap₂ differ h (no_one (b / 2 ^ i) k)
    where
      no_one : (x : ℕ) → (x % 2 ≡ 1 → ⊥) → x % 2 ≡ 0
      no_one x f = omega (arith, f)

  pub xor-off : On a i → On b i → On (bit_xor a b) i → ⊥
  unfolding On
  xor-off h k e = let z : bit_xor a b / 2 ^ i % 2 ≡ 0 = xor-bit ∙ ap₂ differ h k in omega arith

  pub xor-on : On (bit_xor a b) i → (On b i → On a i) → On a i
  unfolding On
  xor-on h f = go (even_odd (b / 2 ^ i)) (even_odd (a / 2 ^ i))
    where
      go : (b / 2 ^ i % 2 ≡ 0) ⊎ (b / 2 ^ i % 2 ≡ 1) → (a / 2 ^ i % 2 ≡ 0) ⊎ (a / 2 ^ i % 2 ≡ 1) → a / 2 ^ i % 2 ≡ 1
      go (inr x) y = f x
      go (inl x) (inr y) = y
      go (inl x) (inl y) = let z : bit_xor a b / 2 ^ i % 2 ≡ 0 = xor-bit ∙ ap₂ differ y x in absurd (omega arith)

-- r without x, where x lies within r
module _ (r x : ℕ) (h : Sub x r) where
  pub less-sub : Sub (bit_xor r x) r
  less-sub i k = xor-on r x i k (h i)

  pub less-dis : Dis x (bit_xor r x)
  less-dis i k l = xor-off r x i (h i k) k l

  pub less-or : bit_or x (bit_xor r x) ≡ r
  less-or = ext (bit_or x (bit_xor r x)) r (λ i k. go i k (on? x i)) (λ i k. back i k (on? x i))
    where
      go : (i : ℕ) → On (bit_or x (bit_xor r x)) i → (On x i → ⊥) ⊎ On x i → On r i
      go i k (inl f) = less-sub i (or-on x (bit_xor r x) i k f)
      go i k (inr o) = h i o

      back : (i : ℕ) → On r i → (On x i → ⊥) ⊎ On x i → On (bit_or x (bit_xor r x)) i
      back i k (inl f) = on-or-r x (bit_xor r x) i (on_xor r x i k f)
      back i k (inr o) = on-or-l x (bit_xor r x) i o

  pub less-lt : 0 < x → bit_xor r x < r
  less-lt z = omega (arith, xor_add_and r x, and_comm r x, sub-and x r h, sub-le x r h)

-- ---- one bit
pub pow-half : (i : ℕ) → 2 ^ suc i / 2 ≡ 2 ^ i
pow-half i = let e = pow-suc 2 i in omega arith

pub self-on : (i : ℕ) → On (2 ^ i) i
self-on zero = on-first (2 ^ 0) refl
self-on (suc i) = shift-on (2 ^ suc i) i (subst (λ (x : ℕ). On x i) (sym (pow-half i)) (self-on i))

pub only-on : (i j : ℕ) → On (2 ^ i) j → i ≡ j
only-on zero zero h = refl
only-on zero (suc j) h = absurd (off_zero j (on-shift 1 j h))
only-on (suc i) zero h = let e = pow-suc 2 i in absurd (omega (arith, first_on (2 ^ suc i) h))
only-on (suc i) (suc j) h = ap suc (only-on i j (subst (λ (x : ℕ). On x j) (pow-half i) (on-shift (2 ^ suc i) j h)))

pub dis-and : (a b : ℕ) → Dis a b → bit_and a b ≡ 0
dis-and a b d = none-on (bit_and a b) (λ i h. let k = and-on a b i h in d i k.0 k.1)

pub less-add : (r x : ℕ) → Sub x r → x + bit_xor r x ≡ r
less-add r x h = omega (arith, xor_add_and r x, and_comm r x, sub-and x r h, sub-le x r h)

-- what was seen, with x, has nothing of the rest
pub dis-more : (seen r x : ℕ) → Sub x r → Dis seen r → Dis (seen + x) (bit_xor r x)
dis-more seen r x h d i a b = go (on? seen i)
  where
    o : On (bit_or seen x) i
    o = subst (λ (z : ℕ). On z i) (sym (or_disjoint seen x (dis-and seen x (λ j u v. d j u (h j v))))) a

    go : (On seen i → ⊥) ⊎ On seen i → ⊥
    go (inl f) = less-dis r x h i (or-on seen x i o f) b
    go (inr k) = d i k (less-sub r x h i b)
