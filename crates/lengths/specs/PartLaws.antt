-- The parts of a length: a sign, digits with a point or none, an exponent. Assumes nothing.
--
--   digit-no-point, digit-no-e, point-no-e   a byte is of one class at most
--   sign-is                                  which bytes are signs
--   number_append, every_append, every-behind     digits behind others
--   first-e                         what begins with an exponent begins with e or E
--   Stops r, NoPoint r              r does not begin with a digit, with a point
--   Parted w ds fs r                the bytes w of a length behind its sign: digits ds, digits fs behind a point or none, an exponent r or nothing
--   whole-parted, point-parted      what was read without and with a point
--   length-unsigned                 the value by what stands behind the sign
--   length_digits, length-exponent, exponent-digits, all_digits     where digits stand
use Rattle.std.specs.Prelude.{ℕ, ◌+◌, ◌-◌, ◌*◌, ◌≤◌, ◌≡◌, ◌⊎◌, Bool, true, false, ◌||◌, List, [], ◌∷◌, ◌++◌, leb, eqb, pos, ◌-ℤ◌, length, get_or, if◌then◌else◌}
use Rattle.std.proofs.Common.{arith, sym, ap, ◌∙◌, inl, inr, append-nil, leb-true, eqb-true, ne_eqb, eq-eqb}
use Rattle.std.proofs.Math.Path.{refl}
use Rattle.std.proofs.Math.Bool.{false≢true}
use Rattle.trees.specs.Plain.{every}
use Rattle.trees.specs.Length.{is_digit, is_sign, is_point, is_e, is_digits, unsigned, without_point, before_e, from_e, is_decimal, is_exponent, is_length}
use Rattle.trees.specs.Value.{number_from, behind_point, is_minus, joined_digits, exponent, power, measured, length_of}
use Rattle.theorems.specs.ListLaws.{and_left, and_right, or_cases}

-- ---- a byte is of one class at most

pub digit-no-point : (b : ℕ) → is_digit b ≡ true → is_point b ≡ false
unfolding is_digit is_point
digit-no-point b h = ne_eqb b 46 (λ e. omega (arith, leb-true 48 b (and_left (leb 48 b) (leb b 57) h)))

either-false : (x y : Bool) → x ≡ false → y ≡ false → (x || y) ≡ false
either-false x y p q = rw (p, q)

pub digit-no-e : (b : ℕ) → is_digit b ≡ true → is_e b ≡ false
unfolding is_digit is_e
digit-no-e b h =
    let l : b ≤ 57 = leb-true b 57 (and_right (leb 48 b) (leb b 57) h) in
    either-false (eqb b 101) (eqb b 69) (ne_eqb b 101 (λ e. omega arith)) (ne_eqb b 69 (λ e. omega arith))

pub point-no-e : (b : ℕ) → b ≡ 46 → is_e b ≡ false
unfolding is_e
point-no-e b h = either-false (eqb b 101) (eqb b 69) (ne_eqb b 101 (λ e. omega arith)) (ne_eqb b 69 (λ e. omega arith))

pub sign-is : (b : ℕ) → is_sign b ≡ true → (b ≡ 43) ⊎ (b ≡ 45)
unfolding is_sign
sign-is b h = elim (or_cases (eqb b 43) (eqb b 45) h) [ inl e ↦ inl (eqb-true b 43 e) | inr e ↦ inr (eqb-true b 45 e) ]

sign-no-e : (b : ℕ) → is_sign b ≡ true → is_e b ≡ false
unfolding is_e
sign-no-e b h = go (sign-is b h)
  where
    go : (b ≡ 43) ⊎ (b ≡ 45) → (eqb b 101 || eqb b 69) ≡ false
    go (inl e) = either-false (eqb b 101) (eqb b 69) (ne_eqb b 101 (λ f. omega arith)) (ne_eqb b 69 (λ f. omega arith))
    go (inr e) = either-false (eqb b 101) (eqb b 69) (ne_eqb b 101 (λ f. omega arith)) (ne_eqb b 69 (λ f. omega arith))

sign-no-point : (b : ℕ) → is_sign b ≡ true → is_point b ≡ false
unfolding is_point
sign-no-point b h = go (sign-is b h)
  where
    go : (b ≡ 43) ⊎ (b ≡ 45) → eqb b 46 ≡ false
    go (inl e) = ne_eqb b 46 (λ f. omega arith)
    go (inr e) = ne_eqb b 46 (λ f. omega arith)

-- ---- digits in front

pub number_append : (m : ℕ) (v w : List ℕ) → number_from m (v ++ w) ≡ number_from (number_from m v) w
unfolding number_from
number_append m [] w = refl
number_append m (b ∷ v) w = number_append (10 * m + (b - 48)) v w

pub every_append : (v w : List ℕ) → every is_digit v ≡ true → every is_digit w ≡ true → every is_digit (v ++ w) ≡ true
unfolding every
every_append [] w h k = k
every_append (b ∷ v) w h k = rw (and_left (is_digit b) (every is_digit v) h) (every_append v w (and_right (is_digit b) (every is_digit v) h) k)

pub every-behind : (v w : List ℕ) → every is_digit (v ++ w) ≡ true → every is_digit w ≡ true
unfolding every
every-behind [] w h = h
every-behind (b ∷ v) w h = every-behind v w (and_right (is_digit b) (every is_digit (v ++ w)) h)

digits-before_e : (ds r : List ℕ) → every is_digit ds ≡ true → before_e (ds ++ r) ≡ ds ++ before_e r
unfolding before_e every
digits-before_e [] r h = refl
digits-before_e (d ∷ ds) r h = rw (digit-no-e d (and_left (is_digit d) (every is_digit ds) h)) (ap (λ (l : List ℕ). d ∷ l) (digits-before_e ds r (and_right (is_digit d) (every is_digit ds) h)))

digits-from_e : (ds r : List ℕ) → every is_digit ds ≡ true → from_e (ds ++ r) ≡ from_e r
unfolding from_e every
digits-from_e [] r h = refl
digits-from_e (d ∷ ds) r h = rw (digit-no-e d (and_left (is_digit d) (every is_digit ds) h)) (digits-from_e ds r (and_right (is_digit d) (every is_digit ds) h))

digits-without_point : (ds r : List ℕ) → every is_digit ds ≡ true → without_point (ds ++ r) ≡ ds ++ without_point r
unfolding without_point every
digits-without_point [] r h = refl
digits-without_point (d ∷ ds) r h = rw (digit-no-point d (and_left (is_digit d) (every is_digit ds) h)) (ap (λ (l : List ℕ). d ∷ l) (digits-without_point ds r (and_right (is_digit d) (every is_digit ds) h)))

digits-behind_point : (ds r : List ℕ) → every is_digit ds ≡ true → behind_point (ds ++ r) ≡ behind_point r
unfolding behind_point every
digits-behind_point [] r h = refl
digits-behind_point (d ∷ ds) r h = rw (digit-no-point d (and_left (is_digit d) (every is_digit ds) h)) (digits-behind_point ds r (and_right (is_digit d) (every is_digit ds) h))

pub first-e : (w : List ℕ) (c : ℕ) (r : List ℕ) → from_e w ≡ c ∷ r → is_e c ≡ true
unfolding from_e
first-e [] c r h = absurd (omega (arith, ap length h))
first-e (b ∷ w) c r h = go (is_e b) refl h (first-e w c r)
  where
    go : (t : Bool) → is_e b ≡ t → (if t then b ∷ w else from_e w) ≡ c ∷ r → (from_e w ≡ c ∷ r → is_e c ≡ true) → is_e c ≡ true
    go true e k f = ap (λ (l : List ℕ). is_e (get_or l 0 0)) (sym k) ∙ e
    go false e k f = f k

-- ---- the parts of a length behind its sign

-- r does not begin with a digit; not with a point
unfoldable pub Stops : List ℕ → Type 0
Stops [] = Unit
Stops (c ∷ r) = is_digit c ≡ false

unfoldable pub NoPoint : List ℕ → Type 0
NoPoint [] = Unit
NoPoint (c ∷ r) = is_point c ≡ false

-- behind the last digit nothing stands, or an exponent
ends : (r : List ℕ) → Stops r → every is_digit (before_e r) ≡ true → (before_e r ≡ []) × (from_e r ≡ r)
unfolding Stops before_e from_e every
ends [] s h = (refl, refl)
ends (c ∷ r) s h = go (is_e c) h
  where
    go : (b : Bool) → every is_digit (if b then [] else c ∷ before_e r) ≡ true → ((if b then [] else c ∷ before_e r) ≡ []) × ((if b then c ∷ r else from_e r) ≡ c ∷ r)
    go true h = (refl, refl)
    go false h = absurd (false≢true (sym s ∙ and_left (is_digit c) (every is_digit (before_e r)) h))

ends-whole : (r : List ℕ) → Stops r → NoPoint r → every is_digit (without_point (before_e r)) ≡ true → (before_e r ≡ []) × (from_e r ≡ r)
unfolding Stops NoPoint before_e from_e every without_point
ends-whole [] s p h = (refl, refl)
ends-whole (c ∷ r) s p h = go (is_e c) h
  where
    go : (b : Bool) → every is_digit (without_point (if b then [] else c ∷ before_e r)) ≡ true → ((if b then [] else c ∷ before_e r) ≡ []) × ((if b then c ∷ r else from_e r) ≡ c ∷ r)
    go true h = (refl, refl)
    go false h = absurd (false≢true (sym s ∙ and_left (is_digit c) (every is_digit (without_point (before_e r))) (rw p at h)))

pub record Parted (w ds fs r : List ℕ) : Type 0 where
  pub digits : without_point (before_e w) ≡ ds ++ fs
  pub behind : behind_point (before_e w) ≡ fs
  pub rest : from_e w ≡ r

pub whole-parted : (ds r : List ℕ) → every is_digit ds ≡ true → Stops r → NoPoint r → every is_digit (without_point (before_e (ds ++ r))) ≡ true → Parted (ds ++ r) ds [] r
whole-parted ds r h s p v =
    let b = digits-before_e ds r h in
    let q = digits-without_point ds (before_e r) h in
    let k = ends-whole r s p (every-behind ds (without_point (before_e r)) (rw (← q, ← b) v)) in
    record {
      digits = rw (b, q, k.0) (unfold without_point in refl);
      behind = rw (b, digits-behind_point ds (before_e r) h, k.0) (unfold behind_point in refl);
      rest = rw (digits-from_e ds r h) k.1;
    }

pub point-parted : (ds fs r : List ℕ) (c : ℕ) → c ≡ 46 → every is_digit ds ≡ true → every is_digit fs ≡ true → Stops r
    → every is_digit (without_point (before_e (ds ++ (c ∷ (fs ++ r))))) ≡ true → Parted (ds ++ (c ∷ (fs ++ r))) ds fs r
unfolding before_e from_e without_point behind_point is_point
point-parted ds fs r c z h g s v =
    let b : before_e (ds ++ (c ∷ (fs ++ r))) ≡ ds ++ (c ∷ (fs ++ before_e r)) = digits-before_e ds (c ∷ (fs ++ r)) h ∙ rw (point-no-e c z) (ap (λ (l : List ℕ). ds ++ (c ∷ l)) (digits-before_e fs r g)) in
    let q : without_point (ds ++ (c ∷ (fs ++ before_e r))) ≡ ds ++ (fs ++ before_e r) = digits-without_point ds (c ∷ (fs ++ before_e r)) h ∙ rw (eq-eqb c 46 z) in
    let k = ends r s (every-behind fs (before_e r) (every-behind ds (fs ++ before_e r) (rw (← q, ← b) v))) in
    record {
      digits = rw (b, q, k.0, append-nil fs);
      behind = rw (b, digits-behind_point ds (c ∷ (fs ++ before_e r)) h, eq-eqb c 46 z, k.0, append-nil fs);
      rest = digits-from_e ds (c ∷ (fs ++ r)) h ∙ rw (point-no-e c z) (digits-from_e fs r g ∙ k.1);
    }

-- ---- the sign

-- what stands behind the sign decides all but the sign
sign-before : (w : List ℕ) → unsigned (before_e w) ≡ before_e (unsigned w)
unfolding unsigned before_e
sign-before [] = refl
sign-before (b ∷ w) = go (is_sign b) refl
  where
    left : is_sign b ≡ false → (x : Bool) → unsigned (if x then [] else b ∷ before_e w) ≡ (if x then [] else b ∷ before_e w)
    left e true = refl
    left e false = rw e

    go : (t : Bool) → is_sign b ≡ t → unsigned (before_e (b ∷ w)) ≡ before_e (if t then w else b ∷ w)
    go true e = rw (sign-no-e b e, e)
    go false e = left e (is_e b)

sign-from : (w : List ℕ) → from_e w ≡ from_e (unsigned w)
unfolding unsigned from_e
sign-from [] = refl
sign-from (b ∷ w) = go (is_sign b) refl
  where
    go : (t : Bool) → is_sign b ≡ t → from_e (b ∷ w) ≡ from_e (if t then w else b ∷ w)
    go true e = rw (sign-no-e b e)
    go false e = refl

sign-behind : (w : List ℕ) → behind_point (before_e w) ≡ behind_point (before_e (unsigned w))
unfolding unsigned before_e behind_point
sign-behind [] = refl
sign-behind (b ∷ w) = go (is_sign b) refl
  where
    go : (t : Bool) → is_sign b ≡ t → behind_point (before_e (b ∷ w)) ≡ behind_point (before_e (if t then w else b ∷ w))
    go true e = rw (sign-no-e b e, sign-no-point b e)
    go false e = refl

pub length-unsigned : (w : List ℕ) → length_of w ≡ measured (is_minus w) (number_from 0 (without_point (before_e (unsigned w)))) (exponent (from_e (unsigned w)) -ℤ pos (length (behind_point (before_e (unsigned w)))))
unfolding length_of joined_digits power
length-unsigned w = rw (sign-before w, ← sign-from w, ← sign-behind w)

-- what a length has behind its sign: digits and a point, then an exponent
pub length_digits : (w : List ℕ) → is_length w ≡ true → every is_digit (without_point (before_e (unsigned w))) ≡ true
unfolding is_length is_decimal
length_digits w h = rw (← sign-before w) (some-digits (without_point (unsigned (before_e w))) (and_left (is_digits (without_point (unsigned (before_e w)))) (is_exponent (from_e w)) h))
  where
    some-digits : (v : List ℕ) → is_digits v ≡ true → every is_digit v ≡ true
    some-digits [] h = unfold every in refl
    some-digits (b ∷ v) h = h

pub length-exponent : (w : List ℕ) → is_length w ≡ true → is_exponent (from_e (unsigned w)) ≡ true
unfolding is_length
length-exponent w h = rw (← sign-from w) (and_right (is_decimal (before_e w)) (is_exponent (from_e w)) h)

pub exponent-digits : (c : ℕ) (w : List ℕ) → is_exponent (c ∷ w) ≡ true → every is_digit (unsigned w) ≡ true
unfolding is_exponent
exponent-digits c w h = go (unsigned w) h
  where
    go : (v : List ℕ) → is_digits v ≡ true → every is_digit v ≡ true
    go [] h = unfold every in refl
    go (b ∷ v) h = h

-- digits that stop are all the digits
pub all_digits : (ds r : List ℕ) → Stops r → every is_digit (ds ++ r) ≡ true → ds ≡ ds ++ r
all_digits ds r s h = rw (nothing r s (every-behind ds r h)) (sym (append-nil ds))
  where
    nothing : (r : List ℕ) → Stops r → every is_digit r ≡ true → r ≡ []
    nothing [] s h = refl
    nothing (c ∷ r) s h = absurd (unfold Stops every in false≢true (sym s ∙ and_left (is_digit c) (every is_digit r) h))
