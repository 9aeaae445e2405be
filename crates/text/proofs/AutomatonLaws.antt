-- The automaton accepts exactly the lengths.
--
--   Rest q w       what a length that has come to q still wants: w makes it a length
--   accepts        what it comes to with w may end there exactly if w is what it still wanted
--   quote-length   what begins with an apostrophe is no length
use Prim.Native.Nat.{ℕ, zero, suc, ◌<◌, ◌≤◌}
use native.Mathlib.Omega.{arith}
use mathlib.Core.Path.{◌≡◌, refl, ap, sym, ◌∙◌}
use mathlib.Core.Logic.{◌⊎◌, inl, inr, ⊎_elim}
use mathlib.Core.Bool.{Bool, true, false, ◌&&◌, ◌||◌}
use mathlib.Core.List.{List, [], ◌∷◌}
use lib.Dec.{leb, eqb}
use borrow.Author.Tests.{leb-true, lt-leb, eqb-true, ne_eqb}
use Rattle.std.specs.Prelude.{if◌then◌else◌}
use Rattle.trees.specs.Plain.{every}
use Rattle.trees.specs.Text.{apostrophe}
use Rattle.trees.specs.Length.{is_digit, is_sign, is_point, is_e, is_digits, unsigned, without_point, before_e, from_e, is_decimal, is_exponent, is_length}
use Rattle.theorems.specs.ListLaws.{and_left, and_right, or_cases}
use Rattle.text.specs.Automaton.{byte_class, move, run, is_end}

Rest : ℕ → List ℕ → Bool
Rest zero w = is_length w
Rest (suc zero) w = is_digits (without_point (before_e w)) && is_exponent (from_e w)
Rest (suc (suc zero)) w = every is_digit (without_point (before_e w)) && is_exponent (from_e w)
Rest (suc (suc (suc zero))) w = is_digits (before_e w) && is_exponent (from_e w)
Rest (suc (suc (suc (suc zero)))) w = every is_digit (before_e w) && is_exponent (from_e w)
Rest (suc (suc (suc (suc (suc zero))))) w = is_digits (unsigned w)
Rest (suc (suc (suc (suc (suc (suc zero)))))) w = is_digits w
Rest (suc (suc (suc (suc (suc (suc (suc zero))))))) w = every is_digit w
Rest (suc (suc (suc (suc (suc (suc (suc (suc q)))))))) w = false

-- ---- a byte is of one class at most

-- whether it is a digit, a sign, the point, an e
record Is (b : ℕ) (d s p e : Bool) : Type 0 where
  digit : is_digit b ≡ d
  sign : is_sign b ≡ s
  point : is_point b ≡ p
  letter : is_e b ≡ e

no_digit : (b : ℕ) → (b < 48) ⊎ (57 < b) → is_digit b ≡ false
unfolding is_digit
no_digit b (inl h) = ap (λ t. t && leb b 57) (lt-leb 48 b h)
no_digit b (inr h) = ap (λ t. leb 48 b && t) (lt-leb b 57 h) ∙ and-false (leb 48 b)
  where
    and-false : (t : Bool) → (t && false) ≡ false
    and-false true = refl
    and-false false = refl

neither : (b x y : ℕ) → (b ≡ x → ⊥) → (b ≡ y → ⊥) → (eqb b x || eqb b y) ≡ false
neither b x y f g = ap (λ t. t || eqb b y) (ne_eqb b x f) ∙ ne_eqb b y g

is_digit_lem : (b : ℕ) → is_digit b ≡ true → Is b true false false false
unfolding is_digit is_sign is_point is_e
is_digit_lem b h =
    let l : 48 ≤ b = leb-true 48 b (and_left (leb 48 b) (leb b 57) h) in
    let m : b ≤ 57 = leb-true b 57 (and_right (leb 48 b) (leb b 57) h) in
    record { digit = h; sign = neither b 43 45 (λ q. omega arith) (λ q. omega arith); point = ne_eqb b 46 (λ q. omega arith); letter = neither b 101 69 (λ q. omega arith) (λ q. omega arith) }

is-sign : (b : ℕ) → is_sign b ≡ true → Is b false true false false
unfolding is_sign is_point is_e
is-sign b h = ⊎_elim (λ q. go (omega (arith, eqb-true b 43 q)) (omega (arith, eqb-true b 43 q))) (λ q. go (omega (arith, eqb-true b 45 q)) (omega (arith, eqb-true b 45 q))) (or_cases (eqb b 43) (eqb b 45) h)
  where
    go : 42 < b → b < 46 → Is b false true false false
    go l m = record { digit = no_digit b (inl (omega arith)); sign = h; point = ne_eqb b 46 (λ q. omega arith); letter = neither b 101 69 (λ q. omega arith) (λ q. omega arith) }

is-point : (b : ℕ) → is_point b ≡ true → Is b false false true false
unfolding is_sign is_point is_e
is-point b h =
    let e : b ≡ 46 = eqb-true b 46 h in
    record { digit = no_digit b (inl (omega arith)); sign = neither b 43 45 (λ q. omega arith) (λ q. omega arith); point = h; letter = neither b 101 69 (λ q. omega arith) (λ q. omega arith) }

is-letter : (b : ℕ) → is_e b ≡ true → Is b false false false true
unfolding is_sign is_point is_e
is-letter b h = ⊎_elim (λ q. go (omega (arith, eqb-true b 101 q))) (λ q. go (omega (arith, eqb-true b 69 q))) (or_cases (eqb b 101) (eqb b 69) h)
  where
    go : 57 < b → Is b false false false true
    go l = record { digit = no_digit b (inr l); sign = neither b 43 45 (λ q. omega arith) (λ q. omega arith); point = ne_eqb b 46 (λ q. omega arith); letter = h }

-- ---- one byte: with its class known, what is wanted still is what the table says

step-digit : (q b : ℕ) (w : List ℕ) → Is b true false false false → Rest q (b ∷ w) ≡ Rest (move q 0) w
unfolding Rest move is_length is_decimal is_digits unsigned without_point before_e from_e every is_exponent
step-digit zero b w i = simp (i.digit, i.sign, i.point, i.letter)
step-digit (suc zero) b w i = simp (i.digit, i.sign, i.point, i.letter)
step-digit (suc (suc zero)) b w i = simp (i.digit, i.sign, i.point, i.letter)
step-digit (suc (suc (suc zero))) b w i = simp (i.digit, i.sign, i.point, i.letter)
step-digit (suc (suc (suc (suc zero)))) b w i = simp (i.digit, i.sign, i.point, i.letter)
step-digit (suc (suc (suc (suc (suc zero))))) b w i = simp (i.digit, i.sign, i.point, i.letter)
step-digit (suc (suc (suc (suc (suc (suc zero)))))) b w i = simp (i.digit, i.sign, i.point, i.letter)
step-digit (suc (suc (suc (suc (suc (suc (suc zero))))))) b w i = simp (i.digit, i.sign, i.point, i.letter)
step-digit (suc (suc (suc (suc (suc (suc (suc (suc zero)))))))) b w i = refl
step-digit (suc (suc (suc (suc (suc (suc (suc (suc (suc q))))))))) b w i = refl

step-sign : (q b : ℕ) (w : List ℕ) → Is b false true false false → Rest q (b ∷ w) ≡ Rest (move q 1) w
unfolding Rest move is_length is_decimal is_digits unsigned without_point before_e from_e every is_exponent
step-sign zero b w i = simp (i.digit, i.sign, i.point, i.letter)
step-sign (suc zero) b w i = simp (i.digit, i.sign, i.point, i.letter)
step-sign (suc (suc zero)) b w i = simp (i.digit, i.sign, i.point, i.letter)
step-sign (suc (suc (suc zero))) b w i = simp (i.digit, i.sign, i.point, i.letter)
step-sign (suc (suc (suc (suc zero)))) b w i = simp (i.digit, i.sign, i.point, i.letter)
step-sign (suc (suc (suc (suc (suc zero))))) b w i = simp (i.digit, i.sign, i.point, i.letter)
step-sign (suc (suc (suc (suc (suc (suc zero)))))) b w i = simp (i.digit, i.sign, i.point, i.letter)
step-sign (suc (suc (suc (suc (suc (suc (suc zero))))))) b w i = simp (i.digit, i.sign, i.point, i.letter)
step-sign (suc (suc (suc (suc (suc (suc (suc (suc zero)))))))) b w i = refl
step-sign (suc (suc (suc (suc (suc (suc (suc (suc (suc q))))))))) b w i = refl

step-point : (q b : ℕ) (w : List ℕ) → Is b false false true false → Rest q (b ∷ w) ≡ Rest (move q 2) w
unfolding Rest move is_length is_decimal is_digits unsigned without_point before_e from_e every is_exponent
step-point zero b w i = simp (i.digit, i.sign, i.point, i.letter)
step-point (suc zero) b w i = simp (i.digit, i.sign, i.point, i.letter)
step-point (suc (suc zero)) b w i = simp (i.digit, i.sign, i.point, i.letter)
step-point (suc (suc (suc zero))) b w i = simp (i.digit, i.sign, i.point, i.letter)
step-point (suc (suc (suc (suc zero)))) b w i = simp (i.digit, i.sign, i.point, i.letter)
step-point (suc (suc (suc (suc (suc zero))))) b w i = simp (i.digit, i.sign, i.point, i.letter)
step-point (suc (suc (suc (suc (suc (suc zero)))))) b w i = simp (i.digit, i.sign, i.point, i.letter)
step-point (suc (suc (suc (suc (suc (suc (suc zero))))))) b w i = simp (i.digit, i.sign, i.point, i.letter)
step-point (suc (suc (suc (suc (suc (suc (suc (suc zero)))))))) b w i = refl
step-point (suc (suc (suc (suc (suc (suc (suc (suc (suc q))))))))) b w i = refl

step-letter : (q b : ℕ) (w : List ℕ) → Is b false false false true → Rest q (b ∷ w) ≡ Rest (move q 3) w
unfolding Rest move is_length is_decimal is_digits unsigned without_point before_e from_e every is_exponent
step-letter zero b w i = simp (i.digit, i.sign, i.point, i.letter)
step-letter (suc zero) b w i = simp (i.digit, i.sign, i.point, i.letter)
step-letter (suc (suc zero)) b w i = simp (i.digit, i.sign, i.point, i.letter)
step-letter (suc (suc (suc zero))) b w i = simp (i.digit, i.sign, i.point, i.letter)
step-letter (suc (suc (suc (suc zero)))) b w i = simp (i.digit, i.sign, i.point, i.letter)
step-letter (suc (suc (suc (suc (suc zero))))) b w i = simp (i.digit, i.sign, i.point, i.letter)
step-letter (suc (suc (suc (suc (suc (suc zero)))))) b w i = simp (i.digit, i.sign, i.point, i.letter)
step-letter (suc (suc (suc (suc (suc (suc (suc zero))))))) b w i = simp (i.digit, i.sign, i.point, i.letter)
step-letter (suc (suc (suc (suc (suc (suc (suc (suc zero)))))))) b w i = refl
step-letter (suc (suc (suc (suc (suc (suc (suc (suc (suc q))))))))) b w i = refl

step_other : (q b : ℕ) (w : List ℕ) → Is b false false false false → Rest q (b ∷ w) ≡ Rest (move q 4) w
unfolding Rest move is_length is_decimal is_digits unsigned without_point before_e from_e every is_exponent
step_other zero b w i = simp (i.digit, i.sign, i.point, i.letter)
step_other (suc zero) b w i = simp (i.digit, i.sign, i.point, i.letter)
step_other (suc (suc zero)) b w i = simp (i.digit, i.sign, i.point, i.letter)
step_other (suc (suc (suc zero))) b w i = simp (i.digit, i.sign, i.point, i.letter)
step_other (suc (suc (suc (suc zero)))) b w i = simp (i.digit, i.sign, i.point, i.letter)
step_other (suc (suc (suc (suc (suc zero))))) b w i = simp (i.digit, i.sign, i.point, i.letter)
step_other (suc (suc (suc (suc (suc (suc zero)))))) b w i = simp (i.digit, i.sign, i.point, i.letter)
step_other (suc (suc (suc (suc (suc (suc (suc zero))))))) b w i = simp (i.digit, i.sign, i.point, i.letter)
step_other (suc (suc (suc (suc (suc (suc (suc (suc zero)))))))) b w i = refl
step_other (suc (suc (suc (suc (suc (suc (suc (suc (suc q))))))))) b w i = refl

class-is : (b : ℕ) (d s p e : Bool) → Is b d s p e → byte_class b ≡ (if d then 0 else if s then 1 else if p then 2 else if e then 3 else 4)
unfolding byte_class
class-is b d s p e i = simp (i.digit, i.sign, i.point, i.letter)

step : (q b : ℕ) (w : List ℕ) → Rest q (b ∷ w) ≡ Rest (move q (byte_class b)) w
step q b w = go (is_digit b) (is_sign b) (is_point b) (is_e b) refl refl refl refl
  where
    to : (k : ℕ) → Rest q (b ∷ w) ≡ Rest (move q k) w → byte_class b ≡ k → Rest q (b ∷ w) ≡ Rest (move q (byte_class b)) w
    to k f c = f ∙ ap (λ (j : ℕ). Rest (move q j) w) (sym c)

    go : (d s p e : Bool) → is_digit b ≡ d → is_sign b ≡ s → is_point b ≡ p → is_e b ≡ e → Rest q (b ∷ w) ≡ Rest (move q (byte_class b)) w
    go true s p e x y z u = let i = is_digit_lem b x in to 0 (step-digit q b w i) (class-is b true false false false i)
    go false true p e x y z u = let i = is-sign b y in to 1 (step-sign q b w i) (class-is b false true false false i)
    go false false true e x y z u = let i = is-point b z in to 2 (step-point q b w i) (class-is b false false true false i)
    go false false false true x y z u = let i = is-letter b u in to 3 (step-letter q b w i) (class-is b false false false true i)
    go false false false false x y z u =
        let i : Is b false false false false = record { digit = x; sign = y; point = z; letter = u } in
        to 4 (step_other q b w i) (class-is b false false false false i)

-- ---- a run of bytes

at-end : (q : ℕ) → is_end q ≡ Rest q []
unfolding Rest is_length is_decimal is_digits unsigned without_point before_e from_e every is_exponent
at-end zero = refl
at-end (suc zero) = refl
at-end (suc (suc zero)) = refl
at-end (suc (suc (suc zero))) = refl
at-end (suc (suc (suc (suc zero)))) = refl
at-end (suc (suc (suc (suc (suc zero))))) = refl
at-end (suc (suc (suc (suc (suc (suc zero)))))) = refl
at-end (suc (suc (suc (suc (suc (suc (suc zero))))))) = refl
at-end (suc (suc (suc (suc (suc (suc (suc (suc q)))))))) = simp (ne_eqb n 2 (λ e. omega arith), ne_eqb n 4 (λ e. omega arith), ne_eqb n 7 (λ e. omega arith))
  where
    n : ℕ
    n = suc (suc (suc (suc (suc (suc (suc (suc q)))))))

accepts : (q : ℕ) (w : List ℕ) → is_end (run q w) ≡ Rest q w
unfolding run
accepts q [] = at-end q
accepts q (b ∷ w) = accepts (move q (byte_class b)) w ∙ sym (step q b w)

pub run_length : (w : List ℕ) → is_end (run 0 w) ≡ is_length w
unfolding Rest
run_length w = accepts 0 w

pub quote-length : (w : List ℕ) → is_length (apostrophe ∷ w) ≡ false
unfolding Rest run move byte_class
quote-length w = sym (accepts 0 (apostrophe ∷ w)) ∙ accepts 8 w
