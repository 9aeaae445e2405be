-- What the code tests of a byte, in its order, comes to what the definitions say: both are computed at every byte. Assumes nothing.
--
--   blank-tests, label-tests, quoted-tests     `is_blank`, `is_label_byte` and `is_quoted_byte`
--   class-tests                  `class_of` and `sign_or_point`
--   row-moves, other-moves       `move_of`: a class that has a row of moves, and the class that has none
use Prim.Native.Nat.{ℕ, zero, suc, ◌-◌, ◌*◌, ◌/◌, ◌%◌, ◌^◌, ◌<◌}
use native.Mathlib.Nat.{eq-or-lt_of_le, le_of_suc-le-suc}
use native.Mathlib.Omega.{arith}
use mathlib.Core.Path.{◌≡◌, refl, ap, sym, ◌∙◌}
use mathlib.Core.Logic.{⊎_elim}
use mathlib.Core.Bool.{Bool, true, false, ◌&&◌, not}
use lib.Dec.{eqb, leb, ltb}
use borrow.Author.Tests.{eqb-true, ltb-true}
use Rattle.std.specs.Prelude.{if◌then◌else◌}
use Rattle.trees.specs.Text.{is_blank, is_label_byte, is_quoted_byte, kind}
use Rattle.theorems.specs.ListLaws.{and_left, and_right}
use Rattle.text.specs.Read.{kind_no}
use Rattle.text.specs.Automaton.{byte_class, move}

-- ---- a test of every number below a bound

abbrev pub all_below : (ℕ → Bool) → ℕ → Bool
all_below p zero = true
all_below p (suc n) = p n && all_below p n

pub at : (p : ℕ → Bool) (n : ℕ) → all_below p n ≡ true → (k : ℕ) → k < n → p k ≡ true
at p zero h k l = absurd (omega arith)
at p (suc n) h k l =
    ⊎_elim (λ (e : k ≡ n). ap p e ∙ and_left (p n) (all_below p n) h) (λ (m : k < n). at p n (and_right (p n) (all_below p n) h) k m)
    (eq-or-lt_of_le (le_of_suc-le-suc l))

abbrev same : Bool → Bool → Bool
same true b = b
same false b = not b

same_true : (a b : Bool) → same a b ≡ true → a ≡ b
same_true true b e = sym e
same_true false true e = e
same_true false false e = refl

-- ---- kinds

abbrev in_set : ℕ → ℕ → Bool
in_set m b = eqb (m / 2 ^ b % 2) 1

abbrev is_kind : ℕ → ℕ → Bool
is_kind n b = eqb (kind_no (kind b)) n

abbrev blank_tests : ℕ → Bool
blank_tests b = if leb b 32 then in_set 4294977024 b else false

pub blank-tests : (t : Bool) (b : ℕ) → b < 256 → blank_tests b ≡ t → (t ≡ is_blank b) × (t ≡ is_kind 0 b)
unfolding kind is_blank
blank-tests t b h e = (
  sym e ∙ same_true (blank_tests b) (is_blank b) (at (λ k. same (blank_tests k) (is_blank k)) 256 refl b h),
  sym e ∙ same_true (blank_tests b) (is_kind 0 b) (at (λ k. same (blank_tests k) (is_kind 0 k)) 256 refl b h),
)

abbrev label_tests : ℕ → Bool
label_tests b = if ltb b 64 then in_set 17582031496187740160 b else if ltb b 128 then in_set 9223372036183687167 (b - 64) else false

pub label-tests : (t : Bool) (b : ℕ) → b < 256 → label_tests b ≡ t → t ≡ is_label_byte b
unfolding is_label_byte
label-tests t b h e = sym e ∙ same_true (label_tests b) (is_label_byte b) (at (λ k. same (label_tests k) (is_label_byte k)) 256 refl b h)

abbrev quoted_tests : ℕ → Bool
quoted_tests b = if ltb b 32 then false else ltb b 127

pub quoted-tests : (t : Bool) (b : ℕ) → b < 256 → quoted_tests b ≡ t → t ≡ is_quoted_byte b
unfolding is_quoted_byte
quoted-tests t b h e = sym e ∙ same_true (quoted_tests b) (is_quoted_byte b) (at (λ k. same (quoted_tests k) (is_quoted_byte k)) 256 refl b h)

-- ---- lengths

abbrev class_tests : ℕ → ℕ
class_tests b =
    if ltb b 48 then (if eqb b 46 then 2 else if eqb b 43 then 1 else if eqb b 45 then 1 else 4)
    else if ltb b 58 then 0
    else if eqb b 69 then 3
    else if eqb b 101 then 3
    else 4

pub class-tests : (n b : ℕ) → b < 256 → class_tests b ≡ n → n ≡ byte_class b
unfolding byte_class
class-tests n b h e = sym e ∙ eqb-true (class_tests b) (byte_class b) (at (λ k. eqb (class_tests k) (byte_class k)) 256 refl b h)

-- four bits of m for each q
abbrev move_in : ℕ → ℕ → ℕ
move_in m q = m / 2 ^ (4 * q) % 16

abbrev is_row : ℕ → ℕ → ℕ → Bool
is_row m n q = eqb (move_in m q) (move q n) && ltb (move_in m q) 9

pub row-moves : (m n : ℕ) → all_below (is_row m n) 9 ≡ true → (q k : ℕ) → q < 9 → k ≡ n → (move_in m q ≡ move q k) × (move_in m q < 9)
row-moves m n t q k h e =
    let i = at (is_row m n) 9 t q h in
    let same = eqb (move_in m q) (move q n) in
    let small = ltb (move_in m q) 9 in
    (eqb-true (move_in m q) (move q n) (and_left same small i) ∙ ap (move q) (sym e), ltb-true (move_in m q) 9 (and_right same small i))

pub other-moves : (q k : ℕ) → q < 9 → k ≡ 4 → 8 ≡ move q k
unfolding move
other-moves q k h e = eqb-true 8 (move q 4) (at (λ j. eqb 8 (move j 4)) 9 refl q h) ∙ ap (move q) (sym e)
