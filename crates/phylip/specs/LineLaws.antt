-- The line of a tree, as the code writes it. Assumes nothing.
--
--   number-one, number-two, number-three, number-four     the digits of a number, stored
--   three-put                     the last three of them
--   name-put                      a padded name
--   values-more, values-end       the values of a line, one after another
--   values_length                 they take at most four bytes each
--   line-put, line-length         the line: what stands in it, and how long it is at most
use Rattle.std.specs.Prelude.{ℕ, suc, ◌+◌, ◌-◌, ◌*◌, ◌/◌, ◌%◌, ◌≤◌, ◌<◌, ◌≡◌, refl, length, get_or, set, drop, replicate}
use Rattle.std.proofs.Common.{add-one, arith, sym, ap, ◌∙◌, length-append, drop_of_length-le, drop-cons}
use mathlib.Core.List.{List, [], ◌∷◌, ◌++◌, flat_map}
use Rattle.std.proofs.lemmas.List.{length-replicate}
use Rattle.trees.specs.Plain.{bytes}
use Rattle.trees.specs.Decimal.{digits_of}
use Rattle.trees.specs.Phylip.{name_of, padded, row_text}
use Rattle.putting.specs.Put.{Put}
use Rattle.putting.specs.PutLaws.{put_one, put_then, put_as}
use Rattle.phylip.specs.Writing.{last_three, values_text, Values}
use Rattle.phylip.specs.DigitLaws.{digits-one, digits-two, digits-three, digits-four, digits-short, digits-few}

-- ---- numbers

put_two : {l a after : List ℕ} {at x y : ℕ} → a ≡ set l at x → after ≡ set a (at + 1) y → Put l at (x ∷ y ∷ []) after (at + 2)
put_two {at = at} p q = record { stored = q ∙ rw (p, add-one at); ends = refl }

pub three-put : {l a b after : List ℕ} {at : ℕ} (n x y z : ℕ) → x ≡ 48 + n / 100 % 10 → y ≡ 48 + n / 10 % 10 → z ≡ 48 + n % 10
    → a ≡ set l at x → b ≡ set a (at + 1) y → after ≡ set b (at + 2) z → Put l at (last_three n) after (at + 3)
three-put {at = at} n x y z d e f p q r =
    let s : at + 2 ≡ suc (suc at) = omega arith in
    record { stored = r ∙ rw (q, p, add-one at, s, d, e, f); ends = refl }

module _ {l after : List ℕ} {at : ℕ} (n : ℕ) where
  pub number-one : (x : ℕ) → n < 10 → x ≡ 48 + n → after ≡ set l at x → Put l at (digits_of n) after (at + 1)
  number-one x h e p = put_as (ap (λ (d : ℕ). d ∷ []) e ∙ sym (digits-one n h)) (put_one p)

  pub number-two : {a : List ℕ} (x y : ℕ) → 10 ≤ n → n < 100 → x ≡ 48 + n / 10 → y ≡ 48 + n % 10 → a ≡ set l at x → after ≡ set a (at + 1) y
      → Put l at (digits_of n) after (at + 2)
  number-two x y h k e f p q = put_as (rw (e, f) (sym (digits-two n h k))) (put_two p q)

  pub number-three : {e : ℕ} → 100 ≤ n → n < 1000 → Put l at (last_three n) after e → Put l at (digits_of n) after e
  number-three h k p = put_as (sym (digits-three n h k)) p

  pub number-four : {a : List ℕ} {e : ℕ} (x : ℕ) → 1000 ≤ n → n < 10000 → x ≡ 48 + n / 1000 → a ≡ set l at x → Put a (at + 1) (last_three n) after e
      → Put l at (digits_of n) after e
  number-four x h k d p q = put_as (rw d (sym (digits-four n h k))) (put_then (put_one p) q)

-- ---- a name

padded-is : (i : ℕ) → padded (name_of i) ≡ (116 ∷ []) ++ (digits_of i ++ replicate (9 - length (digits_of i)) 32)
unfolding padded name_of bytes
padded-is i =
    let e : 10 - suc (length (digits_of i)) ≡ 9 - length (digits_of i) = omega arith in
    rw e

pub name-put : {l a b after : List ℕ} {at e : ℕ} (i n : ℕ) → n ≡ i → i < 10000 → a ≡ set l at 116 → Put a (at + 1) (digits_of n) b e
    → Put b e (replicate (at + 10 - e) 32) after (at + 10) → Put l at (padded (name_of i)) after (at + 10)
name-put {at = at} {e} i n q h p d r =
    let few = digits-few i h in
    let m : at + 10 - e ≡ 9 - length (digits_of i) = omega (arith, d.ends, ap (λ (x : ℕ). length (digits_of x)) q) in
    put_as (rw (q, m) (sym (padded-is i))) (put_then (put_one p) (put_then d r))

name-length : (i : ℕ) → i < 10000 → length (padded (name_of i)) ≡ 10
name-length i h =
    let few = digits-few i h in
    ap length (padded-is i)
    ∙ omega (arith, length-append (digits_of i) (replicate (9 - length (digits_of i)) 32), length-replicate {A = ℕ} (9 - length (digits_of i)) 32)

-- ---- values

values-first : (v : ℕ) (vs : List ℕ) → values_text (v ∷ vs) ≡ (32 ∷ digits_of v) ++ values_text vs
unfolding values_text flat_map
values-first v vs = refl

values-none : values_text [] ≡ []
unfolding values_text flat_map
values-none = refl

module _ (vs : List ℕ) (j : ℕ) where
  pub values-more : (v : ℕ) → j < length vs → v ≡ get_or vs j 0 → values_text (drop j vs) ≡ (32 ∷ digits_of v) ++ values_text (drop (j + 1) vs)
  values-more v h e = rw (drop-cons vs j 0 h, ← e, add-one j) (values-first v (drop (suc j) vs))

  pub values-end : length vs ≤ j → values_text (drop j vs) ≡ []
  values-end h = rw (drop_of_length-le vs h) values-none

pub values_length : (vs : List ℕ) → Values vs → length (values_text vs) ≤ 4 * length vs
values_length [] h = rw values-none (omega arith)
values_length (v ∷ vs) h =
    let rest : Values vs = record { small = λ j k. h.small (suc j) (omega arith) } in
    rw (values-first v vs)
    (omega (arith, length-append (32 ∷ digits_of v) (values_text vs), digits-short v (h.small 0 (omega arith)), values_length vs rest))

-- ---- the line

row_is : (i : ℕ) (vs : List ℕ) → row_text i vs ≡ padded (name_of i) ++ values_text vs ++ 10 ∷ []
unfolding row_text values_text
row_is i vs = refl

pub line-put : {l a b after : List ℕ} {at e : ℕ} (i : ℕ) (vs : List ℕ) → Put l at (padded (name_of i)) a (at + 10) → Put a (at + 10) (values_text vs) b e
    → after ≡ set b e 10 → Put l at (row_text i vs) after (e + 1)
line-put i vs p q r = put_as (sym (row_is i vs)) (put_then (put_then p q) (put_one r))

pub line-length : (i : ℕ) (vs : List ℕ) → i < 10000 → Values vs → length (row_text i vs) ≤ 4 * length vs + 11
line-length i vs h k =
    rw (row_is i vs)
    (omega (arith, length-append (padded (name_of i) ++ values_text vs) (10 ∷ []), length-append (padded (name_of i)) (values_text vs), name-length i h, values_length vs k))
