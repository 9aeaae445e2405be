-- Laws of runs of plain bytes, which neither end a command nor begin a comment or a run in quotes, a turn of the code at a time.
-- Assumes nothing.
--
--   plain-dropped, plain-kept     a byte compared: it is one that is not plain, or not that one
--   so_far, all-turn, all_done     whether every byte of a block is plain, so far and in the rest
--   run_none, run_more, run-block     a run: none, one byte more, a block more
--   run_ends              where a run ends
--   run-every             every byte of a run is plain
use Rattle.std.specs.Prelude.{ℕ, zero, suc, ◌+◌, ◌-◌, ◌≤◌, ◌<◌, ◌≡◌, Bool, ◌&&◌, not, eqb, length, take}
use Rattle.std.proofs.Common.{add-one, arith, ap, ◌∙◌, ⊎_elim, drop_of_length-le, drop-cons, get_or-drop, get_or-take, eq-eqb, ne_eqb}
use Rattle.std.proofs.Math.Path.{refl, sym}
use Rattle.std.proofs.Math.Bool.{true, false}
use mathlib.Core.List.{List, [], ◌∷◌}
use Rattle.std.proofs.Math.ListN.{get_or, drop}
use Rattle.trees.specs.Plain.{every}
use Rattle.theorems.specs.ListLaws.{less-or-not, and-true}
use Rattle.theorems.specs.OpeningLaws.{every-get_d}
use Rattle.nexus.specs.Places.{part, other, plain, PlainRun, PlainEnd}

-- ---- a block

-- t says whether no byte so far is x, and u whether the byte b is not, too
module _ (t u : Bool) (b x : ℕ) where
  pub plain-dropped : b ≡ x → u ≡ false → u ≡ (t && not (eqb b x))
  plain-dropped e f = f ∙ sym (ap (λ (y : Bool). t && not y) (eq-eqb b x e) ∙ and-false t)
    where
      and-false : (y : Bool) → (y && false) ≡ false
      and-false true = refl
      and-false false = refl

  pub plain-kept : (b ≡ x → ⊥) → u ≡ t → u ≡ (t && not (eqb b x))
  plain-kept n f = f ∙ sym (ap (λ (y : Bool). t && not y) (ne_eqb b x n) ∙ and_yes t)
    where
      and_yes : (y : Bool) → (y && true) ≡ y
      and_yes true = refl
      and_yes false = refl

-- whether no byte so far is a semicolon, a bracket, an apostrophe, and none in the rest
abbrev pub so_far : Bool → Bool → Bool → List ℕ → ℕ → Bool
so_far t v w p i = (t && (v && w)) && every plain (drop i p)

module _ (p : List ℕ) (i : ℕ) where
  -- t, v and w say whether no byte so far is a semicolon, a bracket, an apostrophe; x, y and z whether the byte at i is none, too
  pub all-turn : (t v w x y z : Bool) → so_far t v w p i ≡ every plain p → i < length p
      → x ≡ (t && other 59 (get_or p i 0))
      → y ≡ (v && other 91 (get_or p i 0))
      → z ≡ (w && other 39 (get_or p i 0))
      → so_far x y z p (i + 1) ≡ every plain p
  unfolding every
  all-turn t v w x y z f h a b c =
      let d : drop i p ≡ get_or p i 0 ∷ drop (i + 1) p = rw (add-one i) (drop-cons p i 0 h) in
      rw (a, b, c)
      (regroup t v w (other 59 (get_or p i 0)) (other 91 (get_or p i 0)) (other 39 (get_or p i 0)) (every plain (drop (i + 1) p))
      ∙ sym (ap (λ (l : List ℕ). (t && (v && w)) && every plain l) d)
      ∙ f)
    where
      regroup : (a b c d e f g : Bool) → (((a && d) && ((b && e) && (c && f))) && g) ≡ ((a && (b && c)) && ((d && (e && f)) && g))
      regroup true true true d e f g = refl
      regroup true true false true true f g = refl
      regroup true true false true false f g = refl
      regroup true true false false e f g = refl
      regroup true false c true e f g = refl
      regroup true false c false e f g = refl
      regroup false b c d e f g = refl

  pub all_done : (t v w : Bool) → so_far t v w p i ≡ every plain p → length p ≤ i → (t && (v && w)) ≡ every plain p
  unfolding every
  all_done true true true f h = rw (drop_of_length-le p h) at f
  all_done true true false f h = f
  all_done true false w f h = f
  all_done false v w f h = f

-- ---- a run

pub run_none : (s : List ℕ) (i : ℕ) → i ≤ length s → PlainRun s i i
run_none s i h = record { past = omega arith; within = h; each = λ j f g. absurd (omega arith) }

module _ (s : List ℕ) (i r : ℕ) (d : PlainRun s i r) where
  pub run_more : r < length s → plain (get_or s r 0) ≡ true → PlainRun s i (r + 1)
  run_more h e = record { past = omega (arith, d.past); within = omega arith; each = each }
    where
      each : (j : ℕ) → i ≤ j → j < r + 1 → plain (get_or s j 0) ≡ true
      each j f g = ⊎_elim (λ l. d.each j f l) (λ l. let q : j ≡ r = omega arith in rw q e) (less-or-not j r)

  pub run-block : r + 64 ≤ length s → every plain (part r (r + 64) s) ≡ true → PlainRun s i (r + 64)
  run-block h e = record { past = omega (arith, d.past); within = h; each = each }
    where
      at : (j : ℕ) → r ≤ j → j < r + 64 → get_or (part r (r + 64) s) (j - r) 0 ≡ get_or s j 0
      at j f g =
          let q : r + (j - r) ≡ j = omega arith in
          get_or-take ((r + 64) - r) (drop r s) (j - r) 0 (omega arith) ∙ get_or-drop r s (j - r) 0 ∙ ap (λ (k : ℕ). get_or s k 0) q

      each : (j : ℕ) → i ≤ j → j < r + 64 → plain (get_or s j 0) ≡ true
      each j f g =
          ⊎_elim
          (λ l. d.each j f l)
          (λ l. rw (at j l g) at (every-get_d plain (part r (r + 64) s) 0 refl e (j - r)))
          (less-or-not j r)

  pub run_ends : (r < length s → plain (get_or s r 0) ≡ false) → PlainEnd s i r
  run_ends f = record { past = d.past; within = d.within; each = d.each; stop = f }

front-every : (n : ℕ) (l : List ℕ) → ((j : ℕ) → j < n → plain (get_or l j 0) ≡ true) → every plain (take n l) ≡ true
unfolding every
front-every zero l f = refl
front-every (suc n) [] f = refl
front-every (suc n) (b ∷ l) f = and-true (f 0 (omega arith)) (front-every n l (λ j h. f (suc j) (omega arith)))

pub run-every : (s : List ℕ) (i r : ℕ) → PlainEnd s i r → every plain (part i r s) ≡ true
run-every s i r d = front-every (r - i) (drop i s) (λ j h. rw (get_or-drop i s j 0) (d.each (i + j) (omega arith) (omega arith)))
