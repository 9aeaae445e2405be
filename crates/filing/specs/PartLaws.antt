-- Laws of bytes that are compared.
--
--   compared_whole s t      all of both is compared
--   begins-whole s t r      r answers whether all of t, compared with as many bytes of s, is the same
--   begins-longer s t       no bytes begin with more than they are
--   equal-bytes s t         what `==` says of bytes
--   turned-bytes s t        the same the other way round, as `starts_with` compares them
use Rattle.std.specs.Prelude.{◌≡◌, ℕ, ◌<◌, Bool, true, false, ◌&&◌, List, [], ◌∷◌, length, take, bytes_eq, eqb, refl}
use Rattle.std.proofs.lemmas.Bool.{eq-eqb, eqb-true}
use Rattle.std.proofs.Common.{arith, sym, ap, ap₂, ◌∙◌, length-take}
use Rattle.std.proofs.Math.Seq.{slice, take-length}
use Rattle.trees.specs.Plain.{same_bytes}
use Rattle.head.specs.FindLaws.{run-unlike}

pub compared_whole : (s t : List ℕ) → same_bytes (slice 0 (length s) s) (slice 0 (length t) t) ≡ same_bytes s t
compared_whole s t = ap₂ same_bytes (take-length s) (take-length t)

pub begins-whole : (s t : List ℕ) (r : Bool) → r ≡ same_bytes (slice 0 (length t) s) (slice 0 (length t) t) → r ≡ same_bytes (take (length t) s) t
begins-whole s t r e = e ∙ ap (same_bytes (take (length t) s)) (take-length t)

pub begins-longer : (s t : List ℕ) → length s < length t → same_bytes (take (length t) s) t ≡ false
begins-longer s t h = run-unlike (take (length t) s) t (λ e. let l = length-take (length t) s in omega (arith, l, e, h))

-- bytes of other lengths differ, and no bytes begin with longer ones
pub ruleset by_length = (run-unlike, begins-longer)

-- bytes compared by `==`, and by `starts_with`, which has them the other way round
pub equal-bytes : (s t : List ℕ) → bytes_eq s t ≡ same_bytes s t
unfolding same_bytes
equal-bytes [] [] = refl
equal-bytes [] (y ∷ ys) = refl
equal-bytes (x ∷ xs) [] = refl
equal-bytes (x ∷ xs) (y ∷ ys) = ap (λ b. eqb x y && b) (equal-bytes xs ys)

-- two tests that follow from each other
both : (a b : Bool) → (a ≡ true → b ≡ true) → (b ≡ true → a ≡ true) → a ≡ b
both true true f g = refl
both true false f g = sym (f refl)
both false true f g = g refl
both false false f g = refl

eqb-turned : (x y : ℕ) → eqb x y ≡ eqb y x
eqb-turned x y = both (eqb x y) (eqb y x) (λ e. eq-eqb y x (sym (eqb-true x y e))) (λ e. eq-eqb x y (sym (eqb-true y x e)))

pub turned-bytes : (s t : List ℕ) → bytes_eq s t ≡ same_bytes t s
unfolding same_bytes
turned-bytes [] [] = refl
turned-bytes [] (y ∷ ys) = refl
turned-bytes (x ∷ xs) [] = refl
turned-bytes (x ∷ xs) (y ∷ ys) = ap₂ (λ a b. a && b) (eqb-turned x y) (turned-bytes xs ys)

-- what tactics are given of bytes that are compared
pub ruleset compared = (equal-bytes, turned-bytes)
