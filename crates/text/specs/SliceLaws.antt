-- Laws of a part of a text.
--
--   slice-join, slice-parts, slice-more     a part with what stands behind it, with a part, with a byte
--   every-slice          each byte of a part
use Rattle.std.specs.Prelude.{ℕ, zero, suc, ◌+◌, ◌-◌, ◌≤◌, ◌<◌, ◌≡◌, Bool, true, List, [], ◌∷◌, ◌++◌, length, get_or, take, drop}
use Rattle.std.proofs.Common.{add-one, arith, ap, sym, ◌∙◌, length-take, take-append-drop, take-suc, take-take}
use Rattle.std.proofs.Math.Seq.{slice, slice_empty, slice-cons}
use Rattle.std.proofs.lemmas.List.{drop-append-le}
use Rattle.trees.specs.Plain.{every}
use Rattle.theorems.specs.ListLaws.{and-true}

module _ (s : List ℕ) (i r : ℕ) (le : i ≤ r) where
  pub slice-join : r ≤ length s → drop i s ≡ slice i r s ++ drop r s
  slice-join h =
      let j : i ≤ length (take r s) = simp length-take (omega arith) in
      ap (drop i) (sym (take-append-drop r s)) ∙ drop-append-le i (take r s) (drop r s) j

  pub slice-parts : (m : ℕ) → r ≤ m → m ≤ length s → slice i m s ≡ slice i r s ++ slice r m s
  slice-parts m l h =
      let j : i ≤ length (take r s) = simp length-take (omega arith) in
      ap (drop i) (sym (take-append-drop r (take m s)) ∙ ap (λ (v : List ℕ). v ++ slice r m s) (take-take r m s l)) ∙ drop-append-le i (take r s) (slice r m s) j

  pub slice-more : r < length s → slice i (r + 1) s ≡ slice i r s ++ (get_or s r 0 ∷ [])
  slice-more lt =
      let j : i ≤ length (take r s) = simp length-take (omega arith) in
      ap (λ (n : ℕ). drop i (take n s)) (add-one r) ∙ ap (drop i) (take-suc s r 0 lt) ∙ drop-append-le i (take r s) (get_or s r 0 ∷ []) j

every-run : (p : ℕ → Bool) (n i r : ℕ) (s : List ℕ) → i + n ≡ r → r ≤ length s → ((j : ℕ) → i ≤ j → j < r → p (get_or s j 0) ≡ true) → every p (slice i r s) ≡ true
unfolding every
every-run p zero i r s e h f = let z : i ≡ r = omega arith in ap (λ (x : ℕ). every p (slice x r s)) z ∙ ap (every p) (slice_empty r s)
every-run p (suc n) i r s e h f = ap (every p) (slice-cons i r s 0 (omega arith) h) ∙ and-true (f i (omega arith) (omega arith)) (every-run p n (suc i) r s (omega arith) h (λ j l m. f j (omega arith) m))

pub every-slice : (p : ℕ → Bool) (i r : ℕ) (s : List ℕ) → i ≤ r → r ≤ length s → ((j : ℕ) → i ≤ j → j < r → p (get_or s j 0) ≡ true) → every p (slice i r s) ≡ true
every-slice p i r s l h f = every-run p (r - i) i r s (omega arith) h f
