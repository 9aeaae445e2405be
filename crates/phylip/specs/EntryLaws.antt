-- The values of a matrix that is read, by row and column. Assumes nothing.
--
--   matrix t s          the matrix of the t rows of s
--   symmetric-rows      whether it is symmetric, by the places of its rows
use Rattle.std.specs.Prelude.{ℕ, zero, suc, ◌+◌, ◌*◌, ◌<◌, ◌≡◌, refl, Bool, length, get_or, drop}
use Rattle.std.proofs.Common.{arith, ◌∙◌, inl, inr, get_or-append-add}
use Rattle.std.proofs.Math.Path.{sym, ap, ap₂}
use Rattle.std.proofs.Math.Bool.{◌&&◌}
use mathlib.Core.List.{List, [], ◌∷◌}
use Rattle.std.proofs.Math.Dec.{eqb}
use Rattle.std.proofs.Math.ListN.{get_or-append}
use Rattle.trees.specs.Plain.{every}
use Rattle.trees.specs.Phylip.{below, Square, entry, symmetric}
use Rattle.theorems.specs.ListLaws.{Mem}
use Rattle.phylip.specs.Walk.{value, next, values, nexts, next_row, rows_read, next_rows}
use Rattle.phylip.specs.Rows.{Stands}
use Rattle.phylip.specs.Symmetry.{cell, symmetric_at}
use Rattle.phylip.specs.SymmetryLaws.{below-mem}
use Rattle.phylip.specs.FillingLaws.{values_length}

values-at : (n j : ℕ) (s : List ℕ) → j < n → get_or (values n s) j 0 ≡ value (nexts j s)
unfolding values nexts
values-at zero j s l = absurd (omega arith)
values-at (suc n) zero s l = refl
values-at (suc n) (suc j) s l = values-at n j (next s) (omega arith)

rows_at : (k t i j : ℕ) (s : List ℕ) → i < k → j < t → get_or (rows_read k t s) (t * i + j) 0 ≡ value (nexts j (drop 10 (next_rows i t s)))
unfolding rows_read next_rows
rows_at zero t i j s l m = absurd (omega arith)
rows_at (suc k) t zero j s l m =
    let e : t * 0 + j ≡ j = omega arith in
    let n = values_length t (drop 10 s) in
    rw e (get_or-append (values t (drop 10 s)) (rows_read k t (next_row t s)) 0 j (omega arith) ∙ values-at t j (drop 10 s) m)
rows_at (suc k) t (suc i) j s l m =
    let n = values_length t (drop 10 s) in
    let e : t * suc i + j ≡ length (values t (drop 10 s)) + (t * i + j) = omega arith in
    rw e (get_or-append-add (values t (drop 10 s)) (rows_read k t (next_row t s)) (t * i + j) 0 ∙ rows_at k t i j (next_row t s) (omega arith) m)

every-same : (p q : ℕ → Bool) (l : List ℕ) → ((x : ℕ) → Mem x l → p x ≡ q x) → every p l ≡ every q l
unfolding every
every-same p q [] h = refl
every-same p q (x ∷ l) h = ap₂ ◌&&◌ (h x (inl refl)) (every-same p q l (λ y m. h y (inr m)))

-- the matrix of the t rows of s
abbrev pub matrix : ℕ → List ℕ → Square
matrix t s = record { trees = t; values = rows_read t t s }

module _ (f s at : List ℕ) (t : ℕ) (h : Stands f s t t at) where
  entry-is : (i j : ℕ) → i < t → j < t → cell f at i j ≡ entry (matrix t s) i j
  unfolding cell entry Stands
  entry-is i j l m = ap (λ (u : List ℕ). value (nexts j u)) (h i l) ∙ sym (rows_at t t i j s l m)

  pub symmetric-rows : symmetric_at f t at ≡ symmetric (matrix t s)
  unfolding symmetric_at symmetric
  symmetric-rows =
      every-same (λ i. eqb (cell f at i i) 0 && every (λ j. eqb (cell f at i j) (cell f at j i)) (below t))
      (λ i. eqb (entry (matrix t s) i i) 0 && every (λ j. eqb (entry (matrix t s) i j) (entry (matrix t s) j i)) (below t)) (below t)
      (λ i a.
      ap₂ ◌&&◌ (ap (λ (n : ℕ). eqb n 0) (entry-is i i (below-mem t i a) (below-mem t i a)))
      (every-same (λ j. eqb (cell f at i j) (cell f at j i)) (λ j. eqb (entry (matrix t s) i j) (entry (matrix t s) j i)) (below t)
      (λ j b. ap₂ eqb (entry-is i j (below-mem t i a) (below-mem t j b)) (entry-is j i (below-mem t j b) (below-mem t i a)))))
