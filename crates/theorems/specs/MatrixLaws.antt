-- Laws of the matrix of distances.
--
--   matrix-length     it has an entry for each pair
--   matrix-at         and each entry is the distance of its pair
--   matrix-sym        it is symmetric
--   matrix-diagonal   with a zero diagonal
use Prim.Native.Nat.{ℕ, zero, suc, ◌+◌, ◌*◌, ◌<◌}
use Rattle.std.proofs.Common.{zero-mul, ap, ◌∙◌, get_or-append-add}
use Rattle.std.proofs.Math.Nat.{suc-mul, zero-add}
use native.Mathlib.Omega.{arith}
use Rattle.std.specs.Prelude.{◌≡◌, refl, get_or}
use Rattle.std.proofs.Math.Path.{sym}
use mathlib.Core.List.{List, [], ◌∷◌, map, flat_map}
use Rattle.std.proofs.Math.ListN.{length, length-append, get_or-append}
use Rattle.trees.specs.Distance.{doubled, matrix}
use Rattle.theorems.specs.DistanceLaws.{doubled-sym, doubled-self}

module _ (us : List (List ℕ)) where
  abbrev row : List ℕ → List ℕ
  row a = map (doubled a) us

  row-length : (a : List ℕ) (vs : List (List ℕ)) → length (map (doubled a) vs) ≡ length vs
  row-length a [] = refl
  row-length a (v ∷ vs) = ap suc (row-length a vs)

  row_at : (a : List ℕ) (vs : List (List ℕ)) (b : ℕ) → b < length vs → get_or (map (doubled a) vs) b 0 ≡ doubled a (get_or vs b [])
  row_at a [] b h = absurd (omega arith)
  row_at a (v ∷ vs) zero h = refl
  row_at a (v ∷ vs) (suc b) h = row_at a vs b (omega arith)

  rows-length : (ts : List (List ℕ)) → length (flat_map row ts) ≡ length ts * length us
  unfolding flat_map
  rows-length [] = sym (zero-mul (length us))
  rows-length (t ∷ ts) =
      let n = suc-mul (length ts) (length us) in
      length-append (row t) (flat_map row ts) ∙ omega (arith, row-length t us, rows-length ts)

  rows_at : (ts : List (List ℕ)) (a b : ℕ) → a < length ts → b < length us
      → get_or (flat_map row ts) (a * length us + b) 0 ≡ doubled (get_or ts a []) (get_or us b [])
  unfolding flat_map
  rows_at [] a b h f = absurd (omega arith)
  rows_at (t ∷ ts) zero b h f =
      rw (zero-mul (length us), zero-add b) (get_or-append (row t) (flat_map row ts) 0 b (omega (arith, row-length t us)) ∙ row_at t us b f)
  rows_at (t ∷ ts) (suc a) b h f =
      let n = row-length t us in
      let m = suc-mul a (length us) in
      let e : suc a * length us + b ≡ length (row t) + (a * length us + b) = omega arith in
      rw e (get_or-append-add (row t) (flat_map row ts) (a * length us + b) 0) ∙ rows_at ts a b (omega arith) f

module _ (ts : List (List ℕ)) where
  pub matrix-length : length (matrix ts) ≡ length ts * length ts
  unfolding matrix
  matrix-length = rows-length ts ts

  pub matrix-at : (a b : ℕ) → a < length ts → b < length ts → get_or (matrix ts) (a * length ts + b) 0 ≡ doubled (get_or ts a []) (get_or ts b [])
  unfolding matrix
  matrix-at a b h f = rows_at ts ts a b h f

  pub matrix-sym : (a b : ℕ) → a < length ts → b < length ts → get_or (matrix ts) (a * length ts + b) 0 ≡ get_or (matrix ts) (b * length ts + a) 0
  matrix-sym a b h f = matrix-at a b h f ∙ doubled-sym (get_or ts a []) (get_or ts b []) ∙ sym (matrix-at b a f h)

  pub matrix-diagonal : (a : ℕ) → a < length ts → get_or (matrix ts) (a * length ts + a) 0 ≡ 0
  matrix-diagonal a h = matrix-at a a h h ∙ doubled-self (get_or ts a [])
