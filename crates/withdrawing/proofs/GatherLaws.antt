-- What one turn of the loop of `columns::gather` does: the next number lies behind those that are moved. Assumes nothing.
use Prim.Native.Nat.{ℕ, ◌+◌, ◌*◌, ◌≤◌, ◌<◌}
use native.Mathlib.Nat.{mul-le-mul_left}
use native.Mathlib.Numerals.{add-one}
use native.Mathlib.Omega.{arith}
use mathlib.Core.Path.{◌≡◌}
use mathlib.Core.List.{List}
use lib.ListN.{length, get_or, take}
use lib.Seq.{get_or-take, length-take-le, take-suc}
use Rattle.fields.specs.Run.{copied}
use Rattle.withdrawing.specs.Moved.{Gathered, Within}
use Rattle.withdrawing.specs.MovedLaws.{gathered-more}

-- what is known before the loop
pub record Given (s : List ℕ) (from width : ℕ) (rows : List ℕ) (m : ℕ) : Type 0 where
  pub long : m ≤ length rows
  pub within : Within width from (take m rows) s

-- one turn of the loop
module _ {s : List ℕ} {from width : ℕ} {rows : List ℕ} {m : ℕ} (g : Given s from width rows m) (j : ℕ) (h : j < m) where
  pub there : (j ≤ get_or rows j 0) × (from + width * get_or rows j 0 + width ≤ length s)
  there = rw (get_or-take m rows j 0 h) at (g.within j (omega (arith, length-take-le m rows g.long)))

  pub place : from + width * j + width ≤ length s
  place = omega (arith, there.1, mul-le-mul_left width there.0)

  pub more : (u : List ℕ) → Gathered width from (take j rows) s u → Gathered width from (take (j + 1) rows) s (copied u (from + width * j) u (from + width * get_or rows j 0) width)
  more u e =
      let n : length (take j rows) ≡ j = length-take-le j rows (omega (arith, g.long)) in
      let b : j < length rows = omega (arith, g.long) in
      rw (add-one j, take-suc rows j 0 b) (rw n at (gathered-more width from (take j rows) s u e (get_or rows j 0) (omega (arith, there.0)) there.1))
