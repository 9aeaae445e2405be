-- What one turn of the loop of `columns::rename` does: the next number lies behind those that are named anew. Assumes nothing.
use Prim.Native.Nat.{ℕ, ◌+◌, ◌-◌, ◌*◌, ◌≤◌, ◌<◌}
use native.Mathlib.Numerals.{add-one}
use native.Mathlib.Omega.{arith}
use mathlib.Core.Path.{◌≡◌}
use mathlib.Core.List.{List}
use lib.ListN.{length, get_or}
use Rattle.fields.specs.Field.{number, put}
use Rattle.withdrawing.specs.Moved.{renamed, Renamed, Named}
use Rattle.withdrawing.specs.MovedLaws.{renamed-next, renamed-more}

-- what is known before the loop
pub record Given (s : List ℕ) (from n : ℕ) (entries : List ℕ) (add : ℕ) : Type 0 where
  pub long : from + 2 * n ≤ length s
  pub named : Named from n entries add s
  pub few : add ≤ 1

-- one turn of the loop, for the number x that it reads
module _ {s : List ℕ} {from n : ℕ} {entries : List ℕ} {add : ℕ} (g : Given s from n entries add) (j : ℕ) (h : j < n)
    (u : List ℕ) (e : Renamed from j entries add s u) (x : ℕ) (d : x ≡ number 2 u (from + 2 * j)) where
  pub same : x ≡ number 2 s (from + 2 * j)
  same = rw (renamed-next from entries add s j u e) at d

  pub has-name : (x + add < length entries) × (add ≤ get_or entries (x + add) 0)
  has-name = rw same (g.named j h)

  pub more : get_or entries (x + add) 0 < 65536 → Renamed from (j + 1) entries add s (put 2 u (from + 2 * j) (get_or entries (x + add) 0 - add))
  unfolding renamed
  more small = rw (add-one j) (renamed-more from entries add s j u e _ (rw same) (omega arith) (omega (arith, g.long)))
