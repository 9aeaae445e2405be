-- `distances::eight::put_column` meets its contract. The loop's invariant: the first b places are put, and `rest` has the bytes from b on.
-- Assumes nothing.
use Rattle.std.proofs.Common.{◌≡◌, ℕ, ◌+◌, ◌≤◌, length}
use Rattle.distances.specs.Eight.{byte_at, Column}
use Rattle.distances.proofs.eight.put_column.Given as goal

abbrev pub invariant-loop-b : goal.invariant-loop-b
invariant-loop-b l = (l.b ≤ l.n) × (length l.out ≡ 8192) × Column l.sizes l.i l.b l.j l.w l.initial.out l.out × ((a : ℕ) → byte_at l.rest a ≡ byte_at l.w (l.b + a))
