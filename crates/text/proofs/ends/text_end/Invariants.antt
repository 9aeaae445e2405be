-- `text::ends::text_end` meets its contract. The loop's invariant: the bytes so far, and those of the rest. Assumes nothing.
use Rattle.text.specs.Ends.{block_bytes}
use Prim.Native.Nat.{◌+◌, ◌*◌, ◌≤◌}
use mathlib.Core.Path.{◌≡◌}
use lib.ListN.{length, drop}
use Rattle.trees.specs.Text.{before_end}
use Rattle.text.proofs.ends.text_end.Given as goal

abbrev pub invariant-loop-k : goal.invariant-loop-k
invariant-loop-k l = (block_bytes * l.k ≤ length l.piece) × (block_bytes * l.k + length (before_end l.quoted (drop (block_bytes * l.k) l.piece)) ≡ length (before_end l.q l.piece))
