-- `text::ends::count_texts` meets its contract. The loop's invariant: those so far, and those of the rest. Assumes nothing.
use Rattle.text.specs.Ends.{block_bytes}
use Prim.Native.Nat.{◌+◌, ◌*◌, ◌≤◌}
use mathlib.Core.Path.{◌≡◌}
use lib.ListN.{length, drop}
use Rattle.trees.specs.Batch.{texts_in}
use Rattle.text.proofs.ends.count_texts.Given as goal

abbrev pub invariant-loop-k : goal.invariant-loop-k
invariant-loop-k l = (block_bytes * l.k ≤ length l.piece) × (l.n ≤ block_bytes * l.k) × (l.n + texts_in l.quoted (drop (block_bytes * l.k) l.piece) ≡ texts_in l.q l.piece)
