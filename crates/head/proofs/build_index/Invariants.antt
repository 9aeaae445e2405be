-- `head::build_index` meets its contract. The loop's invariant: the taxa from i on are indexed. Assumes nothing.
use Rattle.std.proofs.Common.{◌≡◌, ◌≤◌, length}
use Rattle.head.specs.Head.{numbers_at, names_at}
use Rattle.head.specs.Index.{keys, IndexedFrom}
use Rattle.head.proofs.build_index.Given as goal

abbrev pub invariant-loop-i : goal.invariant-loop-i
invariant-loop-i l = (l.i ≤ (numbers_at l.s).taxa) × (length l.starts ≡ keys) × (length l.links ≡ 64) × IndexedFrom (names_at l.s) l.i l.starts l.links
