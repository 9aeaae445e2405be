-- `recording::add_new` meets its contract. The loop's invariant: the new ones of the first j splits stand. Assumes nothing.
use Prim.Native.Nat.{◌≤◌}
use Rattle.layout.specs.Store.{parts_at}
use Rattle.records.specs.Records.{masks_of}
use Rattle.recording.specs.Recording.{new_in, Grown}
use Rattle.recording.proofs.add_new.Given as goal

abbrev pub invariant-loop-j : goal.invariant-loop-j
invariant-loop-j l = (l.j ≤ l.n) × Grown l.initial.s (new_in (parts_at l.initial.s) (masks_of l.j l.records)) l.s
