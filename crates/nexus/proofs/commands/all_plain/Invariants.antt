-- `nexus::commands::all_plain` meets its contract. The loop's invariant: whether all are plain so far, and in the rest. Assumes nothing.
use Prim.Native.Nat.{◌≤◌}
use mathlib.Core.Path.{◌≡◌}
use lib.ListN.{length}
use Rattle.trees.specs.Plain.{every}
use Rattle.nexus.specs.Places.{plain}
use Rattle.nexus.specs.PlainLaws.{so_far}
use Rattle.nexus.proofs.commands.all_plain.Given as goal

abbrev pub invariant-loop-b : goal.invariant-loop-b
invariant-loop-b l = (l.b-index ≤ length l.block) × (so_far l.no_end l.no_comment l.no_quote l.block l.b-index ≡ every plain l.block)
