-- The loop's invariant: the spaces so far, and the names of the rest.
use Rattle.std.proofs.Common.{◌≡◌, ◌+◌, ◌≤◌, length, drop}
use Rattle.trees.specs.Text.{parts}
use Rattle.trees.specs.Names.{name_count}
use Rattle.filing.proofs.collection.taxa_in.Given as goal

abbrev pub invariant-loop-b : goal.invariant-loop-b
invariant-loop-b l = (l.b-index ≤ length l.line) × (l.spaces ≤ l.b-index) × (l.spaces + length (parts 32 l.quoted (drop l.b-index l.line)) ≡ name_count l.line)
