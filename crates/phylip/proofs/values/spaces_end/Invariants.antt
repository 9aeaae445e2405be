-- `phylip::values::spaces_end` meets its contract. The loop's invariant: the run of spaces ends where that from here on does. Assumes nothing.
use mathlib.Core.Path.{◌≡◌}
use Rattle.trees.specs.Nexus.{behind_run}
use Rattle.phylip.specs.Walk.{rest, is_byte}
use Rattle.phylip.proofs.values.spaces_end.Given as goal

abbrev pub invariant-loop-at : goal.invariant-loop-at
invariant-loop-at l = behind_run (is_byte 32) (rest l.f l.i) ≡ behind_run (is_byte 32) (rest l.f l.at)
