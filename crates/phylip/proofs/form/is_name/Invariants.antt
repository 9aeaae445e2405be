-- `phylip::form::is_name` meets its contract. The loop's invariant: the bytes from here on decide, and those before are in the text. Assumes nothing.
use Prim.Native.Nat.{◌+◌, ◌-◌, ◌≤◌, ◌<◌}
use mathlib.Core.Path.{◌≡◌}
use lib.ListN.{length, take}
use Rattle.trees.specs.Phylip.{is_name}
use Rattle.phylip.specs.Walk.{rest}
use Rattle.phylip.specs.PlaceRowLaws.{named}
use Rattle.phylip.proofs.form.is_name.Given as goal

abbrev pub invariant-loop-k : goal.invariant-loop-k
invariant-loop-k l = (0 < l.k → l.i + l.k ≤ length l.f) × (is_name (take 10 (rest l.f l.i)) ≡ named (10 - l.k) (rest l.f (l.i + l.k)))
