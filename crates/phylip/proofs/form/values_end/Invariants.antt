-- `phylip::form::values_end` meets its contract. The loop's invariant: the values from here on decide. Assumes nothing.
use Prim.Native.Nat.{◌-◌}
use mathlib.Core.Path.{◌≡◌}
use Rattle.phylip.specs.Walk.{rest, nexts, ends_row}
use Rattle.phylip.proofs.form.values_end.Given as goal

abbrev pub invariant-loop-k : goal.invariant-loop-k
invariant-loop-k l = (ends_row l.n (rest l.f l.i) ≡ ends_row (l.n - l._k) (rest l.f l.at)) × (nexts l.n (rest l.f l.i) ≡ nexts (l.n - l._k) (rest l.f l.at))
