-- `store::header::constants_good` meets its contract. The loop's invariant: the constants from i on decide. Assumes nothing.
use Rattle.std.proofs.Common.{◌≡◌, ◌≤◌, ltb, drop}
use Rattle.trees.specs.Plain.{every}
use Rattle.head.specs.Head.{numbers_at, first_at}
use Rattle.store.proofs.header.constants_good.Given as goal

abbrev pub invariant-loop-i : goal.invariant-loop-i
invariant-loop-i l =
    (l.i ≤ l.taxa)
    × (l.taxa ≡ (numbers_at l.s).taxa)
    × (every (λ c. ltb c (numbers_at l.s).places) (first_at l.s) ≡ every (λ c. ltb c (numbers_at l.s).places) (drop l.i (first_at l.s)))
