-- `lengths::divided` meets its contract. Assumes nothing.
use mathlib.Core.Path.{◌≡◌, sym, ap, ◌∙◌}
use borrow.Author.Rules.{rules}
use Prim.Native.Nat.{suc, ◌-◌, ◌^◌}
use native.Mathlib.Omega.{arith}
use mathlib.Core.Bool.{false}
use mathlib.Core.Option.{some}
use lib.Ieee.Exact.{HasValue}
use Rattle.trees.specs.Value.{signed}
use Rattle.theorems.specs.FloatLaws.{whole-fits}
use Rattle.theorems.specs.ValueLaws.{by_ten, measured-in, measured-large, measured-far, inside-down, outside-down}
use Rattle.lengths.specs.Answer.{value_given}
use Rattle.lengths.proofs.divided.Goals as goal

pub int_to_float-n : goal.int_to_float-n
int_to_float-n c = whole-fits _ (search rules)

pub returns-then-k-le22 : goal.returns-then-k-le22
unfolding value_given
returns-then-k-le22 c =
    let a = c.args in
    let e : a.k ≡ suc (a.k - 1) = omega arith in
    let v : HasValue c.ten.result false (10 ^ suc (a.k - 1)) 1 = rw (← e) c.ten.ensures in
    ap some (c.with_sign.ensures ∙ ap (signed a.minus a.n) (by_ten a.n (a.k - 1) c.ten.result (search rules) v))
    ∙ sym (measured-in a.minus a.n _ (search rules) (inside-down (a.k - 1) (search rules)))

pub returns-else-k-le22 : goal.returns-else-k-le22
unfolding value_given
returns-else-k-le22 c = sym (measured-far _ _ _ (outside-down _ (omega arith)))

pub returns-else-n-le9007199254740992 : goal.returns-else-n-le9007199254740992
unfolding value_given
returns-else-n-le9007199254740992 c = sym (measured-large _ _ _ (search rules))
