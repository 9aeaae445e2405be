-- `lanes::has_room` meets its contract: none where there are too many bytes already. Assumes nothing.
use Prim.Native.Nat.{◌+◌, ◌-◌}
use mathlib.Core.Path.{sym}
use native.Mathlib.Omega.{arith}
use lib.Dec.{leb}
use borrow.Author.Tests.{lt-leb, le-leb, leb-true}
use Rattle.trees.specs.Held.{most_text}
use Rattle.theorems.specs.ListLaws.{same_bool}
use Rattle.lanes.proofs.has_room.Goals as goal

pub returns-then-n-gt-MOST_TEXT : goal.returns-then-n-gt-MOST_TEXT
returns-then-n-gt-MOST_TEXT c = let a = c.args in sym (lt-leb (a.n + a.more) most_text (omega arith))

pub returns : goal.returns
returns c =
    let n = c.args.n in
    let more = c.args.more in
    same_bool (leb more (most_text - n)) (leb (n + more) most_text) (λ e. le-leb (n + more) most_text (omega (arith, leb-true more (most_text - n) e)))
    (λ e. le-leb more (most_text - n) (omega (arith, leb-true (n + more) most_text e)))
