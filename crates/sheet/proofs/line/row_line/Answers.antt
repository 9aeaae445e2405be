use Prim.Native.Nat.{ℕ}
use mathlib.Core.Path.{◌≡◌, refl}
use native.Mathlib.Omega.{arith}
use lib.ListN.{length-replicate}
use Rattle.layout.specs.Store.{trees_held_at}
use Rattle.layout.specs.WholeFacts.{whole-at-facts}
use Rattle.layout.specs.InsideLaws.{trees-few}
use Rattle.rows.specs.ReadLaws.{long}
use Rattle.sheet.specs.LineLaws.{row-none, row_more, row_put}
use Rattle.sheet.proofs.line.row_line.Goals as goal

pub trees_held-trees-requires : goal.trees_held-trees-requires
trees_held-trees-requires c = long _ c.requires.s_value

pub write_row-requires : goal.write_row-requires
write_row-requires c = record { s_value = c.requires.s_value; i_bound = c.requires.i_bound; s_in_bounds = omega (arith, trees-few _ (whole-at-facts _ c.requires.s_value).head, length-replicate {A = ℕ} 1024 0) }

pub loop-j-init : goal.loop-j-init
loop-j-init c =
    let n = c.trees_held-trees.ensures in
    (refl, omega arith, omega (arith, n, c.requires.i_bound), n, omega (arith, n, trees-few _ (whole-at-facts _ c.requires.s_value).head), omega (arith, c.put_number-at.ensures.upper_bound.1 (omega (arith, c.from.ensures))), row-none _ _ _)

pub loop-j-preserved : goal.loop-j-preserved
loop-j-preserved c =
    let l = c.loop-j in
    let e = c.put_counted-at.ensures.upper_bound.1 (omega (arith, c.from-in-loop-j.ensures)) in
    (omega (arith, l.invariant.0), omega (arith, l.invariant), omega (arith, l.invariant), l.invariant.3, l.invariant.4, omega (arith, l.invariant.5, e), row_more _ _ _ l.invariant.1 c.from-in-loop-j.ensures l.invariant.6 c.put_counted-at.ensures.put)

pub returns : goal.returns
returns c =
    let e = c.put_end.ensures in
    let l = c.loop-j in
    let n : l.j ≡ trees_held_at c.args.s.now = omega (arith, l.invariant.2, l.invariant.3) in record { put = row_put _ _ _ _ c.write_row.ensures _ _ n l.invariant.1 c.from.ensures c.put_number-at.ensures.put l.invariant.6 e; upper_bound = omega (arith, l.invariant.4, l.invariant.5, e.ends) }
