use Prim.Native.Nat.{◌+◌, ◌-◌, ◌*◌}
use native.Mathlib.Omega.{arith}
use mathlib.Core.Path.{◌≡◌, refl, sym, ◌∙◌}
use Rattle.phylip.specs.PlaceLaws.{begins-within}
use Rattle.phylip.specs.PlaceRowLaws.{row_within}
use Rattle.phylip.specs.FillingLaws.{fill_done, are-row, row-values, row-at-end, filled-length, filled-are, filled_more, row_room, next_from}
use Rattle.phylip.proofs.filling.fill_rows.Goals as goal

pub loop-row-init : goal.loop-row-init
loop-row-init c =
    let t = c.args.t in
    let e : t - 0 ≡ t = omega arith in
    let z : t * 0 ≡ 0 = omega arith in
    rw (e, z) (refl, omega arith, c.requires.i_value, refl)

pub overflow_add-p : goal.overflow_add-p
overflow_add-p c =
    let h = row_within _ _ _ (are-row _ _ _ (omega arith) c.loop-row.invariant.2) in
    omega (arith, h)

pub overflow_mul-t : goal.overflow_mul-t
overflow_mul-t c = omega (arith, c.loop-row.invariant.0, c.loop-row.invariant.1)

pub fill_row-p-requires : goal.fill_row-p-requires
fill_row-p-requires c =
    let l = c.loop-row in
    let r = row_room _ _ _ _ (omega arith) l.invariant.1 in
    record { i_value = row-values _ _ _ (are-row _ _ _ (omega arith) l.invariant.2); n_in_bounds = omega (arith, r.0, l.invariant.0) }

pub overflow_add-p-in-loop-row : goal.overflow_add-p-in-loop-row
overflow_add-p-in-loop-row c =
    let h = begins-within _ _ _ (row-at-end _ _ _ (are-row _ _ _ (omega arith) c.loop-row.invariant.2) _ c.fill_row-p.ensures.behind) in
    omega (arith, h)

pub loop-row-preserved : goal.loop-row-preserved
loop-row-preserved c =
    let l = c.loop-row in
    let t = c.args.t in
    let h = c.fill_row-p.ensures in
    let m : t - l.row - 1 ≡ t - (l.row + 1) = omega arith in
    rw (next_from t l.row, ← m) (
      filled-length _ _ _ _ _ _ _ _ (omega arith) l.invariant.2 h ∙ l.invariant.0,
      (row_room _ _ _ _ (omega arith) l.invariant.1).1,
      filled-are _ _ _ _ _ _ _ _ (omega arith) l.invariant.2 h,
      l.invariant.3 ∙ filled_more _ _ _ _ _ _ _ _ (omega arith) l.invariant.2 h,
    )

pub shape_of-out : goal.shape_of-out
shape_of-out c = c.loop-row.invariant.0

pub returns : goal.returns
returns c = sym (c.loop-row.invariant.3 ∙ fill_done _ _ _ _ _ (omega arith))
