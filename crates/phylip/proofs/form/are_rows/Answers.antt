use Prim.Native.Nat.{◌+◌, ◌-◌}
use native.Mathlib.Omega.{arith}
use mathlib.Core.Path.{◌≡◌, refl, sym, ap, ◌∙◌}
use mathlib.Core.Bool.{false≢true}
use lib.ListN.{length-set}
use Rattle.phylip.specs.Walk.{next_row, next_rows}
use Rattle.phylip.specs.PlaceRowLaws.{place_at, place_none, row_within, rows_next, rows_more, rows-stop, rows-done, stands-none, stands-more}
use Rattle.phylip.proofs.form.are_rows.Goals as goal

pub loop-k-init : goal.loop-k-init
unfolding next_rows
loop-k-init c =
    let t = c.args.t in
    let e : t - 0 ≡ t = omega arith in
    (omega arith, refl, rw e, refl, stands-none _ _ _ _)

pub shape_of-at-in_default : goal.shape_of-at-in_default
shape_of-at-in_default c = c.loop-k.invariant.1

pub returns-in_default : goal.returns-in_default
returns-in_default c =
    let v = c.loop-k.invariant in
    record {
      is = sym (v.2 ∙ rows-stop _ _ _ (omega arith) (place_none _ _ _ _ c.row_end.ensures c.in_default.is));
      size = v.1;
      stands = λ e. absurd (false≢true e);
    }

pub overflow_add-at : goal.overflow_add-at
overflow_add-at c =
    let h = row_within _ _ _ (place_at _ _ _ _ c.row_end.ensures _ c.in-Some.is).0 in
    omega arith

pub loop-k-preserved : goal.loop-k-preserved
loop-k-preserved c =
    let t = c.args.t in
    let k = c.loop-k.k in
    let v = c.loop-k.invariant in
    let h = place_at _ _ _ _ c.row_end.ensures _ c.in-Some.is in
    let e : t - k - 1 ≡ t - (k + 1) = omega arith in (
      omega arith,
      simp length-set v.1,
      v.2 ∙ rows_more (t - k) _ _ (omega arith) h.0 ∙ rw (h.1, e),
      h.1 ∙ ap (next_row t) v.3 ∙ sym (rows_next k t _),
      stands-more _ _ _ _ _ _ v.4 (omega arith) v.3,
    )

pub shape_of-at : goal.shape_of-at
shape_of-at c = c.loop-k.invariant.1

pub returns : goal.returns
returns c =
    let l = c.loop-k in
    let v = c.loop-k.invariant in
    let e : l.k ≡ c.args.t = omega arith in
    record { is = sym (v.2 ∙ rows-done _ _ _ _ (omega arith)); size = v.1; stands = λ _. rw e at v.4 }
