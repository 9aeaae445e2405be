use Prim.Native.Nat.{◌+◌}
use native.Mathlib.Omega.{arith}
use mathlib.Core.Path.{◌≡◌, refl, ◌∙◌}
use Rattle.withdrawing.specs.ClosingLaws.{kept-none, order-none}
use Rattle.withdrawing.proofs.CloseOrderLaws.{row_below, named, state-stays, state-leaves}
use Rattle.withdrawing.proofs.leaving.close_order.Goals as goal
use Rattle.withdrawing.proofs.leaving.close_order.Goals.{else-get32-ne0, then-get32-ne0}

pub counts_from-counts-requires : goal.counts_from-counts-requires
counts_from-counts-requires c = c.requires.head

pub order_from-from-requires : goal.order_from-from-requires
order_from-from-requires c = c.requires.head

pub loop-k-init : goal.loop-k-init
loop-k-init c =
    let o = c.requires in
    let s = c.args.s.now in (
      record {
        ordered = o;
        counts-is = c.counts_from-counts.ensures.value;
        from_is = c.order_from-from.ensures.value;
        inside = omega (arith, c.order_from-from.ensures.value, o.inside);
        apart = omega (arith, c.order_from-from.ensures.value, c.counts_from-counts.ensures.value, o.counts);
      },
      record { below = omega arith; fewer = omega arith; count = kept-none s; closed = order-none s _; same = refl },
    )

pub overflow_add-from : goal.overflow_add-from
overflow_add-from c = omega (arith, c.loop-k.invariant.0.inside)

pub number16-row-requires : goal.number16-row-requires
number16-row-requires c = let l = c.loop-k in omega (arith, l.invariant.0.inside, l.invariant.1.same)

pub overflow_add-counts : goal.overflow_add-counts
overflow_add-counts c = let l = c.loop-k in omega (arith, row_below l.invariant.0 l.invariant.1 c.loop-k-test.true _ c.number16-row.ensures.value, l.invariant.0.apart, l.invariant.0.inside)

pub get32-requires : goal.get32-requires
get32-requires c = let l = c.loop-k in omega (arith, row_below l.invariant.0 l.invariant.1 c.loop-k-test.true _ c.number16-row.ensures.value, l.invariant.0.apart, l.invariant.0.inside, l.invariant.1.same)

pub overflow_mul-m : goal.overflow_mul-m
overflow_mul-m c = let l = c.loop-k in omega (arith, l.invariant.1.fewer, l.invariant.1.below, l.invariant.0.inside)

pub overflow_add-from-then-get32-ne0 : goal.overflow_add-from-then-get32-ne0
overflow_add-from-then-get32-ne0 c = let l = c.loop-k in omega (arith, l.invariant.1.fewer, l.invariant.1.below, l.invariant.0.inside)

pub overflow_add-row : goal.overflow_add-row
overflow_add-row c = omega (arith, c.number16-row.ensures.upper_bound)

pub offset_bounds-entries-row : goal.offset_bounds-entries-row
offset_bounds-entries-row c = omega (arith, c.number16-row.ensures.upper_bound)

pub bounds-entries-row : goal.bounds-entries-row
bounds-entries-row c = let l = c.loop-k in omega (arith, row_below l.invariant.0 l.invariant.1 c.loop-k-test.true _ c.number16-row.ensures.value, l.invariant.0.ordered.long)

pub overflow_sub-entries : goal.overflow_sub-entries
overflow_sub-entries c = let l = c.loop-k in named l.invariant.0 l.invariant.1 c.loop-k-test.true _ c.number16-row.ensures.value _ c.get32.ensures (λ z. omega (arith, c.if-get32-ne0.true))

pub put16-requires : goal.put16-requires
put16-requires c = let l = c.loop-k in omega (arith, l.invariant.1.fewer, c.loop-k-test.true, l.invariant.0.inside, l.invariant.1.same)

pub loop-k-preserved : goal.loop-k-preserved
loop-k-preserved c =
    let l = c.loop-k in
    let g = c.loop-k.invariant.0 in
    let x = c.loop-k.invariant.1 in
    let row = c.number16-row.result in
    let h = c.loop-k-test.true in
    let d = c.number16-row.ensures.value in
    let e = c.get32.ensures in (
      g,
      elim c.if-get32-ne0.branch [
        | then-get32-ne0 w ↦ state-stays g x h row d _ e (λ z. omega (arith, w.if-get32-ne0.true)) _ _ (omega (arith, c.type_inv.entries (row + 1))) w.m-is (w.s-is ∙ w.put16.ensures)
        | else-get32-ne0 w ↦ state-leaves g x h row d _ e (omega (arith, w.if-get32-ne0.false)) _ _ w.m-is w.s-is
      ],
    )

pub shape_of-s : goal.shape_of-s
shape_of-s c = c.loop-k.invariant.1.same

pub returns : goal.returns
returns c =
    let l = c.loop-k in
    let e : l.k ≡ c.args.n = omega arith in
    rw e at l.invariant.1.closed
