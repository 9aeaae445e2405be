use Rattle.std.proofs.Common.{◌≡◌, ℕ, ◌+◌, ◌-◌, ◌*◌, ◌%◌, get_or, sym, ap, ◌∙◌, zero-add, arith}
use Rattle.distances.specs.Eight.{byte_at}
use Rattle.distances.specs.EightLaws.{column-none, column-more, bytes_next, byte-first}
use Rattle.distances.proofs.eight.put_column.Goals as goal

pub loop-b-init : goal.loop-b-init
loop-b-init c = (omega arith, c.requires.out_len, column-none _ _ _ _ _, λ a. ap (byte_at c.args.w) (sym (zero-add a)))

pub overflow_add-out : goal.overflow_add-out
overflow_add-out c = let f = c.requires.fits in omega (arith, f.there.0, f.trees, c.requires.fits.there.0)

pub offset_bounds-sizes-i : goal.offset_bounds-sizes-i
offset_bounds-sizes-i c = omega (arith, c.requires.fits.there.0)

pub bounds-sizes-i : goal.bounds-sizes-i
bounds-sizes-i c = let f = c.requires.fits in omega (arith, f.there.0, f.trees)

pub offset_bounds-sizes-j : goal.offset_bounds-sizes-j
offset_bounds-sizes-j c = omega (arith, c.requires.fits.there.1)

pub bounds-sizes-j : goal.bounds-sizes-j
bounds-sizes-j c = let f = c.requires.fits in omega (arith, f.there.1, f.trees)

pub overflow_add-out-in-loop-b : goal.overflow_add-out-in-loop-b
overflow_add-out-in-loop-b c =
    let f = c.requires.fits in
    omega (arith, f.own-small, f.small c.loop-b.b (omega arith))

pub overflow_sub-out : goal.overflow_sub-out
overflow_sub-out c =
    let f = c.requires.fits in
    let l = c.loop-b in
    omega (arith, f.enough l.b (omega arith), byte-first _ _ _ l.invariant.3)

pub overflow_mul-out-in-loop-b : goal.overflow_mul-out-in-loop-b
overflow_mul-out-in-loop-b c = omega (arith, c.requires.fits.few)

pub overflow_add-out-in-loop-b-2 : goal.overflow_add-out-in-loop-b-2
overflow_add-out-in-loop-b-2 c = omega (arith, c.requires.fits.few, c.requires.fits.there.1)

pub offset_bounds-out-b : goal.offset_bounds-out-b
offset_bounds-out-b c = omega (arith, c.requires.fits.few, c.requires.fits.there.1)

pub bounds-out-b : goal.bounds-out-b
bounds-out-b c = let f = c.requires.fits in omega (arith, f.few, f.there.1, c.loop-b.invariant.1)

pub loop-b-preserved : goal.loop-b-preserved
loop-b-preserved c =
    let f = c.requires.fits in
    let l = c.loop-b in
    let a = c.args in
    let both = get_or a.sizes.now (a.i + l.b) 0 + get_or a.sizes.now a.j 0 in
    let e = byte-first _ _ _ l.invariant.3 in
    let q = column-more _ _ _ _ l.b _ _ l.invariant.2 c.requires.out_len (omega (arith, f.few)) f.there.1 (both - 2 * (l.rest % 256)) (ap (λ (x : ℕ). both - 2 * x) e) in
    (omega arith, q.room ∙ c.requires.out_len, q, bytes_next _ _ _ l.invariant.3)

pub returns : goal.returns
returns c =
    let l = c.loop-b in
    let e : l.b ≡ c.args.n = omega (arith, l.invariant.0) in
    rw e at l.invariant.2
