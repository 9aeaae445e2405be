use Rattle.std.proofs.Common.{◌≡◌, arith}
use Rattle.layout.specs.InsideLaws.{trees-few}
use Rattle.distances.specs.ShortLaws.{short-few, shortened-none, shortened-more}
use Rattle.distances.specs.WholeTreeLaws.{head_at}
use Rattle.distances.proofs.short.shorten.Goals as goal

pub loop-i-init : goal.loop-i-init
loop-i-init c = (omega arith, shortened-none _ _ _ c.requires.short_len c.requires.sizes_len)

pub shorten_tree-size-requires : goal.shorten_tree-size-requires
shorten_tree-size-requires c = let v = c.loop-i.invariant in record { s_value = c.requires.s_value; i_bound = omega (arith, c.requires.n_bound); short_len = v.1.room }

pub overflow_cast-sizes : goal.overflow_cast-sizes
overflow_cast-sizes c =
    let l = c.loop-i in
    omega (arith, c.shorten_tree-size.ensures.value, short-few c.args.s.now c.requires.s_value l.i (omega (arith, c.requires.n_bound)))

pub offset_bounds-sizes-i : goal.offset_bounds-sizes-i
offset_bounds-sizes-i c = let l = c.loop-i in
    omega (arith, c.requires.n_bound, trees-few _ (head_at _ c.requires.s_value))

pub bounds-sizes-i : goal.bounds-sizes-i
bounds-sizes-i c =
    let l = c.loop-i in
    omega (arith, c.requires.n_bound, trees-few _ (head_at _ c.requires.s_value))

pub loop-i-preserved : goal.loop-i-preserved
loop-i-preserved c =
    let l = c.loop-i in
    (omega arith, rw c.shorten_tree-size.ensures.short_after (shortened-more c.args.s.now c.requires.s_value l.i l.short l.sizes l.invariant.1 _ (omega (arith, c.requires.n_bound)) c.shorten_tree-size.ensures.value))

pub returns : goal.returns
returns c =
    let l = c.loop-i in
    let e : l.i ≡ c.args.n = omega (arith, l.invariant.0) in
    rw e at l.invariant.1
