use Prim.Native.Nat.{◌+◌, ◌*◌, ◌/◌}
use mathlib.Core.Path.{◌≡◌, ap}
use mathlib.Core.Bool.{Bool}
use native.Mathlib.Omega.{arith}
use lib.ListN.{drop, length}
use Rattle.trees.specs.Batch.{texts_in}
use Rattle.text.specs.Ends.{block_bytes}
use Rattle.text.proofs.PieceLaws.{texts-rest, rest_all}
use Rattle.text.proofs.ends.count_texts.Goals as goal

pub loop-k-init : goal.loop-k-init
loop-k-init c = (omega arith, omega arith, omega arith)

pub overflow_add-n : goal.overflow_add-n
overflow_add-n c = let l = c.loop-k in
    let at = block_bytes * l.k in omega (arith, c.count_block-more.ensures.upper_bound, l.invariant.0, l.invariant.1)

pub loop-k-preserved : goal.loop-k-preserved
loop-k-preserved c =
    let l = c.loop-k in
    let at = block_bytes * l.k in
    let p = c.args.piece.now in
    let e = texts-rest p l.quoted at (at + block_bytes) (omega arith) in
    let t = ap (λ (x : Bool). texts_in x (drop (at + block_bytes) p)) c.open_after-quoted.ensures in
    let n : block_bytes * (l.k + 1) ≡ at + block_bytes = omega arith in
    rw n (omega arith, omega (arith, c.count_block-more.ensures.upper_bound, l.invariant.1), omega (arith, c.count_block-more.ensures.value, e, t, l.invariant.2))

pub overflow_add-result : goal.overflow_add-result
overflow_add-result c =
    let l = c.loop-k in
    let at = block_bytes * l.k in
    omega (arith, c.count_block-last.ensures.upper_bound, l.invariant.0, l.invariant.1)

pub returns : goal.returns
returns c =
    let l = c.loop-k in
    let p = c.args.piece.now in
    let k : l.k ≡ length p / 64 = omega arith in
    let at = block_bytes * (length p / 64) in
    let v = rw k at l.invariant.2 in
    omega (arith, c.count_block-last.ensures.value, ap (texts_in l.quoted) (rest_all p at), v)
