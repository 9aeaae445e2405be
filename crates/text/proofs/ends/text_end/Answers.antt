use Prim.Native.Nat.{ℕ, ◌+◌, ◌*◌, ◌/◌}
use mathlib.Core.Path.{◌≡◌, ap}
use mathlib.Core.Bool.{Bool}
use mathlib.Core.List.{List}
use native.Mathlib.Omega.{arith}
use lib.ListN.{length, drop}
use Rattle.trees.specs.Text.{before_end}
use Rattle.text.specs.Ends.{block_bytes}
use Rattle.text.proofs.PieceLaws.{end_rest, end_before, rest_all}
use Rattle.text.proofs.ends.text_end.Goals as goal

pub loop-k-init : goal.loop-k-init
loop-k-init c = (omega arith, omega arith)

pub returns-then-n-lt-BLOCK : goal.returns-then-n-lt-BLOCK
returns-then-n-lt-BLOCK c =
    let l = c.loop-k in
    let at = block_bytes * l.k in
    let p = c.args.piece.now in
    let e = end_before p l.quoted at (at + block_bytes) (omega arith) (omega arith) (omega (arith, c.end_in_block-n.ensures.value, c.if-n-lt-BLOCK.true)) in record { value = omega (arith, c.end_in_block-n.ensures.value, e, l.invariant.1); upper_bound = omega arith }

pub loop-k-preserved : goal.loop-k-preserved
loop-k-preserved c =
    let l = c.loop-k in
    let at = block_bytes * l.k in
    let p = c.args.piece.now in
    let e = end_rest p l.quoted at (at + block_bytes) (omega arith) (omega arith) (omega (arith, c.end_in_block-n.ensures.value, c.if-n-lt-BLOCK.false)) in
    let t = ap (λ (x : Bool). length (before_end x (drop (at + block_bytes) p))) c.open_after-quoted.ensures in
    let n : block_bytes * (l.k + 1) ≡ at + block_bytes = omega arith in
    rw n (omega arith, omega (arith, e, t, l.invariant.1))

pub returns : goal.returns
returns c =
    let l = c.loop-k in
    let p = c.args.piece.now in
    let k : l.k ≡ length p / 64 = omega arith in
    let at = block_bytes * (length p / 64) in
    let v = rw k at l.invariant.1 in
    let e = ap (λ (s : List ℕ). length (before_end l.quoted s)) (rest_all p at) in record { value = omega (arith, c.first_end-last.ensures.value, e, v); upper_bound = omega arith }
