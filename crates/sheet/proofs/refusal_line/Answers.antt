-- `sheet::refusal_line` meets its contract. Assumes nothing.
use Prim.Native.Nat.{ℕ}
use native.Mathlib.Omega.{arith}
use lib.ListN.{replicate, length-replicate}
use Rattle.putting.specs.PutLaws.{put-taken}
use Rattle.sheet.specs.AskedLaws.{refusal-put, refusal-given}
use Rattle.sheet.proofs.refusal_line.Goals as goal

pub returns : goal.returns
returns c =
    let e = c.put_end-n.ensures in
    let a = c.args in
    refusal-given a.k a.out.now _ (put-taken (replicate 64 0) _ _ _ (refusal-put _ (rw c.from.ensures at c.put_counted-e.ensures.put) e) (omega (arith, c.put_counted-e.ensures.upper_bound.0, e.ends, length-replicate {A = ℕ} 64 0))) _ _ c.give.ensures
