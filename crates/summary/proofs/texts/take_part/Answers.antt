-- `summary::texts::take_part` meets its contract. Assumes nothing.
use Prim.Native.Nat.{ℕ}
use mathlib.Core.Path.{refl, sym}
use native.Mathlib.Omega.{arith}
use lib.ListN.{length-replicate}
use lib.Seq.{length-take-le}
use Rattle.std.proofs.lemmas.Result.{err_from_is_err_and}
use Rattle.summary.specs.Texts.{part}
use Rattle.summary.specs.PartLaws.{part-refused, part-given, verdicts-there}
use Rattle.summary.proofs.texts.take_part.Goals as goal

pub slice_bounds-verdicts-end : goal.slice_bounds-verdicts-end
slice_bounds-verdicts-end c = verdicts-there _ _ _ (length-replicate {A = ℕ} part 0) (omega arith) 0 _ _ _ _ c.in_ok-n.ensures _ refl

pub slice_bounds-count_refused-end : goal.slice_bounds-count_refused-end
slice_bounds-count_refused-end c = sym (length-take-le _ _ (verdicts-there _ _ _ (length-replicate {A = ℕ} part 0) (omega arith) 0 _ _ _ _ c.in_ok-n.ensures _ refl))

pub returns : goal.returns
returns c = part-given _ _ _ (length-replicate {A = ℕ} part 0) (omega arith) _ _ _ _ _ c.in_ok-n.ensures _ _ refl c.count_refused-more.ensures _ c.add_capped-all.ensures

pub returns-in_err-n : goal.returns-in_err-n
returns-in_err-n c =
    let p = err_from_is_err_and c.from_residual.result c.from_residual.ensures.1 in
    rw (p.1, p.2) (part-refused _ _ _ (length-replicate {A = ℕ} part 0) (omega arith) _ _ _ _ _ c.in_err-n.ensures _ refl)
