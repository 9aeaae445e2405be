-- `summary::first_line::open_line` meets its contract. Assumes nothing.
use mathlib.Core.Path.{refl, sym}
use native.Mathlib.Omega.{arith}
use lib.Seq.{length-take-le}
use Rattle.summary.specs.OpeningLaws.{opened_out, opened-kept}
use Rattle.summary.proofs.first_line.open_line.Goals as goal

pub returns-then-spaces-gt63 : goal.returns-then-spaces-gt63
returns-then-spaces-gt63 c = opened_out _ _ _ c.if-spaces-gt63.true

pub slice_bounds-open_names-end : goal.slice_bounds-open_names-end
slice_bounds-open_names-end c =
    let m = c.min-used in
    sym (length-take-le m.result c.args.out.now (omega (arith, m.ensures)))

pub returns : goal.returns
returns c =
    let m = c.min-used.ensures in
    opened-kept _ _ _ _ refl (omega (arith, m)) (omega (arith, m)) (λ h. omega (arith, m)) _ _ _ c.open_names.ensures
