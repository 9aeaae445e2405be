-- `summary::first_line::open_names` meets its contract. Assumes nothing.
use Prim.Native.Nat.{ℕ}
use mathlib.Core.Path.{sym, ap, ◌∙◌}
use native.Mathlib.Omega.{arith}
use lib.ListN.{length, length-replicate}
use lib.Seq.{length-take-le}
use Rattle.head.specs.HeadLaws.{up_to-length}
use Rattle.summary.specs.Summary.{first_constant, second_constant}
use Rattle.summary.specs.OpeningLaws.{opened-names}
use Rattle.summary.proofs.first_line.open_names.Goals as goal

pub fill_constants-requires : goal.fill_constants-requires
fill_constants-requires c = (length-replicate {A = ℕ} 64 0, length-replicate {A = ℕ} 64 0)

pub slice_bounds-open-end : goal.slice_bounds-open-end
slice_bounds-open-end c =
    let f = c.fill_constants in
    sym (length-take-le c.args.n f.new.first (omega (arith, ap length f.ensures.first_after ∙ up_to-length first_constant 64, c.requires)))

pub slice_bounds-open-end-2 : goal.slice_bounds-open-end-2
slice_bounds-open-end-2 c =
    let f = c.fill_constants in
    sym (length-take-le c.args.n f.new.second (omega (arith, ap length f.ensures.second_after ∙ up_to-length second_constant 64, c.requires)))

pub returns : goal.returns
returns c = opened-names _ _ _ _ _ _ _ _ c.requires c.fill_constants.ensures.first_after c.fill_constants.ensures.second_after c.«open».ensures
