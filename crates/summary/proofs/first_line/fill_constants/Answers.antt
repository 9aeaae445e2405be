-- `summary::first_line::fill_constants` meets its contract. Assumes nothing.
use Prim.Native.Nat.{ℕ}
use mathlib.Core.Path.{refl, ap, ◌∙◌}
use native.Mathlib.Omega.{arith}
use lib.ListN.{length-set}
use Rattle.head.specs.Head.{up_to}
use Rattle.summary.specs.Summary.{first_constant, second_constant}
use Rattle.summary.specs.OpeningLaws.{constants-more, constants-all}
use Rattle.summary.proofs.first_line.fill_constants.Goals as goal

pub loop-i-init : goal.loop-i-init
loop-i-init c = (c.requires.0, c.requires.1, refl, refl)

pub loop-i-preserved : goal.loop-i-preserved
unfolding second_constant
loop-i-preserved c =
    let l = c.loop-i in
    let a = c.args in (
      simp length-set l.invariant.0,
      simp length-set l.invariant.1,
      constants-more first_constant a.first.now l.first l.i _ l.invariant.2 (omega (arith, c.requires.0)) c.first_constant.ensures,
      constants-more second_constant a.second.now l.second l.i _ l.invariant.3 (omega (arith, c.requires.1)) c.only_taxon.ensures,
    )

pub returns : goal.returns
returns c =
    let l = c.loop-i in
    let a = c.args in record {
      first_after = constants-all first_constant a.first.now l.first l.i l.invariant.2 (omega (arith, c.requires.0)) ∙ ap (up_to first_constant) c.requires.0;
      second_after = constants-all second_constant a.second.now l.second l.i l.invariant.3 (omega (arith, c.requires.1)) ∙ ap (up_to second_constant) c.requires.1;
    }
