use native.Mathlib.Omega.{arith}
use mathlib.Core.Path.{refl, sym, ◌∙◌}
use mathlib.Core.Bool.{true≢false, false≢true}
use Rattle.phylip.specs.SymmetryLaws.{first-is, agreed-start, agreed-more, agreed-differs, agreed-done}
use Rattle.phylip.proofs.symmetry.agrees.Goals as goal

pub returns-then-first-ne0 : goal.returns-then-first-ne0
returns-then-first-ne0 c =
    record {
      size = refl;
      yes = λ e. absurd (false≢true e);
      no = λ e h. c.if-first-ne0.true (first-is _ _ _ _ c.value_at-first.ensures ∙ h.zero);
    }

pub loop-j-init : goal.loop-j-init
loop-j-init c = (omega arith, omega arith, agreed-start _ _ _ _ c.value_at-first.ensures)

pub shape_of-at-then-a-b : goal.shape_of-at-then-a-b
shape_of-at-then-a-b c = c.loop-j.invariant.2.size

pub returns-then-a-b : goal.returns-then-a-b
returns-then-a-b c =
    let l = c.loop-j in
    record {
      size = l.invariant.2.size;
      yes = λ e. absurd (false≢true e);
      no = λ e h. agreed-differs _ _ _ _ _ _ l.invariant.2 l.invariant.0 _ _ c.value_at-a.ensures c.value_at-b.ensures _ (omega arith) c.if-a-b.true h;
    }

pub loop-j-preserved : goal.loop-j-preserved
loop-j-preserved c =
    let l = c.loop-j in
    let q = c.requires.t_in_bounds in (
      omega arith,
      omega arith,
      agreed-more _ _ _ _ _ _ l.invariant.2 l.invariant.0 _ _ c.value_at-a.ensures c.value_at-b.ensures (omega (arith, q, l.invariant.2.size)) c.if-a-b.false,
    )

pub shape_of-at : goal.shape_of-at
shape_of-at c = c.loop-j.invariant.2.size

pub returns : goal.returns
returns c =
    let l = c.loop-j in
    record {
      size = l.invariant.2.size;
      yes = λ e. agreed-done _ _ _ _ _ _ _ l.invariant.2 (omega arith) (sym (first-is _ _ _ _ c.value_at-first.ensures) ∙ c.if-first-ne0.false);
      no = λ e. absurd (true≢false e);
    }
