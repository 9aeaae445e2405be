use mathlib.Core.Path.{◌≡◌, refl, sym, ap, ◌∙◌}
use mathlib.Core.Bool.{true≢false}
use native.Mathlib.Omega.{arith}
use borrow.Author.Tests.{ltb-true, ltb-false}
use Rattle.trees.specs.Names.{names_in, good_names}
use Rattle.opening.specs.Places.{first_names}
use Rattle.opening.specs.PlacesLaws.{reached-none, reached-many, reached-bad, reached-long, reached-more, reached-all, reached-fewer}
use Rattle.opening.proofs.names.place_names.Goals as goal

pub loop-i-init : goal.loop-i-init
loop-i-init c = (refl, reached-none _ _)

pub returns-then-list-at : goal.returns-then-list-at
returns-then-list-at c = let l = c.loop-i in record { names_after = λ e. absurd (true≢false (sym e)); list_value = λ _. reached-fewer _ l.at l.i l.names l.invariant.1 (omega arith) _ (λ e. omega arith) }

pub returns-then-list-e : goal.returns-then-list-e
returns-then-list-e c = let l = c.loop-i in record { names_after = λ e. absurd (true≢false (sym e)); list_value = λ _. reached-bad _ l.at l.i l.names l.invariant.1 _ (c.name_end-e.ensures.bad c.if-list-e.true) }

pub place_name-requires : goal.place_name-requires
place_name-requires c = record { b_le_e = (omega arith, omega arith); head_bytes_in_bounds = omega arith; i_bound = omega arith }

pub returns-then-not-place_name : goal.returns-then-not-place_name
returns-then-not-place_name c = let l = c.loop-i in record { names_after = λ e. absurd (true≢false (sym e)); list_value = λ _. reached-long _ l.at l.i l.names l.invariant.1 _ c.name_end-e.ensures (omega arith) _ (c.place_name.ensures.long (c.if-not-place_name.true)) }

pub loop-i-preserved : goal.loop-i-preserved
loop-i-preserved c =
    let l = c.loop-i in (
      omega arith,
      reached-more _ l.at l.i l.names l.invariant.1 _ c.name_end-e.ensures (omega arith) _ _ (c.if-not-place_name.false) c.place_name.ensures (omega arith) (omega arith),
    )

pub returns : goal.returns
returns c =
    let l = c.loop-i in
    let list = c.args.list.now in
    let n : l.i ≡ c.args.n = omega arith in
    record {
      names_after = λ e. ap (λ n. first_names n l.names) (sym n) ∙ reached-all list l.at l.i l.names l.invariant.1 (ltb-true _ _ e);
      list_value = λ e. ap (λ n. good_names n (names_in list)) (sym n) ∙ reached-many list l.at l.i l.names l.invariant.1 (ltb-false _ _ e);
    }
