-- `unlisting::unlist` meets its contract: both steps together. Assumes nothing.
use native.Mathlib.Omega.{arith}
use borrow.Author.Rules.{rules}
use Rattle.layout.specs.WholeFacts.{whole-at-facts}
use Rattle.withdrawing.specs.UnlistedLaws.{counted-trees, counted-head, unlisted}
use Rattle.withdrawing.proofs.unlisting.unlist.Goals as goal

pub move_trees-requires : goal.move_trees-requires
move_trees-requires c =
    let g = (whole-at-facts _ c.requires.s_value).head in
    let u = c.count_less.ensures in record { head_at = counted-head _ g (λ i. search rules) _ _ u; k_bound = omega (arith, c.requires.k_bound, counted-trees _ g (λ i. search rules) _ _ u) }

pub returns : goal.returns
returns c = unlisted _ (whole-at-facts _ c.requires.s_value) (λ i. search rules) _ c.requires.k_bound _ c.count_less.ensures _ c.move_trees.ensures
