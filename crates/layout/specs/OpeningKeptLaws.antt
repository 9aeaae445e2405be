-- What bytes with the same opening have in common. Assumes nothing.
--
--   numbers-held, first-held, second-held, size-held     the numbers, the constants, and the size
--   head-held                                            with the rooms, that the head is in order
use Rattle.std.specs.Prelude.{ℕ, ◌≤◌, ◌≡◌, List, length}
use Rattle.std.proofs.Common.{arith, ◌∙◌}
use Rattle.std.proofs.Math.Path.{ap}
use Rattle.trees.specs.Opening.{Opening, store_size}
use Rattle.trees.specs.Whole.{good_opening}
use Rattle.head.specs.Head.{numbers_at, first_at, second_at, opening_at}
use Rattle.layout.specs.Store.{size_at, trees_held_at, splits_held_at}
use Rattle.layout.specs.WholeFacts.{HeadAt}

module _ (s t : List ℕ) (e : opening_at t ≡ opening_at s) where
  pub numbers-held : numbers_at t ≡ numbers_at s
  unfolding opening_at
  numbers-held = ap (λ (o : Opening). o.numbers) e

  pub first-held : first_at t ≡ first_at s
  unfolding opening_at
  first-held = ap (λ (o : Opening). o.first) e

  pub second-held : second_at t ≡ second_at s
  unfolding opening_at
  second-held = ap (λ (o : Opening). o.second) e

  pub size-held : size_at t ≡ size_at s
  unfolding size_at
  size-held = ap store_size numbers-held

  pub head-held : HeadAt s → length t ≡ length s → trees_held_at t ≤ (numbers_at s).tree_room → splits_held_at t ≤ (numbers_at s).split_room → HeadAt t
  head-held h l a b = record {
    head-there = omega (arith, h.head-there);
    opening-good = ap good_opening e ∙ h.opening-good;
    reached = omega (arith, h.reached, size-held);
    trees-fit = rw numbers-held a;
    splits-fit = rw numbers-held b;
  }
