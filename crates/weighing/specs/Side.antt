-- Where the smallest mask stands that is left of two rising lists.
--
--   Side a i b j r     behind the places i of a and j of b: r is Equal where it stands in both, Less in the first, Greater in the second
use Rattle.std.specs.Prelude.{ℕ, ◌<◌, ◌≡◌, List, length, get_or}
use Rattle.std.specs.declared.cmp.Ordering.{Ordering}
use Rattle.std.specs.declared.cmp.Ordering.TheVariants.{Less, Equal, Greater}

pub record Side (a : List ℕ) (i : ℕ) (b : List ℕ) (j : ℕ) (r : Ordering) : Type 0 where
  pub both : r ≡ Equal → (i < length a) × (j < length b) × (get_or a i 0 ≡ get_or b j 0)
  pub first : r ≡ Less → (i < length a) × (j < length b → get_or a i 0 < get_or b j 0)
  pub second : r ≡ Greater → (j < length b) × (i < length a → get_or b j 0 < get_or a i 0)
