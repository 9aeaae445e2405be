-- Laws of one length more.
--
--   sums-more          a tree behind others: the three of a list with one length more at its end
--   in_order, sums-in_order     n lengths, the first and then one after another, give the three of the list of n
use Rattle.std.specs.Prelude.{◌<◌, ◌≡◌, refl, List, [], ◌∷◌, ◌++◌, length, Float}
use Rattle.std.proofs.Common.{arith}
use Rattle.trees.specs.Sums.{plus_zero, shortest, longest, added, Sums, sums}
use Rattle.theorems.specs.SumLaws.{shortest-append, longest-append, added-append}
use Rattle.weighing.specs.Summed.{with_length}

pub sums-more : (xs : List Float) (y : Float) → 0 < length xs → sums (xs ++ y ∷ []) ≡ with_length (sums xs) y
unfolding sums with_length
sums-more [] y h = absurd (omega arith)
sums-more (x ∷ xs) y h = rw (shortest-append x xs (y ∷ []), longest-append x xs (y ∷ []), added-append plus_zero (x ∷ xs) (y ∷ []))

-- one length after another
unfoldable pub in_order : Sums → List Float → Sums
unfolding with_length
in_order s [] = s
in_order s (x ∷ xs) = in_order (with_length s x) xs

in_order-is : (s : Sums) (xs : List Float) → in_order s xs ≡ record { shortest = shortest s.shortest xs; longest = longest s.longest xs; sum = added s.sum xs }
unfolding in_order
in_order-is s [] = refl
in_order-is s (x ∷ xs) = in_order-is (with_length s x) xs

pub sums-in_order : (x : Float) (xs : List Float) → in_order (sums (x ∷ [])) xs ≡ sums (x ∷ xs)
unfolding sums
sums-in_order x xs = in_order-is (sums (x ∷ [])) xs
