-- Further samples, of our own: weighted distances, and the shortest, longest and summed length of a split.
--
--   weighted-holds     equal trees, splits that one tree lacks, and rounding by the order of the masks
--   sums-hold          one length, lengths of either sign, and rounding by the order of the trees
use Rattle.std.specs.Prelude.{true, false, [], ◌∷◌, ◌≡◌, refl, pos, negsuc, Float}
use Rattle.std.specs.Float.{fin}
use Rattle.trees.specs.Sums.{plus_zero, Sums, sums}
use Rattle.trees.specs.Weighted.{weighted}

abbrev pub half : Float
half = fin false 1 (negsuc 0)

abbrev minus_half : Float
minus_half = fin true 1 (negsuc 0)

abbrev pub one : Float
one = fin false 1 (pos 0)

abbrev pub two : Float
two = fin false 1 (pos 1)

abbrev pub three : Float
three = fin false 3 (pos 0)

-- 2^53: one more is no double
abbrev pub large : Float
large = fin false 1 (pos 53)

abbrev minus_large : Float
minus_large = fin true 1 (pos 53)

-- 2^53 + 2
abbrev pub larger : Float
larger = fin false 4503599627370497 (pos 1)

-- ---- the weighted distance

pub weighted-holds :
    (weighted [] [] [] [] ≡ plus_zero)
    × (weighted (24 ∷ 28 ∷ []) (one ∷ three ∷ []) (24 ∷ 28 ∷ []) (one ∷ three ∷ []) ≡ plus_zero)
    × (weighted (24 ∷ 28 ∷ []) (one ∷ three ∷ []) (28 ∷ []) (two ∷ []) ≡ two)
    × (weighted (28 ∷ []) (two ∷ []) (24 ∷ 28 ∷ []) (one ∷ three ∷ []) ≡ two)
    × (weighted (20 ∷ []) (half ∷ []) (24 ∷ []) (half ∷ []) ≡ one)
    × (weighted (24 ∷ []) (minus_half ∷ []) (24 ∷ []) (half ∷ []) ≡ one)
    × (weighted (24 ∷ []) (minus_half ∷ []) [] [] ≡ half)
    × (weighted (20 ∷ 24 ∷ 28 ∷ []) (one ∷ one ∷ large ∷ []) [] [] ≡ larger)
    × (weighted (20 ∷ 24 ∷ 28 ∷ []) (large ∷ one ∷ one ∷ []) [] [] ≡ large)
    × (weighted (28 ∷ []) (large ∷ []) (20 ∷ 24 ∷ []) (one ∷ one ∷ []) ≡ larger)
    × (weighted (20 ∷ []) (large ∷ []) (24 ∷ 28 ∷ []) (one ∷ one ∷ []) ≡ large)
unfolding weighted
weighted-holds = (refl, refl, refl, refl, refl, refl, refl, refl, refl, refl, refl)

-- ---- shortest, longest and sum

abbrev all : Float → Float → Float → Sums
all x y z = record { shortest = x; longest = y; sum = z }

pub sums-hold :
    (sums (half ∷ []) ≡ all half half half)
    × (sums (two ∷ one ∷ three ∷ []) ≡ all one three (fin false 3 (pos 1)))
    × (sums (half ∷ minus_large ∷ plus_zero ∷ []) ≡ all minus_large half minus_large)
    × (sums (minus_half ∷ half ∷ []) ≡ all minus_half half plus_zero)
    × (sums (one ∷ large ∷ minus_large ∷ []) ≡ all minus_large large plus_zero)
    × (sums (large ∷ minus_large ∷ one ∷ []) ≡ all minus_large large one)
    × (sums (one ∷ one ∷ large ∷ []) ≡ all one large larger)
    × (sums (large ∷ one ∷ one ∷ []) ≡ all one large large)
unfolding sums
sums-hold = (refl, refl, refl, refl, refl, refl, refl, refl)
