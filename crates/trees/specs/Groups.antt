-- The groups of the majority tree, and how near two taxa are by them. A group is a majority split's mask, the side without taxon 0: so
-- taxon 0 is in no group.
--
--   up_to n               the taxa 0 to n - 1
--   taxa_in n m           the taxa of the mask m, of n taxa
--   has_both i j m        the mask m has the taxa i and j
--   nearest n i j ms     of the masks ms that have the taxa i and j, the one with the fewest of n taxa; of several as small the first; 0 where
--                        none has both
--   group_of n i j ms     that mask; all taxa, where none has both
--   stand_ins n i ms      all other taxa, those whose group with taxon i is larger first
use Rattle.std.specs.Prelude.{ℕ, zero, suc, Bool, ◌&&◌, ◌||◌, not, List, [], ◌∷◌, ◌++◌, leb, eqb, if◌then◌else◌}
use Rattle.trees.specs.Plain.{keep}
use Rattle.trees.specs.Mask.{has, ones_below, every_taxon}

unfoldable pub up_to : ℕ → List ℕ
up_to zero = []
up_to (suc n) = up_to n ++ n ∷ []

unfoldable pub taxa_in : ℕ → ℕ → List ℕ
unfolding keep has up_to
taxa_in n m = keep (has m) (up_to n)

-- "both": m has the taxa i and j
unfoldable pub has_both : ℕ → ℕ → ℕ → Bool
unfolding has
has_both i j m = has m i && has m j

-- m, where it has the taxa i and j and no more taxa than `other`, if that is a group at all
unfoldable pub nearer : ℕ → ℕ → ℕ → ℕ → ℕ → ℕ
unfolding has_both ones_below
nearer n i j m other = if has_both i j m && (eqb other 0 || leb (ones_below n m) (ones_below n other)) then m else other

-- "the smallest majority group that holds both"
unfoldable pub nearest : ℕ → ℕ → ℕ → List ℕ → ℕ
unfolding nearer
nearest n i j [] = 0
nearest n i j (m ∷ ms) = nearer n i j m (nearest n i j ms)

unfoldable pub group_of : ℕ → ℕ → ℕ → List ℕ → ℕ
unfolding every_taxon nearest
group_of n i j ms = if eqb (nearest n i j ms) 0 then every_taxon n else nearest n i j ms

-- the taxa whose group with taxon i has k taxa
unfoldable pub sharing : ℕ → ℕ → List ℕ → ℕ → List ℕ
unfolding keep up_to ones_below group_of
sharing n i ms k = keep (λ j. not (eqb j i) && eqb (ones_below n (group_of n i j ms)) k) (up_to n)

-- from groups of k taxa down
unfoldable pub sharing_from : ℕ → ℕ → List ℕ → ℕ → List ℕ
unfolding sharing
sharing_from n i ms zero = []
sharing_from n i ms (suc k) = sharing n i ms (suc k) ++ sharing_from n i ms k

-- "every other strain", "those that share no majority group with it first": their group is all taxa, and no other is as large
unfoldable pub stand_ins : ℕ → ℕ → List ℕ → List ℕ
unfolding sharing_from
stand_ins n i ms = sharing_from n i ms n
