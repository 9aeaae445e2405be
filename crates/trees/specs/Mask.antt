-- Masks: sets of taxa, each a natural number whose bit i is set for taxon i.
--
--   has m i       taxon i is in the mask m
--   ones_below n m how many of n taxa are in the mask m
--   every_taxon n  the mask of all n taxa
--   without a b   the taxa of a that are not in b
--   apart a b     no common bit
--   within a b    the mask a lies within b
--   agree a b     the splits a and b agree
--   side n m      the side without taxon 0 of the split that parts the taxa m from the others
--   proper n m    m is the mask of a split that counts, of n taxa
--   lowest m      the smallest taxon of m
use Rattle.std.specs.Prelude.{ℕ, zero, suc, ◌-◌, ◌/◌, ◌%◌, ◌^◌, Bool, true, false, ◌&&◌, ◌||◌, leb, ltb, eqb, if◌then◌else◌}
use Rattle.std.specs.Int.Bits.{bit_and}

-- "bit i set for each taxon i on the side"
unfoldable pub has : ℕ → ℕ → Bool
has m i = eqb (m / 2 ^ i % 2) 1

-- the ones of m among its n lowest bits
unfoldable pub ones_below : ℕ → ℕ → ℕ
unfolding has
ones_below zero m = 0
ones_below (suc n) m = if has m n then suc (ones_below n m) else ones_below n m

-- taxa are numbered from 0, so n taxa are the n lowest bits
unfoldable pub every_taxon : ℕ → ℕ
every_taxon n = 2 ^ n - 1

-- what is common is taken away
unfoldable pub without : ℕ → ℕ → ℕ
without a b = a - bit_and a b

-- "their masks have no common bit"
unfoldable pub apart : ℕ → ℕ → Bool
apart a b = eqb (bit_and a b) 0

-- "one mask lies within the other"
unfoldable pub within : ℕ → ℕ → Bool
within a b = eqb (bit_and a b) a

-- "Two splits agree if their masks have no common bit or one mask lies within the other."
unfoldable pub agree : ℕ → ℕ → Bool
unfolding apart within
agree a b = apart a b || (within a b || within b a)

-- "the side WITHOUT taxon 0": of a mask with taxon 0, the other taxa
unfoldable pub side : ℕ → ℕ → ℕ
unfolding every_taxon
side n m = if eqb (m % 2) 1 then every_taxon n - m else m

-- "bit 0 is clear, and the ones number from 2 to n − 2", of n taxa
unfoldable pub proper : ℕ → ℕ → Bool
unfolding ones_below
proper n m = eqb (m % 2) 0 && (leb 2 (ones_below n m) && (leb (ones_below n m) (n - 2) && ltb m (2 ^ n)))

-- the first taxon from i on that is in the mask m, which begins with taxon i; f is more than enough steps
unfoldable pub lowest_from : ℕ → ℕ → ℕ → ℕ
lowest_from zero i m = i
lowest_from (suc f) i m = elim (eqb (m % 2) 1) [ true ↦ i | false ↦ lowest_from f (suc i) (m / 2) ]

-- the "smallest taxon" of m; of no taxa, 0
unfoldable pub lowest : ℕ → ℕ
unfolding lowest_from
lowest m = lowest_from m 0 m
