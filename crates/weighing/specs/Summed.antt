-- The three lengths of a split, one tree after another.
--
--   with_length s x     those of one tree more, which has the length x
use Rattle.std.specs.Prelude.{[], ◌∷◌, Float}
use Rattle.trees.specs.Sums.{shortest, longest, added, Sums}

-- each of the three goes on where it stands
unfoldable pub with_length : Sums → Float → Sums
unfolding shortest longest added
with_length s x = record { shortest = shortest s.shortest (x ∷ []); longest = longest s.longest (x ∷ []); sum = added s.sum (x ∷ []) }
