-- The laws of the search for the widest split, mask by mask. Assumes nothing.
--
--   search-start, search-more, search-end     none is seen, one more, and all of the first k
use Rattle.std.specs.Prelude.{ℕ, ◌+◌, ◌≤◌, ◌<◌, ◌≡◌, List, length, get_or, take}
use Rattle.std.proofs.Math.Numerals.{add-one}
use Rattle.std.proofs.Math.Path.{refl}
use Rattle.std.proofs.Math.Seq.{slice, slice_empty, slice-cons}
use Rattle.trees.specs.Written.{wider, widest_or, widest}

module _ (m i : ℕ) (s : List ℕ) (k : ℕ) where
  pub search-start : widest m i (take k s) ≡ widest_or 0 m i (slice 0 k s)
  unfolding widest
  search-start = refl

  pub search-more : (j best b : ℕ) → j < k → k ≤ length s → b ≡ wider m i (get_or s j 0) best
      → widest_or best m i (slice j k s) ≡ widest_or b m i (slice (j + 1) k s)
  unfolding widest_or
  search-more j best b h l e = rw (slice-cons j k s 0 h l, add-one j, e)

  pub search-end : (j best : ℕ) → j ≡ k → widest_or best m i (slice j k s) ≡ best
  unfolding widest_or
  search-end j best e = rw (e, slice_empty k s)
