-- What the questions answer of lent bytes: 1 where they are not whole, else what crate trees says of what they hold.
--
--   trees_asked, splits_asked            the number of accepted trees, of recorded splits
--   split_asked s k                     the mask and the count of split k
--   split_list_asked s a b               every recorded split and its count, into buffers of a and b elements
--   tree_asked s i room                 the splits of tree i, into a buffer of `room` elements
--   split_lengths_asked s k              the shortest, longest and summed length of split k
use Rattle.std.specs.Prelude.{ℕ, List}
use Rattle.trees.specs.Plain.{Answer}
use Rattle.trees.specs.Sums.{Sums}
use Rattle.trees.specs.Questions.{trees_held, splits_held, split_list, split_number, tree_number, sums_of}
use Rattle.store.specs.Lent.{if_whole}

abbrev pub trees_asked : List ℕ → Answer ℕ
trees_asked s = if_whole s trees_held

abbrev pub splits_asked : List ℕ → Answer ℕ
splits_asked s = if_whole s splits_held

abbrev pub split_asked : List ℕ → ℕ → Answer (ℕ × ℕ)
split_asked s k = if_whole s (λ h. split_number h k)

abbrev pub split_list_asked : List ℕ → ℕ → ℕ → Answer (List ℕ × List ℕ)
split_list_asked s a b = if_whole s (λ h. split_list h a b)

abbrev pub tree_asked : List ℕ → ℕ → ℕ → Answer (List ℕ)
tree_asked s i room = if_whole s (λ h. tree_number h i room)

abbrev pub split_lengths_asked : List ℕ → ℕ → Answer Sums
split_lengths_asked s k = if_whole s (λ h. sums_of h k)
