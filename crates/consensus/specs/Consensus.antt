-- What is answered of lent bytes when a tree is to be written: 1 where they are not whole, else what crate trees says of what they hold.
--
--   strict_asked s room         the tree of the splits that all trees have, into a buffer of `room` bytes
--   majority_asked s room       the tree of the splits that more than half of the trees have
--   both_asked s a b            both of these trees, into buffers of a and b bytes
--   written_asked s i room      accepted tree i
--   text_asked s l room         the tree of the splits l, over the names of the store
use Rattle.std.specs.Prelude.{ℕ, List}
use Rattle.trees.specs.Plain.{Answer}
use Rattle.trees.specs.Written.{written}
use Rattle.trees.specs.Questions.{if_room, strict_of, majority_of, both_of, written_of}
use Rattle.head.specs.Head.{names_at}
use Rattle.store.specs.Lent.{if_whole}

abbrev pub strict_asked : List ℕ → ℕ → Answer (List ℕ)
strict_asked s room = if_whole s (λ h. strict_of h room)

abbrev pub majority_asked : List ℕ → ℕ → Answer (List ℕ)
majority_asked s room = if_whole s (λ h. majority_of h room)

abbrev pub both_asked : List ℕ → ℕ → ℕ → Answer (List ℕ × List ℕ)
both_asked s a b = if_whole s (λ h. both_of h a b)

abbrev pub written_asked : List ℕ → ℕ → ℕ → Answer (List ℕ)
written_asked s i room = if_whole s (λ h. written_of h i room)

abbrev pub text_asked : List ℕ → List ℕ → ℕ → Answer (List ℕ)
text_asked s l room = if_room room (written (names_at s) l)
