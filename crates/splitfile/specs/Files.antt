-- What the calls on split files answer of lent bytes: 1 where they are not whole, else what crate trees says of what they hold.
--
--   file_asked s room                 the file of the collection's splits, into a buffer of `room` bytes
--   read_asked s f a b                what the file f reads as, into buffers of a masks and b counts
--   merge_asked s f g room            the files f and g, merged
--   strict_file_asked s f room         the strict tree of the file f, written
--   majority_file_asked s f room       its majority tree, written
--   read_given a                      how many trees a call gives that reads a file, and how many records
--   masks_read, counts_read            the masks and the counts that it gives
--   ReadAs x r xs ys m n             the answer x is given as r, and leaves the buffers xs and ys as m and n
use Rattle.std.specs.Prelude.{◌≡◌, ℕ, List, length, Result}
use Rattle.trees.specs.Plain.{Answer, refused, gives}
use Rattle.trees.specs.SplitFileCall.{Splits, file_of, reading_of, merging_of, strict_file_of, majority_file_of}
use Rattle.answers.specs.Answers.{both_given}
use Rattle.answers.specs.Filled.{front}
use Rattle.store.specs.Lent.{if_whole}
use Rattle.answers.specs.declared.Refusal.{Refusal}

abbrev pub file_asked : List ℕ → ℕ → Answer (List ℕ)
file_asked s room = if_whole s (λ h. file_of h room)

abbrev pub read_asked : List ℕ → List ℕ → ℕ → ℕ → Answer Splits
read_asked s f a b = if_whole s (λ h. reading_of h f a b)

abbrev pub merge_asked : List ℕ → List ℕ → List ℕ → ℕ → Answer (List ℕ)
merge_asked s f g room = if_whole s (λ h. merging_of h f g room)

abbrev pub strict_file_asked : List ℕ → List ℕ → ℕ → Answer (List ℕ)
strict_file_asked s f room = if_whole s (λ h. strict_file_of h f room)

abbrev pub majority_file_asked : List ℕ → List ℕ → ℕ → Answer (List ℕ)
majority_file_asked s f room = if_whole s (λ h. majority_file_of h f room)

-- "An empty file has no known number of trees": 0
unfoldable pub read_given : Answer Splits → Answer (ℕ × ℕ)
read_given (refused k) = refused k
read_given (gives x) = gives (x.trees, length x.masks)

unfoldable pub masks_read : Answer Splits → Answer (List ℕ)
masks_read (refused k) = refused k
masks_read (gives x) = gives x.masks

unfoldable pub counts_read : Answer Splits → Answer (List ℕ)
counts_read (refused k) = refused k
counts_read (gives x) = gives x.counts

abbrev pub ReadAs : Answer Splits → Result (ℕ × ℕ) Refusal → List ℕ → List ℕ → List ℕ → List ℕ → Type 0
ReadAs x r xs ys m n = (both_given r ≡ read_given x) × ((m ≡ front (masks_read x) xs) × (n ≡ front (counts_read x) ys))
