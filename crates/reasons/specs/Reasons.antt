-- The refusals in words.
--
--   reasons                a sentence for each refusal number, from 1 on
--   reason_of k             the sentence of refusal number k
--   reason_asked k room     the same into a buffer of `room` bytes: 13 where there is no refusal of that number
--   SaysAs k r old m       the sentence of k is given as r, and leaves the buffer `old` as m
use Rattle.std.specs.Prelude.{ℕ, ◌-◌, List, [], ◌∷◌, ltb, eqb, length, get_or, if◌then◌else◌, Result}
use Rattle.trees.specs.Plain.{Answer, refused, bytes}
use Rattle.trees.specs.Questions.{if_room}
use Rattle.answers.specs.declared.Refusal.{Refusal}
use Rattle.answers.specs.Filled.{FilledAs}

-- the numbers of documents 01 and 02, in their order
unfoldable pub reasons : List (List ℕ)
unfolding bytes
reasons =
    bytes "the lent memory is not a whole collection"
    ∷ bytes "a number is out of range"
    ∷ bytes "the name list is not different names of 1 to 32 bytes"
    ∷ bytes "a lent buffer is too short"
    ∷ bytes "no such lane"
    ∷ bytes "the text is too long"
    ∷ bytes "the text is malformed"
    ∷ bytes "a leaf names no taxon"
    ∷ bytes "a leaf names a taxon again"
    ∷ bytes "a taxon is missing"
    ∷ bytes "no room for another tree"
    ∷ bytes "no room for its splits"
    ∷ bytes "no such tree or split number"
    ∷ bytes "there are no trees"
    ∷ bytes "the NEXUS file is malformed"
    ∷ bytes "a key is listed twice"
    ∷ bytes "a length is outside the exact range"
    ∷ bytes "a length is absent or none are kept"
    ∷ bytes "the file's length is no multiple of 16"
    ∷ bytes "a record is improper or out of order"
    ∷ bytes "an empty file cannot be merged"
    ∷ bytes "a sum passes 32 bits"
    ∷ bytes "two chosen splits disagree"
    ∷ bytes "the matrix is malformed"
    ∷ bytes "the matrix is not symmetric, or its diagonal not zero"
    ∷ []

unfoldable pub reason_of : ℕ → List ℕ
unfolding reasons
reason_of k = get_or reasons (k - 1) []

unfoldable pub reason_asked : ℕ → ℕ → Answer (List ℕ)
unfolding reason_of if_room
reason_asked k room = if eqb k 0 then refused 13 else (if ltb 25 k then refused 13 else if_room room (reason_of k))

abbrev pub SaysAs : ℕ → Result ℕ Refusal → List ℕ → List ℕ → Type 0
SaysAs k r old m = FilledAs (if_room (length old) (reason_of k)) r old m
