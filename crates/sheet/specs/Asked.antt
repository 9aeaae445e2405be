-- What is answered of lent bytes when lines are to be printed.
--
--   fitted room ls                     the lines at the front of ls that fit into `room` bytes, one behind another
--   lines_from ls from room             the lines ls from number `from` on, as many whole ones as fit into a buffer of `room` bytes
--   lines_asked s refused from room     those of the sheet of lent bytes: 1 where they are not whole
--   bytes_given a, sizes_given a         of an answer of lines: their bytes; how many bytes, and how many lines
--   PrintsAs x r old m                 the answer x is given as r, and leaves the buffer old as m
--   refusal_asked k room                the line for a first line that is refused with k
use Rattle.std.specs.Prelude.{ℕ, ◌-◌, ◌≡◌, List, [], ◌∷◌, ltb, length, drop, if◌then◌else◌, Result}
use Rattle.trees.specs.Plain.{Answer, refused, gives}
use Rattle.trees.specs.Questions.{if_room}
use Rattle.answers.specs.Answers.{both_given}
use Rattle.answers.specs.Filled.{front}
use Rattle.store.specs.Lent.{if_whole}
use Rattle.putting.specs.Lines.{bytes_of}
use Rattle.sheet.specs.Sheet.{sheet_lines, refusal_line}
use Rattle.answers.specs.declared.Refusal.{Refusal}

unfoldable pub fitted : ℕ → List (List ℕ) → List (List ℕ)
fitted room [] = []
fitted room (l ∷ ls) = if ltb room (length l) then [] else l ∷ fitted (room - length l) ls

-- 4 where not even one fits
unfoldable pub if_any : List (List ℕ) → Answer (List (List ℕ))
if_any [] = refused 4
if_any (l ∷ ls) = gives (l ∷ ls)

-- 13 for a line past the last
unfoldable pub lines_from : List (List ℕ) → ℕ → ℕ → Answer (List (List ℕ))
unfolding fitted if_any
lines_from ls from room = if ltb from (length ls) then if_any (fitted room (drop from ls)) else refused 13

abbrev pub lines_asked : List ℕ → ℕ → ℕ → ℕ → Answer (List (List ℕ))
lines_asked s refused-texts from room = if_whole s (λ h. lines_from (sheet_lines h refused-texts) from room)

unfoldable pub bytes_given : Answer (List (List ℕ)) → Answer (List ℕ)
unfolding bytes_of
bytes_given (refused k) = refused k
bytes_given (gives ls) = gives (bytes_of ls)

unfoldable pub sizes_given : Answer (List (List ℕ)) → Answer (ℕ × ℕ)
unfolding bytes_of
sizes_given (refused k) = refused k
sizes_given (gives ls) = gives (length (bytes_of ls), length ls)

abbrev pub PrintsAs : Answer (List (List ℕ)) → Result (ℕ × ℕ) Refusal → List ℕ → List ℕ → Type 0
PrintsAs x r old m = (both_given r ≡ sizes_given x) × (m ≡ front (bytes_given x) old)

abbrev pub refusal_asked : ℕ → ℕ → Answer (List ℕ)
refusal_asked k room = if_room room (refusal_line k)
