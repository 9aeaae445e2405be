-- The release sheet: what `treesheet` prints of a collection, line by line.
--
--   newick_lines h                 the two trees alone
--   first_lines h refused          what every other sheet has: counts, groups, the two trees, the majority tree drawn
--   split_lines h wanted           the recorded splits, where they are wanted
--   apart_lines h apart            the stand-ins of the taxon that is asked for
--   release_lines h refused w      all lines, by what is wanted
--   is_taxon h apart               the taxon that is asked for is one of the collection's
--   release_of h refused w room    what is answered: 13 for stand-ins of no such taxon; 4; or the bytes of these lines
--   release_asked s refused w room     the same of lent bytes: 1 where they are not whole
use Rattle.std.specs.Prelude.{ℕ, Bool, true, List, [], ◌∷◌, ◌++◌, map, ltb, eqb, length, if◌then◌else◌, Option, None, Some}
use Rattle.trees.specs.Plain.{Answer, refused}
use Rattle.trees.specs.Consensus.{recorded, strict, majority}
use Rattle.trees.specs.Written.{written}
use Rattle.trees.specs.Held.{Held}
use Rattle.trees.specs.Questions.{if_room}
use Rattle.store.specs.Lent.{if_whole}
use Rattle.putting.specs.Lines.{line_of, bytes_of}
use Rattle.sheet.specs.Sheet.{counts_line, split_line, majority_line, strict_line}
use Rattle.grouping.specs.GroupLines.{group_lines, stand_in_lines}
use Rattle.drawing.specs.DrawnLines.{drawn_lines}
use Rattle.release.specs.declared.Wanted.{Wanted}
use Rattle.answers.specs.declared.Taxon.{Taxon}

-- "the two trees alone, for other programs"; of no trees there are none

unfoldable pub newick_lines : Held → List (List ℕ)
unfolding line_of written majority strict
newick_lines h =
    if eqb (length h.trees) 0 then []
    else line_of (written h.opening.names (majority h.trees) ∷ []) ∷ line_of (written h.opening.names (strict h.trees) ∷ []) ∷ []

-- "counts; each group of the majority tree ..; majority and strict tree; and the majority tree drawn"
unfoldable pub first_lines : Held → ℕ → List (List ℕ)
unfolding counts_line group_lines majority_line strict_line drawn_lines
first_lines h refused-texts = counts_line h refused-texts ∷ (group_lines h ++ (majority_line h ∷ strict_line h ∷ drawn_lines h))

-- "`--splits`": mask and count of each
unfoldable pub split_lines : Held → Bool → List (List ℕ)
unfolding split_line recorded
split_lines h wanted = if wanted then map (split_line h) (recorded h.trees) else []

-- "`--apart NAME`: for one strain its stand-ins"
unfoldable pub apart_lines : Held → Option Taxon → List (List ℕ)
unfolding stand_in_lines
apart_lines h None = []
apart_lines h (Some i) = stand_in_lines h i.0

unfoldable pub release_lines : Held → ℕ → Wanted → List (List ℕ)
unfolding newick_lines first_lines split_lines apart_lines
release_lines h refused-texts w =
    if w.newick then newick_lines h else first_lines h refused-texts ++ (split_lines h w.splits ++ apart_lines h w.apart)

unfoldable pub is_taxon : Held → Option Taxon → Bool
is_taxon h None = true
is_taxon h (Some i) = ltb i.0 h.opening.numbers.taxa

-- 13: no such taxon
unfoldable pub release_of : Held → ℕ → Wanted → ℕ → Answer (List ℕ)
unfolding release_lines bytes_of if_room is_taxon
release_of h refused-texts w room = if is_taxon h w.apart then if_room room (bytes_of (release_lines h refused-texts w)) else refused 13

abbrev pub release_asked : List ℕ → ℕ → Wanted → ℕ → Answer (List ℕ)
release_asked s refused-texts w room = if_whole s (λ h. release_of h refused-texts w room)
