-- The summary sheet: what `treesum` prints of a collection, line by line.
--
--   counts_line h refused       how many taxa, accepted trees, refused texts and recorded splits there are
--   split_line h m              the mask m and its count
--   row_line h t                the doubled distances of the tree t from all trees
--   tree_text h splits          the tree of these splits; `none`, where there are no trees
--   majority_line, strict_line   the two consensus trees
--   sheet_lines h refused       all lines of the sheet, in order
--   refusal_line k              the line printed for a first line that is refused with k
use Rattle.std.specs.Prelude.{ℕ, List, [], ◌∷◌, ◌++◌, map, eqb, length, if◌then◌else◌}
use Prim.Native.String.{String}
use Rattle.trees.specs.Plain.{bytes}
use Rattle.trees.specs.Decimal.{digits_of}
use Rattle.trees.specs.Distance.{doubled}
use Rattle.trees.specs.Consensus.{recorded, count, strict, majority}
use Rattle.trees.specs.Written.{written}
use Rattle.trees.specs.Held.{Held}
use Rattle.putting.specs.Lines.{line_of}

-- "Line one counts taxa, accepted trees, refused texts (a refused closing included) and recorded splits"
unfoldable pub counts_line : Held → ℕ → List ℕ
unfolding line_of bytes digits_of recorded
counts_line h refused =
    line_of
    (bytes "taxa"
    ∷ digits_of h.opening.numbers.taxa
    ∷ bytes "trees"
    ∷ digits_of (length h.trees)
    ∷ bytes "refused"
    ∷ digits_of refused
    ∷ bytes "splits"
    ∷ digits_of (length (recorded h.trees))
    ∷ [])

-- "mask and count of each split"
unfoldable pub split_line : Held → ℕ → List ℕ
unfolding line_of digits_of count
split_line h m = line_of (digits_of m ∷ digits_of (count h.trees m) ∷ [])

-- "the doubled distances": a row of the matrix, that of the tree t
unfoldable pub row_line : Held → List ℕ → List ℕ
unfolding line_of digits_of doubled
row_line h t = line_of (map (λ u. digits_of (doubled t u)) h.trees)

-- "With no trees the last lines are `majority none` and `strict none`"
unfoldable pub tree_text : Held → List ℕ → List ℕ
unfolding bytes written
tree_text h splits = if eqb (length h.trees) 0 then bytes "none" else written h.opening.names splits

-- "the two trees"
unfoldable pub tree_line : Held → String → List ℕ → List ℕ
unfolding line_of bytes tree_text
tree_line h word splits = line_of (bytes word ∷ tree_text h splits ∷ [])

unfoldable pub majority_line : Held → List ℕ
unfolding tree_line majority
majority_line h = tree_line h "majority" (majority h.trees)

unfoldable pub strict_line : Held → List ℕ
unfolding tree_line strict
strict_line h = tree_line h "strict" (strict h.trees)

-- the counts; "then mask and count of each split, the doubled distances, the two trees"
unfoldable pub sheet_lines : Held → ℕ → List (List ℕ)
unfolding counts_line split_line row_line majority_line strict_line recorded
sheet_lines h refused =
    counts_line h refused
    ∷ (map (split_line h) (recorded h.trees) ++ (map (row_line h) h.trees ++ majority_line h ∷ strict_line h ∷ []))

-- "A bad first line gives only `names refused` and the number"
unfoldable pub refusal_line : ℕ → List ℕ
unfolding line_of bytes digits_of
refusal_line k = line_of (bytes "names" ∷ bytes "refused" ∷ digits_of k ∷ [])
