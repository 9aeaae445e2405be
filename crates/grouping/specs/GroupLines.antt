-- The groups of the majority tree, and the stand-ins of a taxon, as lines.
--
--   labels ns l             the names of the taxa l, as they are written in a tree
--   group_line h m           a group of the majority tree: how many trees have it, and its names
--   group_lines h            every group of the majority tree, by rising mask
--   stand_in_line h i j       taxon j as a stand-in for taxon i: how many trees have the smallest group that holds both, and its names
--   stand_in_lines h i        every other taxon as a stand-in for taxon i, the farthest first
use Rattle.std.specs.Prelude.{ℕ, List, [], ◌∷◌, ◌++◌, map, eqb, get_or, if◌then◌else◌}
use Rattle.trees.specs.Plain.{bytes}
use Rattle.trees.specs.Decimal.{digits_of}
use Rattle.trees.specs.Consensus.{count, majority}
use Rattle.trees.specs.Written.{written_name}
use Rattle.trees.specs.Groups.{taxa_in, nearest, stand_ins}
use Rattle.trees.specs.Held.{Held}
use Rattle.putting.specs.Lines.{line_of}

unfoldable pub labels : List (List ℕ) → List ℕ → List (List ℕ)
unfolding written_name
labels ns l = map (λ i. written_name (get_or ns i [])) l

-- "each group of the majority tree by its names and how many trees have it"
unfoldable pub group_line : Held → ℕ → List ℕ
unfolding line_of bytes digits_of count labels taxa_in
group_line h m = line_of (bytes "group" ∷ digits_of (count h.trees m) ∷ labels h.opening.names (taxa_in h.opening.numbers.taxa m))

unfoldable pub group_lines : Held → List (List ℕ)
unfolding group_line majority
group_lines h = map (group_line h) (majority h.trees)

-- "with the smallest majority group that holds both and that group's count"; `none` where they share none
unfoldable pub stand_in_line : Held → ℕ → ℕ → List ℕ
unfolding line_of bytes digits_of count labels taxa_in nearest majority
stand_in_line h i j =
    let n = h.opening.numbers.taxa in
    let ns = h.opening.names in
    let ms = majority h.trees in
    let x = nearest n i j ms in
    line_of (bytes "apart" ∷ (labels ns (j ∷ []) ++ (if eqb x 0 then bytes "none" ∷ [] else digits_of (count h.trees x) ∷ labels ns (taxa_in n x))))

-- "for one strain its stand-ins, every other strain"
unfoldable pub stand_in_lines : Held → ℕ → List (List ℕ)
unfolding stand_in_line stand_ins majority
stand_in_lines h i = map (stand_in_line h i) (stand_ins h.opening.numbers.taxa i (majority h.trees))
