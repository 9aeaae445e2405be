-- The majority tree of a collection, drawn.
--
--   drawn_lines h     its lines, with their line ends
use Rattle.std.specs.Prelude.{ℕ, List, [], ◌∷◌, ◌++◌, map, eqb, length, if◌then◌else◌}
use Rattle.trees.specs.Plain.{byte}
use Rattle.trees.specs.Consensus.{majority}
use Rattle.trees.specs.Drawn.{drawn}
use Rattle.trees.specs.Held.{Held}

-- "the majority tree drawn in plain text"; of no trees there is none
unfoldable pub drawn_lines : Held → List (List ℕ)
unfolding drawn majority
drawn_lines h =
    if eqb (length h.trees) 0 then []
    else map (λ l. l ++ byte "\n" ∷ []) (drawn h.opening.names h.trees (majority h.trees))
