-- Lines of words.
--
--   spaced ws                  the words ws, each behind a space
--   fields ws, line_of ws       the words ws, parted by one space; and with their line end
--   bytes_of ls                 the bytes of the lines ls, one behind another
use Rattle.std.specs.Prelude.{ℕ}
use mathlib.Core.List.{List, [], ◌∷◌, ◌++◌, flat_map}
use Rattle.trees.specs.Plain.{byte}

unfoldable pub spaced : List (List ℕ) → List ℕ
spaced [] = []
spaced (w ∷ ws) = byte " " ∷ (w ++ spaced ws)

-- "Fields are parted by one space"
unfoldable pub fields : List (List ℕ) → List ℕ
unfolding spaced
fields [] = []
fields (w ∷ ws) = w ++ spaced ws

-- "every line ends with LF"
unfoldable pub line_of : List (List ℕ) → List ℕ
unfolding fields
line_of ws = fields ws ++ byte "\n" ∷ []

unfoldable pub bytes_of : List (List ℕ) → List ℕ
unfolding flat_map
bytes_of ls = flat_map (λ l. l) ls
