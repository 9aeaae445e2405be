-- What the arguments of an opening give.
--
--   flag_of b                   whether lengths are kept, as a number
--   numbers_of n l t s m b      the numbers, as one record
--   opening_with x ns f s       the opening of the numbers x, the names ns and two lists of constants
--   opening_of x list f s       the same, of a name list
use Rattle.std.specs.Prelude.{ℕ, Bool, List, if◌then◌else◌}
use Rattle.trees.specs.Names.{names_in}
use Rattle.trees.specs.Opening.{Numbers, Opening}

-- "Opening says whether lengths are kept"
unfoldable pub flag_of : Bool → ℕ
flag_of kept = if kept then 1 else 0

abbrev pub numbers_of : ℕ → ℕ → ℕ → ℕ → ℕ → Bool → Numbers
numbers_of taxa lanes tree_room split_room places kept =
    record { taxa = taxa; lanes = lanes; tree_room = tree_room; split_room = split_room; places = places; kept = flag_of kept }

abbrev pub opening_with : Numbers → List (List ℕ) → List ℕ → List ℕ → Opening
opening_with x names first second = record { numbers = x; names = names; first = first; second = second }

abbrev pub opening_of : Numbers → List ℕ → List ℕ → List ℕ → Opening
opening_of x list first second = opening_with x (names_in list) first second
