-- Further samples, of our own: groups, stand-ins, and trees drawn.
--
--   taxa-hold          the taxa of a mask
--   nearest-hold       the smallest group of two taxa: within each other, side by side, as small ones, none
--   groups-hold        it, or all taxa
--   stand-ins-hold     all other taxa, the farthest first
--   drawings-hold      trees drawn: a star, groups beside and within each other, names that are written in quotes, and a count of two digits
use Rattle.std.specs.Prelude.{ℕ, List, [], ◌∷◌, map, ◌≡◌, refl, replicate}
use Rattle.trees.specs.Plain.{bytes}
use Rattle.trees.specs.Names.{names_in}
use Rattle.trees.specs.Groups.{taxa_in, nearest, group_of, stand_ins}
use Rattle.trees.specs.Drawn.{drawn}

pub taxa-hold : (taxa_in 5 0 ≡ []) × (taxa_in 5 24 ≡ 3 ∷ 4 ∷ []) × (taxa_in 6 38 ≡ 1 ∷ 2 ∷ 5 ∷ [])
unfolding taxa_in
taxa-hold = (refl, refl, refl)

-- eight taxa, with {3,4} within {2,3,4}, and {5,6} beside them; the taxa 0, 1 and 7 are in no group
abbrev splits : List ℕ
splits = 24 ∷ 28 ∷ 96 ∷ []

pub nearest-hold :
    (nearest 8 3 4 splits ≡ 24)
    × (nearest 8 3 2 splits ≡ 28)
    × (nearest 8 2 3 splits ≡ 28)
    × (nearest 8 3 4 (28 ∷ 24 ∷ []) ≡ 24)
    × (nearest 8 6 5 splits ≡ 96)
    × (nearest 8 3 5 splits ≡ 0)
    × (nearest 8 0 1 splits ≡ 0)
    × (nearest 8 7 3 splits ≡ 0)
    × (nearest 8 3 4 (28 ∷ 56 ∷ []) ≡ 28)
    × (nearest 8 3 4 (56 ∷ 28 ∷ []) ≡ 56)
unfolding nearest
nearest-hold = (refl, refl, refl, refl, refl, refl, refl, refl, refl, refl)

pub groups-hold : (group_of 8 3 2 splits ≡ 28) × (group_of 8 3 5 splits ≡ 255) × (group_of 8 0 1 splits ≡ 255) × (group_of 5 3 4 [] ≡ 31)
unfolding group_of
groups-hold = (refl, refl, refl, refl)

pub stand-ins-hold :
    (stand_ins 5 0 [] ≡ 1 ∷ 2 ∷ 3 ∷ 4 ∷ [])
    × (stand_ins 6 3 (12 ∷ 28 ∷ []) ≡ 0 ∷ 1 ∷ 5 ∷ 4 ∷ 2 ∷ [])
    × (stand_ins 8 3 splits ≡ 0 ∷ 1 ∷ 5 ∷ 6 ∷ 7 ∷ 2 ∷ 4 ∷ [])
    × (stand_ins 8 2 splits ≡ 0 ∷ 1 ∷ 5 ∷ 6 ∷ 7 ∷ 3 ∷ 4 ∷ [])
    × (stand_ins 8 5 splits ≡ 0 ∷ 1 ∷ 2 ∷ 3 ∷ 4 ∷ 7 ∷ 6 ∷ [])
    × (stand_ins 8 0 splits ≡ 1 ∷ 2 ∷ 3 ∷ 4 ∷ 5 ∷ 6 ∷ 7 ∷ [])
    × (stand_ins 8 7 splits ≡ 0 ∷ 1 ∷ 2 ∷ 3 ∷ 4 ∷ 5 ∷ 6 ∷ [])
unfolding stand_ins
stand-ins-hold = (refl, refl, refl, refl, refl, refl, refl)

-- ---- drawings

abbrev trees : List (List ℕ)
trees = splits ∷ splits ∷ (24 ∷ 28 ∷ []) ∷ (28 ∷ 96 ∷ []) ∷ []

pub drawings-hold :
    (drawn (names_in (bytes "A B C D")) [] [] ≡ map bytes ("+- A" ∷ "+- B" ∷ "+- C" ∷ "+- D" ∷ []))
    × (drawn (names_in (bytes "A B C D E F G")) trees splits
    ≡ map bytes ("+- A" ∷ "+- B" ∷ "+-4-+- C" ∷ "|   +-3-+- D" ∷ "|       +- E" ∷ "+-3-+- F" ∷ "    +- G" ∷ []))
    × (drawn (names_in (bytes "A B C 'D d' 'E_e' F G")) trees (12 ∷ [])
    ≡ map bytes ("+- A" ∷ "+- B" ∷ "+-0-+- C" ∷ "|   +- D_d" ∷ "+- 'E_e'" ∷ "+- F" ∷ "+- G" ∷ []))
    × (drawn (names_in (bytes "A B C D E F")) ((12 ∷ 28 ∷ []) ∷ (28 ∷ []) ∷ []) (12 ∷ 28 ∷ [])
    ≡ map bytes ("+- A" ∷ "+- B" ∷ "+-2-+-1-+- C" ∷ "|   |   +- D" ∷ "|   +- E" ∷ "+- F" ∷ []))
    × (drawn (names_in (bytes "A B C D")) (replicate 10 (12 ∷ [])) (12 ∷ []) ≡ map bytes ("+- A" ∷ "+- B" ∷ "+-10-+- C" ∷ "     +- D" ∷ []))
unfolding drawn names_in
drawings-hold = (refl, refl, refl, refl, refl)
