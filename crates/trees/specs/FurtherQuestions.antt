-- Further samples, of our own: questions. Answers and refusals of small collections, and the hash.
--
--   questions-hold     every question, with its answer, its refusal, and the shortest buffer that is long enough
--   hash-holds         places, identifiers and collisions with constants that are not 0
use Rattle.std.specs.Prelude.{[], ◌∷◌, ◌≡◌, refl}
use Rattle.trees.specs.Plain.{bytes, refused, gives}
use Rattle.trees.specs.Names.{names_in}
use Rattle.trees.specs.Hash.{place, identifier, collisions}
use Rattle.trees.specs.Held.{Held, opened}
use Rattle.trees.specs.Questions.{trees_held, splits_held, split_list, split_number, tree_number, one_sided_of, doubled_of, matrix_of, collisions_of, strict_of, majority_of, both_of, written_of}
use Rattle.trees.specs.Samples.{fed_with, collection}

abbrev none : Held
none = collection "A B C D E" []

abbrev one : Held
one = collection "A B C D E" ("((A,B),C,(D,E));" ∷ [])

abbrev three : Held
three = collection "A B C D E" ("((A,B),C,(D,E));" ∷ "((A,B),D,(C,E));" ∷ "((D,E),(C,(A,B)));" ∷ [])

pub questions-hold :
    (trees_held one ≡ gives 1)
    × (splits_held one ≡ gives 2)
    × (split_list three 3 3 ≡ gives (20 ∷ 24 ∷ 28 ∷ [], 1 ∷ 2 ∷ 3 ∷ []))
    × (split_list three 3 2 ≡ refused 4)
    × (split_list three 2 3 ≡ refused 4)
    × (split_number three 1 ≡ gives (24, 2))
    × (split_number three 3 ≡ refused 13)
    × (tree_number three 1 2 ≡ gives (20 ∷ 28 ∷ []))
    × (tree_number three 1 1 ≡ refused 4)
    × (tree_number three 3 0 ≡ refused 13)
    × (one_sided_of three 0 3 ≡ refused 13)
    × (one_sided_of three 3 0 ≡ refused 13)
    × (doubled_of three 0 3 ≡ refused 13)
    × (doubled_of three 3 0 ≡ refused 13)
    × (matrix_of three 9 ≡ gives (0 ∷ 2 ∷ 0 ∷ 2 ∷ 0 ∷ 2 ∷ 0 ∷ 2 ∷ 0 ∷ []))
    × (matrix_of three 8 ≡ refused 4)
    × (matrix_of none 0 ≡ gives [])
    × (collisions_of three ≡ gives 3)
    × (majority_of three 16 ≡ gives (bytes "(A,B,(C,(D,E)));"))
    × (majority_of three 15 ≡ refused 4)
    × (majority_of none 0 ≡ refused 14)
    × (strict_of three 14 ≡ gives (bytes "(A,B,(C,D,E));"))
    × (strict_of three 13 ≡ refused 4)
    × (strict_of none 0 ≡ refused 14)
    × (both_of three 14 16 ≡ gives (bytes "(A,B,(C,D,E));", bytes "(A,B,(C,(D,E)));"))
    × (both_of three 13 16 ≡ refused 4)
    × (both_of three 14 15 ≡ refused 4)
    × (both_of none 0 0 ≡ refused 14)
    × (written_of three 1 16 ≡ gives (bytes "(A,B,((C,E),D));"))
    × (written_of three 1 15 ≡ refused 4)
    × (written_of three 3 0 ≡ refused 13)
unfolding collection trees_held splits_held split_list split_number tree_number one_sided_of doubled_of matrix_of collisions_of majority_of strict_of both_of written_of bytes
questions-hold = (refl, refl, refl, refl, refl, refl, refl, refl, refl, refl, refl, refl, refl, refl, refl, refl, refl, refl, refl, refl, refl, refl, refl, refl, refl, refl, refl, refl, refl, refl, refl)

-- ---- the hash

-- its splits are 18 and 28: of two places both have place 0, and both have the identifier 10
abbrev hashed : Held
hashed =
    fed_with
    (opened (record {
      numbers = record { taxa = 5; lanes = 1; tree_room = 4; split_room = 8; places = 2; kept = 0 };
      names = names_in (bytes "A B C D E");
      first = 0 ∷ 0 ∷ 1 ∷ 1 ∷ 0 ∷ [];
      second = 0 ∷ 8 ∷ 3 ∷ 5 ∷ 2 ∷ [];
    }))
    ("((A,B),C,D,E);" ∷ "((B,E),A,C,D);" ∷ [])

pub hash-holds :
    (place (1 ∷ 2 ∷ 4 ∷ 8 ∷ 16 ∷ []) 100 22 ≡ 22)
    × (place (1 ∷ 2 ∷ 4 ∷ 8 ∷ 16 ∷ []) 7 22 ≡ 1)
    × (identifier (1 ∷ 2 ∷ 4 ∷ 8 ∷ 16 ∷ []) 22 ≡ 22)
    × (identifier (0 ∷ 18446744073709551615 ∷ 3 ∷ []) 6 ≡ 2)
    × (identifier (0 ∷ 18446744073709551614 ∷ 1 ∷ []) 6 ≡ 18446744073709551615)
    × (collisions (0 ∷ 0 ∷ 1 ∷ 1 ∷ 0 ∷ []) (0 ∷ 0 ∷ 5 ∷ 5 ∷ 9 ∷ []) 2 (20 ∷ 24 ∷ 28 ∷ []) ≡ 1)
    × (collisions (0 ∷ 0 ∷ 1 ∷ 1 ∷ 0 ∷ []) (0 ∷ 0 ∷ 5 ∷ 6 ∷ 9 ∷ []) 2 (20 ∷ 24 ∷ 28 ∷ []) ≡ 0)
    × (collisions (0 ∷ 0 ∷ 0 ∷ 1 ∷ 0 ∷ []) (0 ∷ 0 ∷ 5 ∷ 5 ∷ 9 ∷ []) 2 (20 ∷ 24 ∷ 28 ∷ []) ≡ 0)
    × (collisions_of hashed ≡ gives 1)
unfolding place identifier collisions collisions_of fed_with opened names_in bytes
hash-holds = (refl, refl, refl, refl, refl, refl, refl, refl, refl)
