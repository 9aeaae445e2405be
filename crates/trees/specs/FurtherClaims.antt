-- Further samples, of our own: claims that a text is the majority tree.
--
--   sets-compared       two rising lists of masks, and the smallest mask that one has alone
--   trees-claimed       trees with any root and in any order, with a split more, with one less, with both
--   texts-claimed       quotes, semicolons, and what stands behind them
--   claims-in-order     texts that are too long, and the refusals in their order
use Rattle.std.specs.Prelude.{ℕ, List, [], ◌∷◌, ◌++◌, map, ◌≡◌, refl, replicate}
use Rattle.trees.specs.Plain.{bytes, byte, Answer, refused, gives}
use Rattle.trees.specs.Names.{names_in}
use Rattle.trees.specs.Held.{Held}
use Rattle.trees.specs.Claim.{Claimed, same, text_alone, majority_alone, compared, claim_of}
use Rattle.trees.specs.FurtherWithdrawals.{holding_trees}

-- ---- two sets

pub sets-compared :
    (compared [] [] ≡ same)
    × (compared (24 ∷ 28 ∷ []) (24 ∷ 28 ∷ []) ≡ same)
    × (compared (24 ∷ []) [] ≡ text_alone 24)
    × (compared [] (24 ∷ []) ≡ majority_alone 24)
    × (compared (24 ∷ 28 ∷ []) (28 ∷ []) ≡ text_alone 24)
    × (compared (28 ∷ []) (24 ∷ 28 ∷ []) ≡ majority_alone 24)
    × (compared (24 ∷ []) (24 ∷ 28 ∷ []) ≡ majority_alone 28)
    × (compared (24 ∷ 26 ∷ []) (24 ∷ 28 ∷ []) ≡ text_alone 26)
    × (compared (24 ∷ 28 ∷ []) (24 ∷ 26 ∷ []) ≡ majority_alone 26)
    × (compared (6 ∷ 24 ∷ []) (24 ∷ 28 ∷ []) ≡ text_alone 6)
    × (compared (24 ∷ 28 ∷ []) (6 ∷ 24 ∷ []) ≡ majority_alone 6)
    × (compared (20 ∷ 28 ∷ []) (6 ∷ 30 ∷ []) ≡ majority_alone 6)
unfolding compared
sets-compared = (refl, refl, refl, refl, refl, refl, refl, refl, refl, refl, refl, refl)

-- ---- trees

-- three trees, whose majority has the splits 24 and 28
abbrev three : Held
three = holding_trees ((24 ∷ 28 ∷ []) ∷ (20 ∷ 28 ∷ []) ∷ (24 ∷ 28 ∷ []) ∷ []) ([] ∷ [] ∷ [] ∷ [])

-- two trees, whose majority has the split 28
abbrev two : Held
two = holding_trees ((24 ∷ 28 ∷ []) ∷ (20 ∷ 28 ∷ []) ∷ []) ([] ∷ [] ∷ [])

unfoldable pub claims : List (List ℕ × Answer Claimed)
claims =
    (bytes "((A,B),C,(D,E));", gives same)
    ∷ (bytes "(A,(B,(C,(D,E))));", gives same)
    ∷ (bytes "(((E,D),C),B,A);", gives same)
    ∷ (bytes "((D,E),(C,(B,A)));", gives same)
    ∷ (bytes "(A,B,C,D,E);", gives (majority_alone 24))
    ∷ (bytes "(A,B,(C,D,E));", gives (majority_alone 24))
    ∷ (bytes "(A,B,C,(D,E));", gives (majority_alone 28))
    ∷ (bytes "((A,B),D,(C,E));", gives (text_alone 20))
    ∷ (bytes "((A,C),B,(D,E));", gives (text_alone 26))
    ∷ (bytes "((B,C),A,(D,E));", gives (text_alone 6))
    ∷ []

pub trees-claimed :
    (map (λ x. claim_of three x.0) claims ≡ map (λ x. x.1) claims)
    × (claim_of two (bytes "(A,B,(C,D,E));") ≡ gives same)
    × (claim_of two (bytes "((A,B),C,(D,E));") ≡ gives (text_alone 24))
    × (claim_of two (bytes "((A,C),B,(D,E));") ≡ gives (text_alone 24))
    × (claim_of two (bytes "((A,E),B,(C,D));") ≡ gives (text_alone 12))
    × (claim_of (holding_trees ((24 ∷ []) ∷ (20 ∷ []) ∷ []) ([] ∷ [] ∷ [])) (bytes "(E,D,C,B,A);") ≡ gives same)
    × (claim_of (holding_trees ((20 ∷ 28 ∷ []) ∷ []) ([] ∷ [])) (bytes "((A,B),C,(D,E));") ≡ gives (majority_alone 20))
unfolding claims claim_of names_in bytes
trees-claimed = (refl, refl, refl, refl, refl, refl, refl)

-- ---- texts

unfoldable pub texts : List (List ℕ × Answer Claimed)
texts =
    (bytes " ( ( A , B ) , C , ( D , E ) ) ;", gives same)
    ∷ (bytes "(('A',B)'x;y',C,(D,'E'))'it''s';", gives same)
    ∷ (bytes "((A:1,B:99999999999999999999),C,(D,E):2);", gives same)
    ∷ (bytes "((A,B),C,(D,E))", refused 7)
    ∷ (bytes "((A,B),C,(D,E));\n", refused 7)
    ∷ (bytes "((A,B),C,(D,E)); ", refused 7)
    ∷ (bytes "((A,B),C,(D,E));;", refused 7)
    ∷ (bytes "((A,B),C,(D,E));((A,B),C,(D,E));", refused 7)
    ∷ (bytes "((A,B),C,(D,F));;", refused 7)
    ∷ (bytes "((A,B),C,(D,E))';", refused 7)
    ∷ (bytes "((A,B),C,(D,E))'x;'", refused 7)
    ∷ ([], refused 7)
    ∷ (bytes ";", refused 7)
    ∷ (bytes "((A,B),C,(D,E);", refused 7)
    ∷ (bytes "((A,B),C,(D,F));", refused 8)
    ∷ (bytes "((A,B),C,(D,A));", refused 9)
    ∷ (bytes "((A,B),C,(A,F));", refused 9)
    ∷ (bytes "((A,F),C,(A,D));", refused 8)
    ∷ (bytes "((A,B),C,D);", refused 10)
    ∷ []

pub texts-claimed : map (λ x. claim_of three x.0) texts ≡ map (λ x. x.1) texts
unfolding texts claim_of names_in bytes
texts-claimed = refl

-- ---- refusals

abbrev blanks : ℕ → List ℕ
blanks n = replicate n (byte " ")

abbrev none : Held
none = holding_trees [] []

-- a tree without splits
abbrev star : Held
star = holding_trees ([] ∷ []) ([] ∷ [])

pub claims-in-order :
    (claim_of star (blanks 4597 ++ bytes "(A,B,C,D,E);") ≡ gives same)
    × (claim_of star (blanks 4598 ++ bytes "(A,B,C,D,E);") ≡ refused 6)
    × (claim_of star (blanks 4608 ++ bytes ";") ≡ refused 7)
    × (claim_of star (blanks 4609 ++ bytes ";") ≡ refused 6)
    × (claim_of star (blanks 4608) ≡ refused 7)
    × (claim_of star (blanks 4609) ≡ refused 6)
    × (claim_of star (blanks 4609 ++ bytes "; ") ≡ refused 6)
    × (claim_of star (bytes "(A,B,C,D,E);" ++ blanks 4609) ≡ refused 7)
    × (claim_of star (bytes "';'" ++ blanks 4606 ++ bytes ";") ≡ refused 6)
    × (claim_of none (bytes "((A,B),C,(D,E));") ≡ refused 14)
    × (claim_of none (blanks 4609) ≡ refused 14)
    × (claim_of none [] ≡ refused 14)
unfolding claim_of names_in bytes
claims-in-order = (refl, refl, refl, refl, refl, refl, refl, refl, refl, refl, refl, refl)
