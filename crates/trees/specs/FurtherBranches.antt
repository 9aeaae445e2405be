-- Further samples, of our own: branch lengths of trees (request 2026-03), in a collection that keeps them and in one that does not.
--
--   keeping ts      a collection over A to E that keeps lengths, fed with the texts ts one after another
--   texts           texts, each handed to an empty collection that keeps lengths: the splits' lengths, or the refusal
use Rattle.std.specs.Prelude.{ℕ, false, true, List, [], ◌∷◌, map, ◌≡◌, refl, pos, negsuc, Float, replicate}
use Prim.Native.String.{String}
use Rattle.std.proofs.Math.Option.{none, some}
use Rattle.std.specs.Float.{nan, inf, fin}
use Rattle.trees.specs.Plain.{bytes, Answer, refused, gives}
use Rattle.trees.specs.Value.{Length}
use Rattle.trees.specs.Names.{names_in}
use Rattle.trees.specs.Verdict.{Branches, judged_with}
use Rattle.trees.specs.Sums.{plus_zero}
use Rattle.trees.specs.Held.{Held, holding, opened, verdict}
use Rattle.trees.specs.Questions.{weighted_of, sums_of}
use Rattle.trees.specs.Whole.{good_lengths}
use Rattle.trees.specs.Samples.{fed_with, collection}
use Rattle.trees.specs.FurtherSums.{half, one, two, three, large, larger}

abbrev five : Float
five = fin false 5 (pos 0)

abbrev names : List (List ℕ)
names = names_in (bytes "A B C D E")

-- ---- texts

pub record Text : Type 0 where
  pub name : String
  pub text : String
  pub says : Answer Branches

abbrev with : List ℕ → List Length → Answer Branches
with ms xs = gives (record { splits = ms; lengths = xs })

unfoldable pub texts : List Text
texts =
    record { name = "a length each"; text = "((A,B):3,C,(D,E):.5)"; says = with (24 ∷ 28 ∷ []) (some half ∷ some three ∷ []) }
    ∷ record { name = "one of them absent"; text = "((A,B),C,(D,E):2)"; says = with (24 ∷ 28 ∷ []) (some two ∷ none ∷ []) }
    ∷ record { name = "of leaves and of the root none is kept"; text = "((A:1,B:1),C:1,(D:1,E:1):2)x:9"; says = with (24 ∷ 28 ∷ []) (some two ∷ none ∷ []) }
    ∷ record { name = "both lengths of a root with two children"; text = "((A,B):3,(C,(D,E):1):2)"; says = with (24 ∷ 28 ∷ []) (some one ∷ some five ∷ []) }
    ∷ record { name = "only one of them"; text = "((A,B):3,(C,(D,E):1))"; says = with (24 ∷ 28 ∷ []) (some one ∷ none ∷ []) }
    ∷ record { name = "the other one"; text = "((A,B),(C,(D,E):1):3)"; says = with (24 ∷ 28 ∷ []) (some one ∷ none ∷ []) }
    ∷ record { name = "a leaf below a root with two children"; text = "(A:1,((B,C):2,D,E):3)"; says = with (6 ∷ []) (some two ∷ []) }
    ∷ record { name = "minus a half and a half"; text = "((A,B):-.5,(C,D,E):.5)"; says = with (28 ∷ []) (some plus_zero ∷ []) }
    ∷ record { name = "minus zero is plus zero"; text = "((A,B):-0,C,D,E)"; says = with (28 ∷ []) (some plus_zero ∷ []) }
    ∷ record { name = "a leaf's length outside the range"; text = "((A,B:1e23),C,D,E)"; says = refused 17 }
    ∷ record { name = "the root's"; text = "((A,B),C,D,E):0e23"; says = refused 17 }
    ∷ record { name = "a split's"; text = "((A,B):9007199254740993,C,D,E)"; says = refused 17 }
    ∷ record { name = "10 before 17"; text = "((A,B):1e23,C,D)"; says = refused 10 }
    ∷ record { name = "7 before 17"; text = "((A,B):1e23,C,D,E"; says = refused 7 }
    ∷ []

pub branches-hold : map (λ r. judged_with 1 names (bytes r.text)) texts ≡ map (λ r. r.says) texts
unfolding texts judged_with names_in bytes
branches-hold = refl

-- "if not .., all is as before"
pub not-kept : judged_with 0 names (bytes "((A,B):1e23,C,(D,E):2)") ≡ with (24 ∷ 28 ∷ []) []
unfolding judged_with names_in bytes
not-kept = refl

-- ---- questions

unfoldable pub keeping : List String → Held
unfolding fed_with opened names_in bytes
keeping ts =
    fed_with
    (opened (record {
      numbers = record { taxa = 5; lanes = 1; tree_room = 4; split_room = 8; places = 1; kept = 1 };
      names = names;
      first = replicate 5 0;
      second = replicate 5 0;
    }))
    ts

-- four trees: 24 and 28 with lengths; 20 and 28 with lengths; 24 and 28, one without a length; no splits
abbrev held : Held
held = keeping ("((A,B):3,C,(D,E):.5);" ∷ "((A,B):1,D,(C,E):2);" ∷ "((A,B):2,C,(D,E));" ∷ "(A,B,C,D,E);" ∷ [])

pub length-questions-hold :
    (weighted_of held 0 0 ≡ gives plus_zero)
    × (weighted_of held 0 1 ≡ gives (fin false 9 (negsuc 0)))
    × (weighted_of held 1 0 ≡ gives (fin false 9 (negsuc 0)))
    × (weighted_of held 3 1 ≡ gives three)
    × (weighted_of held 3 3 ≡ gives plus_zero)
    × (weighted_of held 0 2 ≡ refused 18)
    × (weighted_of held 2 2 ≡ refused 18)
    × (weighted_of held 2 4 ≡ refused 13)
    × (weighted_of held 4 0 ≡ refused 13)
    × (sums_of held 0 ≡ gives (record { shortest = two; longest = two; sum = two }))
    × (sums_of held 1 ≡ refused 18)
    × (sums_of held 2 ≡ gives (record { shortest = one; longest = three; sum = fin false 3 (pos 1) }))
    × (sums_of held 3 ≡ refused 13)
unfolding keeping weighted_of sums_of
length-questions-hold = (refl, refl, refl, refl, refl, refl, refl, refl, refl, refl, refl, refl, refl)

-- "added from 0 in tree order": 1, 1 and 2^53 give 2^53 + 2, but 2^53, 1 and 1 give 2^53
abbrev rising : Held
rising = keeping ("((A,B):1,C,D,E);" ∷ "((A,B):1,C,D,E);" ∷ "((A,B):9007199254740992,C,D,E);" ∷ [])

abbrev falling : Held
falling = keeping ("((A,B):9007199254740992,C,D,E);" ∷ "((A,B):1,C,D,E);" ∷ "((A,B):1,C,D,E);" ∷ [])

pub tree-order-holds :
    (sums_of rising 0 ≡ gives (record { shortest = one; longest = large; sum = larger }))
    × (sums_of falling 0 ≡ gives (record { shortest = one; longest = large; sum = large }))
unfolding keeping sums_of
tree-order-holds = (refl, refl)

-- 17 stands before 11: the tree room is used up
pub length-verdicts-hold :
    (verdict held (holding (bytes "((A,B):1e23,C,D,E)")) ≡ refused 17)
    × (verdict held (holding (bytes "((A,B):1e22,C,D,E)")) ≡ refused 11)
unfolding keeping verdict bytes
length-verdicts-hold = (refl, refl)

-- "none are kept": 18, after 13
abbrev without : Held
without = collection "A B C D E" ("((A,B):3,C,(D,E):.5);" ∷ "(A,B,C,D,E);" ∷ [])

pub no-lengths-hold :
    (weighted_of without 0 0 ≡ refused 18)
    × (weighted_of without 1 1 ≡ refused 18)
    × (weighted_of without 0 2 ≡ refused 13)
    × (sums_of without 0 ≡ refused 18)
    × (sums_of without 2 ≡ refused 13)
unfolding collection weighted_of sums_of bytes
no-lengths-hold = (refl, refl, refl, refl, refl)

-- ---- whole

abbrev one-tree : Length → List (List Length)
one-tree x = (x ∷ []) ∷ []

-- "finite and not minus zero", and one for each split; if they are not kept, none
pub whole-lengths-hold :
    (good_lengths 1 ((24 ∷ 28 ∷ []) ∷ [] ∷ []) ((some half ∷ none ∷ []) ∷ [] ∷ []) ≡ true)
    × (good_lengths 1 ((28 ∷ []) ∷ []) (one-tree (some plus_zero)) ≡ true)
    × (good_lengths 1 ((28 ∷ []) ∷ []) (one-tree (some (fin true 1 (pos 0)))) ≡ true)
    × (good_lengths 1 ((28 ∷ []) ∷ []) (one-tree (some (fin true 0 (pos 0)))) ≡ false)
    × (good_lengths 1 ((28 ∷ []) ∷ []) (one-tree (some (inf false))) ≡ false)
    × (good_lengths 1 ((28 ∷ []) ∷ []) (one-tree (some (inf true))) ≡ false)
    × (good_lengths 1 ((28 ∷ []) ∷ []) (one-tree (some nan)) ≡ false)
    × (good_lengths 1 ((24 ∷ 28 ∷ []) ∷ []) (one-tree (some one)) ≡ false)
    × (good_lengths 1 ([] ∷ []) (one-tree (some one)) ≡ false)
    × (good_lengths 1 ([] ∷ []) [] ≡ false)
    × (good_lengths 1 [] ([] ∷ []) ≡ false)
    × (good_lengths 0 ((28 ∷ []) ∷ []) ([] ∷ []) ≡ true)
    × (good_lengths 0 ((28 ∷ []) ∷ []) (one-tree none) ≡ false)
unfolding good_lengths
whole-lengths-hold = (refl, refl, refl, refl, refl, refl, refl, refl, refl, refl, refl, refl, refl)
