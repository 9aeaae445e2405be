-- Further samples, of our own: withdrawn trees.
--
--   withdrawals-hold       the first, a middle, the last and no such tree: the answer, the trees that are left, their lengths, and the lanes
--   left-hold              counts, split numbers, the lengths of a split and room, before and after a withdrawal
--   withdrawal-runs-hold   withdrawals among calls, final answers and whole texts
use Rattle.std.specs.Prelude.{ℕ, true, List, [], ◌∷◌, map, ◌≡◌, refl, replicate}
use Rattle.std.proofs.Math.Option.{none, some}
use Rattle.trees.specs.Plain.{bytes, Answer, refused, gives}
use Rattle.trees.specs.Names.{names_in}
use Rattle.trees.specs.Value.{Length}
use Rattle.trees.specs.Verdict.{Branches}
use Rattle.trees.specs.Held.{Held, Lane, holding, overrun, more_wanted, accepted, room_for}
use Rattle.trees.specs.Withdrawing.{Withdrawn, withdrawing}
use Rattle.trees.specs.Questions.{split_number, sums_of}
use Rattle.trees.specs.Runs.{Call, feed, close, withdraw, fed, closed_lane, withdrew, answers, ending, accepted_as, closed_with, withdrawn_with, finals, pending_after, whole_texts, on_lane, on_one_lane}
use Rattle.trees.specs.FurtherSums.{one, two, three, large, larger}

-- "Lanes in mid-text": one with a text begun, and one that ran over with quotes open
abbrev lanes : List Lane
lanes = holding (bytes "((A,B),C") ∷ overrun true ∷ []

-- full rooms, for three trees and three splits; lengths are kept
abbrev pub holding_trees : List (List ℕ) → List (List Length) → Held
holding_trees ts xs = record {
  opening = record {
    numbers = record { taxa = 5; lanes = 2; tree_room = 3; split_room = 3; places = 1; kept = 1 };
    names = names_in (bytes "A B C D E");
    first = replicate 5 0;
    second = replicate 5 0;
  };
  trees = ts;
  lengths = xs;
  texts = lanes;
}

abbrev held : Held
held =
    holding_trees ((20 ∷ 28 ∷ []) ∷ (24 ∷ 28 ∷ []) ∷ (28 ∷ []) ∷ [])
    ((some two ∷ some large ∷ []) ∷ (none ∷ some one ∷ []) ∷ (some two ∷ []) ∷ [])

abbrev without_first : Held
without_first = holding_trees ((24 ∷ 28 ∷ []) ∷ (28 ∷ []) ∷ []) ((none ∷ some one ∷ []) ∷ (some two ∷ []) ∷ [])

-- what withdrawing gives, as a pair
abbrev given : Withdrawn → Answer (Unit {0}) × Held
given w = (w.answer, w.after)

-- "trees after it move down by one number"; "Refusals: 13 as before"
pub withdrawals-hold :
    (given (withdrawing held 0) ≡ (gives tt, without_first))
    × (given (withdrawing held 1)
    ≡ (gives tt, holding_trees ((20 ∷ 28 ∷ []) ∷ (28 ∷ []) ∷ []) ((some two ∷ some large ∷ []) ∷ (some two ∷ []) ∷ [])))
    × (given (withdrawing held 2)
    ≡ (gives tt, holding_trees ((20 ∷ 28 ∷ []) ∷ (24 ∷ 28 ∷ []) ∷ []) ((some two ∷ some large ∷ []) ∷ (none ∷ some one ∷ []) ∷ [])))
    × (given (withdrawing held 3) ≡ (refused 13, held))
    × (given (withdrawing (holding_trees [] []) 0) ≡ (refused 13, holding_trees [] []))
unfolding withdrawing
withdrawals-hold = (refl, refl, refl, refl, refl)

-- ---- what follows from the trees that are left

abbrev tree : List ℕ → Branches
tree t = record { splits = t; lengths = map (λ _. some one) t }

-- "A split whose count falls to 0 leaves the table; its room and the tree's serve again"
pub left-hold :
    (split_number held 0 ≡ gives (20, 1))
    × (split_number held 2 ≡ gives (28, 3))
    × (sums_of held 2 ≡ gives (record { shortest = one; longest = large; sum = larger }))
    × (room_for held (tree []) ≡ refused 11)
    × (split_number without_first 0 ≡ gives (24, 1))
    × (split_number without_first 1 ≡ gives (28, 2))
    × (split_number without_first 2 ≡ refused 13)
    × (sums_of without_first 1 ≡ gives (record { shortest = one; longest = two; sum = three }))
    × (room_for without_first (tree (18 ∷ [])) ≡ gives (tree (18 ∷ [])))
    × (room_for without_first (tree (18 ∷ 20 ∷ [])) ≡ refused 12)
unfolding split_number sums_of room_for
left-hold = (refl, refl, refl, refl, refl, refl, refl, refl, refl, refl)

-- ---- runs

abbrev cut : List Call
cut = feed 0 (bytes "A") ∷ withdraw 1 ∷ feed 1 (bytes "B") ∷ feed 0 (bytes ";") ∷ withdraw 0 ∷ close 1 ∷ []

pub withdrawal-runs-hold :
    (answers held (withdraw 3 ∷ withdraw 0 ∷ withdraw 2 ∷ []) ≡ withdrew (refused 13) ∷ withdrew (gives tt) ∷ withdrew (refused 13) ∷ [])
    × (ending held (withdraw 3 ∷ withdraw 0 ∷ withdraw 2 ∷ []) ≡ without_first)
    × (finals (withdrew (refused 13) ∷ fed 1 (gives more_wanted) ∷ fed 2 (gives (accepted 4)) ∷ withdrew (gives tt) ∷ closed_lane (gives tt) ∷ [])
    ≡ withdrawn_with (refused 13) ∷ accepted_as 4 ∷ withdrawn_with (gives tt) ∷ closed_with (gives tt) ∷ [])
    × (whole_texts 2 cut ≡ withdraw 1 ∷ feed 0 (bytes "A;") ∷ withdraw 0 ∷ feed 1 (bytes "B") ∷ close 1 ∷ [])
    × (pending_after ([] ∷ [] ∷ []) (feed 0 (bytes "A") ∷ withdraw 0 ∷ []) ≡ bytes "A" ∷ [] ∷ [])
    × (map (on_lane (on_one_lane 2)) (withdraw 1 ∷ close 1 ∷ []) ≡ withdraw 1 ∷ close 0 ∷ [])
unfolding answers ending finals whole_texts pending_after on_lane on_one_lane bytes
withdrawal-runs-hold = (refl, refl, refl, refl, refl, refl)
