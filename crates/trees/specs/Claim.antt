-- The claim that a text is the majority tree of a collection. It changes nothing that the collection holds, nor a lane.
--
--   Claimed             its answer: the text has the majority's splits, or the smallest mask that is in one set alone, and in which
--   compared s m        what is answered of the splits s of a text and m of the majority, both rising
--   ends_once t          the text t ends with its only semicolon outside quotes
--   claimed_by h s       the answer to a text with the bytes s before its semicolon, but for their number
--   claim_of h t         the answer to the text t, with its semicolon
use Rattle.std.specs.Prelude.{ℕ, suc, Bool, false, List, [], ◌∷◌, ltb, eqb, length, if◌then◌else◌}
use Rattle.trees.specs.Plain.{lacking, Answer, refused, gives}
use Rattle.trees.specs.Text.{before_end}
use Rattle.trees.specs.Verdict.{judged}
use Rattle.trees.specs.Consensus.{majority}
use Rattle.trees.specs.Held.{Held, most_text}
use Rattle.trees.specs.Questions.{if_trees}

pub data Claimed : Type 0 where
  same : Claimed
  text_alone majority_alone : ℕ → Claimed

-- "name the smallest mask that is in one set alone, and which set": the masks in the text's set alone, and those in the majority's, both rising
unfoldable pub smallest_alone : List ℕ → List ℕ → Claimed
smallest_alone [] [] = same
smallest_alone (a ∷ s) [] = text_alone a
smallest_alone [] (b ∷ m) = majority_alone b
smallest_alone (a ∷ s) (b ∷ m) = if ltb a b then text_alone a else majority_alone b

-- "Accept it exactly when its splits are the majority splits"
unfoldable pub compared : List ℕ → List ℕ → Claimed
unfolding lacking smallest_alone
compared s m = smallest_alone (lacking s m) (lacking m s)

-- "The text must end with its only semicolon outside quotes": all its bytes but one stand before the first such
unfoldable pub ends_once : List ℕ → Bool
unfolding before_end
ends_once t = eqb (length t) (suc (length (before_end false t)))

-- 7 to 10; lengths are not asked for, nor rooms
unfoldable pub claimed_by : Held → List ℕ → Answer Claimed
unfolding judged compared majority
claimed_by h s = elim (judged h.opening.names s) [ refused k ↦ refused k | gives t ↦ gives (compared t (majority h.trees)) ]

-- "Order: 14, then 6 to 10"; "else 7; 6 counts the bytes before the first such, or all"
unfoldable pub claim_of : Held → List ℕ → Answer Claimed
unfolding if_trees before_end ends_once claimed_by
claim_of h t =
    let s = before_end false t in
    if_trees h (if ltb most_text (length s) then refused 6 else if ends_once t then claimed_by h s else refused 7)
