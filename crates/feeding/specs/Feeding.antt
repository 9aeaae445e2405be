-- What feeding, closing and a batch answer of lent bytes, and what they leave.
--
--   reached s l            the lent bytes s are whole and have a lane l: neither 1 nor 5
--   fed_of s l p            what feeding gives
--   closed_of s l           what closing gives
--   batch_of s l p room     what a batch gives
--   is_accepted a           an answer is that a tree was accepted
--   SameOutside s l t      the lent bytes t are as in s outside the lane l
--   FedAs s l p r t        feeding answers r and leaves t
--   ClosedAs s l r t       closing answers r and leaves t
--   BatchedAs b l r s v t w     a batch that is b, on lane l, answers r and leaves the lent bytes t, which were s, and the verdicts w, which were v
use Rattle.std.specs.Prelude.{ℕ, ◌+◌, ◌≤◌, ◌<◌, ◌≡◌, ◌⊎◌, Bool, true, false, ◌&&◌, List, ◌++◌, ltb, length, get_or, drop, if◌then◌else◌, Result}
use Rattle.trees.specs.Opening.{lane_bytes}
use Rattle.trees.specs.Plain.{Answer, refused, gives}
use Rattle.trees.specs.Held.{Closed, more_wanted, accepted, feeding, closing}
use Rattle.trees.specs.Held as held
use Rattle.trees.specs.Batch.{none_accepted, Batched, batch}
use Rattle.answers.specs.declared.Fed.{Fed}
use Rattle.answers.specs.Answers.{finish_given, number_given, progress_given}
use Rattle.head.specs.Head.{numbers_at}
use Rattle.layout.specs.Store.{lane_from, held_at, held_in}
use Rattle.layout.specs.WholeStore.{whole_at}
use Rattle.store.specs.Lent.{if_whole, Holds}
use Rattle.answers.specs.declared.Refusal.{Refusal}

-- the call comes to a lane: "checks 1, then 5"

unfoldable pub reached : List ℕ → ℕ → Bool
unfolding whole_at numbers_at
reached s l = whole_at s && ltb l (numbers_at s).lanes

-- "Refusals 1 and 5 take 0 bytes"
unfoldable pub fed_of : List ℕ → ℕ → List ℕ → held.Fed
unfolding whole_at held_in feeding
fed_of s l p = if whole_at s then feeding (held_at s) l p else record { taken = 0; answer = refused 1; after = held_at s }

unfoldable pub closed_of : List ℕ → ℕ → Closed
unfolding whole_at held_in closing
closed_of s l = if whole_at s then closing (held_at s) l else record { answer = refused 1; after = held_at s }

abbrev pub batch_of : List ℕ → ℕ → List ℕ → ℕ → Answer Batched
batch_of s l p room = if_whole s (λ h. batch h l p room)

-- "accepted, with the tree's number"
unfoldable pub is_accepted : Answer held.Progress → Bool
is_accepted (refused k) = false
is_accepted (gives more_wanted) = false
is_accepted (gives (accepted t)) = true

abbrev pub SameOutside : List ℕ → ℕ → List ℕ → Type 0
SameOutside s l t = (i : ℕ) → (i < lane_from l) ⊎ (lane_from l + lane_bytes ≤ i) → get_or t i 0 ≡ get_or s i 0

-- "All lent memory stays as found, save the lane emptied by a verdict"
pub record FedAs (s : List ℕ) (l : ℕ) (p : List ℕ) (r : Fed) (t : List ℕ) : Type 0 where
  pub taken : r.taken ≡ (fed_of s l p).taken
  pub answer : progress_given r.progress ≡ (fed_of s l p).answer
  pub found : reached s l ≡ false → t ≡ s
  pub holds : reached s l ≡ true → Holds (fed_of s l p).after s t
  pub outside : is_accepted (fed_of s l p).answer ≡ false → SameOutside s l t

-- ".. or a closing"
pub record ClosedAs (s : List ℕ) (l : ℕ) (r : Result (Unit {0}) Refusal) (t : List ℕ) : Type 0 where
  pub answer : finish_given r ≡ (closed_of s l).answer
  pub found : reached s l ≡ false → t ≡ s
  pub holds : reached s l ≡ true → Holds (closed_of s l).after s t
  pub outside : SameOutside s l t

-- the number of verdicts is answered; they stand at the front of their buffer; where no tree is accepted, only the lane changes
unfoldable pub BatchedAs : Answer Batched → ℕ → Result ℕ Refusal → List ℕ → List ℕ → List ℕ → List ℕ → Type 0
unfolding number_given
BatchedAs (refused k) l r s v t w = (number_given r ≡ refused k) × (t ≡ s) × (w ≡ v)
BatchedAs (gives b) l r s v t w =
    (number_given r ≡ gives (length b.verdicts))
    × Holds b.after s t
    × (w ≡ b.verdicts ++ drop (length b.verdicts) v)
    × (none_accepted b.verdicts ≡ true → SameOutside s l t)
