-- What withdrawing a tree answers of lent bytes, and what it leaves.
--
--   there s k               the lent bytes s are whole and have a tree k: neither 1 nor 13
--   withdrawn_of s k         what withdrawing gives
--   SameFront s t           the lent bytes t are as in s before the trees, but for how many trees and splits there are
--   WithdrawnAs s k r t     withdrawing answers r and leaves t
use Rattle.std.specs.Prelude.{ℕ, ◌≤◌, ◌<◌, ◌≡◌, ◌⊎◌, Bool, true, false, ◌&&◌, List, ltb, get_or, if◌then◌else◌, Result}
use Rattle.trees.specs.Plain.{refused}
use Rattle.trees.specs.Withdrawing.{Withdrawn, withdrawing}
use Rattle.answers.specs.Answers.{finish_given}
use Rattle.head.specs.Head.{numbers_at}
use Rattle.layout.specs.Store.{tree_from, trees_held_at, held_at, held_in}
use Rattle.layout.specs.WholeStore.{whole_at}
use Rattle.store.specs.Lent.{Holds}
use Rattle.answers.specs.declared.Refusal.{Refusal}

-- the call comes to a tree: "checks 1, then .. 13"

unfoldable pub there : List ℕ → ℕ → Bool
unfolding whole_at
there s k = whole_at s && ltb k (trees_held_at s)

unfoldable pub withdrawn_of : List ℕ → ℕ → Withdrawn
unfolding whole_at held_in withdrawing
withdrawn_of s k = if whole_at s then withdrawing (held_at s) k else record { answer = refused 1; after = held_at s }

-- the opening and every byte of every lane; the numbers of trees and splits stand in the bytes 10 to 13
abbrev pub SameFront : List ℕ → List ℕ → Type 0
SameFront s t = (i : ℕ) → i < tree_from (numbers_at s) 0 → (i < 10) ⊎ (14 ≤ i) → get_or t i 0 ≡ get_or s i 0

-- a refusal changes nothing; "Lanes in mid-text are untouched"
pub record WithdrawnAs (s : List ℕ) (k : ℕ) (r : Result (Unit {0}) Refusal) (t : List ℕ) : Type 0 where
  pub answer : finish_given r ≡ (withdrawn_of s k).answer
  pub found : there s k ≡ false → t ≡ s
  pub holds : there s k ≡ true → Holds (withdrawn_of s k).after s t
  pub front : SameFront s t
