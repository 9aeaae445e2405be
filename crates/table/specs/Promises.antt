-- What opening promises.
--
--   OpenedAs o r s t      opening answers r and leaves the lent bytes t, which were s, where o is the opening or its refusal
use Rattle.std.specs.Prelude.{ℕ, ◌≡◌, List, Result}
use Rattle.trees.specs.Plain.{Answer, refused, gives}
use Rattle.trees.specs.Opening.{Opening}
use Rattle.trees.specs.Held.{opened}
use Rattle.answers.specs.Answers.{finish_given}
use Rattle.store.specs.Lent.{Holds}
use Rattle.answers.specs.declared.Refusal.{Refusal}

-- "All lent memory stays as found"

unfoldable pub OpenedAs : Answer Opening → Result (Unit {0}) Refusal → List ℕ → List ℕ → Type 0
unfolding finish_given opened
OpenedAs (refused k) r s t = (finish_given r ≡ refused k) × (t ≡ s)
OpenedAs (gives o) r s t = (finish_given r ≡ gives tt) × Holds (opened o) s t
