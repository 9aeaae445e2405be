-- What handing in a NEXUS file answers of lent bytes, and what it leaves.
--
--   nexus_of s f room      what the file f gives, with room for so many verdicts: 1, 15, 16, 4, or the verdicts and what is held afterwards
--   NexusAs b r s v t w   a file that gives b answers r and leaves the lent bytes t, which were s, and the verdicts w, which were v
use Rattle.std.specs.Prelude.{ℕ, ◌≡◌, true, List, ◌++◌, length, drop, Result}
use Rattle.trees.specs.Plain.{Answer, refused, gives}
use Rattle.trees.specs.Batch.{none_accepted, Batched}
use Rattle.trees.specs.NexusCall.{nexus}
use Rattle.answers.specs.Answers.{number_given}
use Rattle.store.specs.Lent.{if_whole, Holds}
use Rattle.answers.specs.declared.Refusal.{Refusal}

abbrev pub nexus_of : List ℕ → List ℕ → ℕ → Answer Batched
nexus_of s f room = if_whole s (λ h. nexus h f room)

-- a refused file changes nothing; the number of verdicts is answered, and they stand at the front of their buffer; where no tree is
-- accepted, no lent byte of the collection changes
unfoldable pub NexusAs : Answer Batched → Result ℕ Refusal → List ℕ → List ℕ → List ℕ → List ℕ → Type 0
unfolding number_given
NexusAs (refused k) r s v t w = (number_given r ≡ refused k) × (t ≡ s) × (w ≡ v)
NexusAs (gives b) r s v t w =
    (number_given r ≡ gives (length b.verdicts))
    × Holds b.after s t
    × (w ≡ b.verdicts ++ drop (length b.verdicts) v)
    × (none_accepted b.verdicts ≡ true → t ≡ s)
