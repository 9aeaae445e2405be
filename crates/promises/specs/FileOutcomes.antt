-- The promise of a NEXUS file leaves one outcome. Assumes nothing.
--
--   file_free b          what a file that gives b leaves free in the lent bytes
--   file-once           the answer, the verdicts, every other element of their buffer, and the lent bytes but for what is free
use Rattle.std.specs.Prelude.{◌≡◌, refl, Bool, true, false, List, ℕ, length, if◌then◌else◌, Result}
use Rattle.trees.specs.Plain.{Answer, refused, gives}
use Rattle.trees.specs.Batch.{none_accepted, Batched}
use Rattle.nexus.specs.Fed.{nexus_of, NexusAs}
use Rattle.nexus.proofs.feed_file.Reads as feed-file
use Rattle.promises.specs.Once.{Once, arg1, arg2, arg3, Free, nothing, store, SameBut}
use Rattle.promises.specs.Outcomes.{both, number-both, holds-both}
use Rattle.answers.specs.declared.Refusal.{Refusal}

-- a refused file, and one of which no tree is accepted, leaves every byte as found

unfoldable pub file_free : Answer Batched → Free
file_free (refused n) = nothing
file_free (gives b) = if none_accepted b.verdicts then nothing else store

file-both : (b : Answer Batched) (q r : Result ℕ Refusal) (s v t w u x : List ℕ) → NexusAs b q s v t w → NexusAs b r s v u x
    → (q ≡ r) × SameBut (file_free b) t u × (w ≡ x)
unfolding NexusAs file_free SameBut
file-both (refused n) q r s v t w u x c d = (number-both q r c.0 d.0, both c.1 d.1, both c.2 d.2)
file-both (gives b) q r s v t w u x c d = (number-both q r c.0 d.0, go (none_accepted b.verdicts) refl, both c.2 d.2)
  where
    go : (m : Bool) → none_accepted b.verdicts ≡ m → SameBut (if m then nothing else store) t u
    go true e = both (c.3 e) (d.3 e)
    go false e = holds-both b.after s t u c.1 d.1

pub file-once : Once feed-file.Post
    (λ x q r y z. (q ≡ r)
    × SameBut (file_free (nexus_of (arg1 x).now (arg2 x).now (length (arg3 x).now))) (arg1 y).now (arg1 z).now
    × ((arg3 y).now ≡ (arg3 z).now))
file-once k x q r y z a b = file-both _ q r _ _ _ _ _ _ a b
