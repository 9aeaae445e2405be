-- The promise of a batch leaves one outcome. Assumes nothing.
--
--   batched_free b l     what a batch that is b, on lane l, leaves free in the lent bytes
--   batch-once          the answer, the verdicts, every other element of their buffer, and the lent bytes but for what is free
use Rattle.std.specs.Prelude.{◌≡◌, refl, Bool, true, false, List, ℕ, length, if◌then◌else◌, Result}
use Rattle.trees.specs.Plain.{Answer, refused, gives}
use Rattle.trees.specs.Batch.{none_accepted, Batched}
use Rattle.feeding.specs.Feeding.{batch_of, BatchedAs}
use Rattle.feeding.proofs.batch.Reads as batch
use Rattle.promises.specs.Once.{Once, arg1, arg2, arg3, arg4, Free, nothing, lane, store, SameBut}
use Rattle.promises.specs.Outcomes.{both, number-both, holds-both, outside-both}
use Rattle.answers.specs.declared.Refusal.{Refusal}

-- a refused batch leaves every byte as found; one that accepts no tree, every byte outside the lane

unfoldable pub batched_free : Answer Batched → ℕ → Free
batched_free (refused n) l = nothing
batched_free (gives b) l = if none_accepted b.verdicts then lane l else store

batched-both : (b : Answer Batched) (l : ℕ) (q r : Result ℕ Refusal) (s v t w u x : List ℕ) → BatchedAs b l q s v t w → BatchedAs b l r s v u x
    → (q ≡ r) × SameBut (batched_free b l) t u × (w ≡ x)
unfolding BatchedAs batched_free SameBut
batched-both (refused n) l q r s v t w u x c d = (number-both q r c.0 d.0, both c.1 d.1, both c.2 d.2)
batched-both (gives b) l q r s v t w u x c d = (number-both q r c.0 d.0, go (none_accepted b.verdicts) refl, both c.2 d.2)
  where
    go : (m : Bool) → none_accepted b.verdicts ≡ m → SameBut (if m then lane l else store) t u
    go true e = (holds-both b.after s t u c.1 d.1, outside-both s l t u (c.3 e) (d.3 e))
    go false e = holds-both b.after s t u c.1 d.1

pub batch-once : Once batch.Post
    (λ x q r y z. (q ≡ r)
    × SameBut (batched_free (batch_of (arg1 x).now (arg2 x).0 (arg3 x).now (length (arg4 x).now)) (arg2 x).0) (arg1 y).now (arg1 z).now
    × ((arg4 y).now ≡ (arg4 z).now))
batch-once k x q r y z a b = batched-both _ _ q r _ _ _ _ _ _ a b
