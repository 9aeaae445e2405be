-- Handing in a NEXUS file: what it is answered with. Assumes nothing.
--
--   Handed h f room a   the answer a is what the file f is to be answered with: "15 block malformed, 16 key listed twice; in that order,
--                       .. and before 4", or the verdicts
--   nexus-answers       the answer is so
use Rattle.std.specs.Prelude.{ℕ, ◌≤◌, ◌<◌, ◌≡◌, true, false, List, ltb, length}
use Rattle.std.proofs.Math.Path.{refl}
use Rattle.std.proofs.Math.Option.{Option, none, some}
use Rattle.std.proofs.Common.{ltb-true, ltb-false}
use Rattle.trees.specs.Plain.{Answer, refused, gives}
use Rattle.trees.specs.Names.{different}
use Rattle.trees.specs.Held.{Held}
use Rattle.trees.specs.Batch.{Batched}
use Rattle.trees.specs.Nexus.{File, IsNexus}
use Rattle.trees.specs.NexusReading.{read_file}
use Rattle.trees.specs.NexusCall.{keys_of, plain_texts, handing, handed_in, nexus}
use Rattle.theorems.specs.ListLaws.{by-test}
use Rattle.theorems.specs.NexusLaws.{read-exactly, malformed-exactly}

pub data Handed (h : Held) (f : List ℕ) (room : ℕ) : Answer Batched → Type 0 where
  no-file : ((x : File) → IsNexus f x → ⊥) → Handed h f room (refused 15)
  key_twice : (x : File) → IsNexus f x → different (keys_of x.pairs) ≡ false → Handed h f room (refused 16)
  no_room : (x : File) → IsNexus f x → different (keys_of x.pairs) ≡ true → room < length x.texts → Handed h f room (refused 4)
  handed : (x : File) → IsNexus f x → different (keys_of x.pairs) ≡ true → length x.texts ≤ room → Handed h f room (gives (handing h (plain_texts x)))

module _ (h : Held) (f : List ℕ) (room : ℕ) where
  file-answers : (x : File) → IsNexus f x → Handed h f room (handed_in h x room)
  unfolding handed_in
  file-answers x i =
      by-test (Handed h f room) (different (keys_of x.pairs))
      (λ d. by-test (Handed h f room) (ltb room (length x.texts)) (λ e. no_room x i d (ltb-true room _ e)) (λ e. handed x i d (ltb-false room _ e)))
      (λ d. key_twice x i d)

  pub nexus-answers : Handed h f room (nexus h f room)
  unfolding nexus
  nexus-answers = go (read_file f) refl
    where
      go : (o : Option File) → read_file f ≡ o → Handed h f room (elim o as (λ _. Answer Batched) [ none ↦ refused 15 | some x ↦ handed_in h x room ])
      go none e = no-file ((malformed-exactly f).0 e)
      go (some x) e = file-answers x ((read-exactly f x).0 e)
