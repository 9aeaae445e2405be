-- What handing in a NEXUS file answers, of the call's own promise, on whole lent bytes. Assumes nothing.
--
--   file-answered            15 exactly where the bytes are no file, 16 where a key of one is listed twice, 4 where the buffer is short; else a
--                            verdict for each plain text
--   bad-file-changes-nothing     a file that is refused leaves every lent byte
--   file-touches-no-lane     every lane holds afterwards what it held
--   file-as-feeding          the verdicts and the collection afterwards are those of the plain texts fed one after another to an empty lane
--   written-file-reads-back  a plain file around the trees that a collection writes reads back as these trees
use Rattle.std.specs.Prelude.{ℕ, ◌≤◌, ◌≡◌, true, List, ◌++◌, map, length, drop}
use Rattle.std.proofs.Common.{arith, ◌∙◌}
use Rattle.std.proofs.Math.Path.{refl, ap, subst}
use Rattle.trees.specs.Plain.{Answer, refused, gives}
use Rattle.trees.specs.Written.{written}
use Rattle.trees.specs.Held.{Held}
use Rattle.trees.specs.Batch.{Batched}
use Rattle.trees.specs.Nexus.{File, IsNexus}
use Rattle.trees.specs.NexusCall.{plain_texts, nexus}
use Rattle.theorems.specs.OpeningLaws.{good-opening}
use Rattle.theorems.specs.HeldLaws.{whole-facts}
use Rattle.theorems.specs.ReadBackLaws.{names-good}
use Rattle.theorems.specs.NexusCallLaws.{Handed, nexus-answers}
use Rattle.theorems.specs.NexusCallLaws as handed
use Rattle.theorems.specs.NexusFedLaws.{EmptyLane, FedAs, handing-lanes, nexus-as-feeding}
use Rattle.theorems.specs.NexusFile.{file_around, accepting}
use Rattle.theorems.specs.NexusWrittenLaws.{written-file-accepted}
use Rattle.answers.specs.Filled.{length_given, front}
use Rattle.layout.specs.Store.{held_at}
use Rattle.layout.specs.WholeStore.{whole_at}
use Rattle.store.specs.HeldWholeLaws.{held_whole}
use Rattle.store.specs.Lent.{Holds}
use Rattle.store.specs.LentLaws.{when_whole}
use Rattle.nexus.specs.Fed.{nexus_of, NexusAs}
use Rattle.promises.specs.Calls.{file, Told, batched, numbers_in, after_batch, told, after}
use Rattle.promises.specs.Steps.{Step}
use Rattle.promises.specs.StepLaws.{step_follows}

-- what a call answers that gives a, with the buffer v
abbrev told_as : Answer Batched → List ℕ → Told
told_as a v = batched (length_given (numbers_in a)) (front (numbers_in a) v)

module _ (s : List ℕ) (w : whole_at s ≡ true) (f v : List ℕ) (a : Told) (t : List ℕ) (q : Step s (file f v) a t) where
  abbrev given : Answer Batched
  given = nexus (held_at s) f (length v)

  followed : Holds (after_batch (held_at s) given) s t × (a ≡ told_as given v)
  unfolding after told
  followed = step_follows s w t (file f v) a q

  pub file-answered : (a ≡ told_as given v) × Handed (held_at s) f (length v) given
  file-answered = (followed.1, nexus-answers (held_at s) f (length v))

  -- the promise's own clause
  pub bad-file-changes-nothing : (k : ℕ) → given ≡ refused k → (t ≡ s) × (a ≡ batched (refused k) v)
  unfolding Step NexusAs numbers_in length_given front
  bad-file-changes-nothing k e =
      let g : NexusAs (nexus_of s f (length v)) q.0 s v t q.1 = q.2 in
      let r = subst (λ (x : Answer Batched). NexusAs x q.0 s v t q.1) (when_whole s (λ h. nexus h f (length v)) w ∙ e) g in
      (r.1, followed.1 ∙ ap (λ (x : Answer Batched). told_as x v) e)

  -- "no real lane is touched"
  pub file-touches-no-lane : (held_at t).texts ≡ (held_at s).texts
  file-touches-no-lane =
      ap (λ (h : Held). h.texts) followed.0.held ∙ go given (nexus-answers (held_at s) f (length v))
    where
      go : (x : Answer Batched) → Handed (held_at s) f (length v) x → (after_batch (held_at s) x).texts ≡ (held_at s).texts
      go (refused k) i = unfold after_batch in refl
      go (gives b) (handed.handed x i d r) = unfold after_batch in handing-lanes (held_at s) (plain_texts x)

  -- the verdicts stand at the front of their buffer
  pub file-as-feeding : (x : File) → IsNexus f x → (b : Batched) → given ≡ gives b → (l : ℕ) → EmptyLane (held_at s) l
      → FedAs (held_at s) l (plain_texts x) b × (held_at t ≡ b.after) × (a ≡ batched (gives (length b.verdicts)) (b.verdicts ++ drop (length b.verdicts) v))
  unfolding after_batch numbers_in length_given front
  file-as-feeding x i b e l m = (
    nexus-as-feeding (held_at s) l m f x i (length v) b e,
    followed.0.held ∙ ap (after_batch (held_at s)) e,
    followed.1 ∙ ap (λ (y : Answer Batched). told_as y v) e,
  )

-- the accepted trees of whole bytes u, each as it is written, in a file; it is handed in to whole bytes s over the same names
module _ (u : List ℕ) (x : whole_at u ≡ true) (s : List ℕ) (w : whole_at s ≡ true) (same : (held_at s).opening.names ≡ (held_at u).opening.names) where
  abbrev names : List (List ℕ)
  names = (held_at u).opening.names

  abbrev trees : List (List ℕ)
  trees = (held_at u).trees

  pub written-file-reads-back : (v : List ℕ) → length trees ≤ length v → (a : Told) (t : List ℕ) → Step s (file (file_around (map (written names) trees)) v) a t
      → (held_at t ≡ (accepting (held_at s) trees).after) × (a ≡ told_as (gives (accepting (held_at s) trees)) v)
  unfolding after_batch
  written-file-reads-back v r a t q =
      let f = followed s w (file_around (map (written names) trees)) v a t q in
      let facts = whole-facts (held_at u) (held_whole u x) in
      let o = (good-opening (held_at u).opening facts.opening-good).ranges in
      let e = written-file-accepted (held_at u).opening.numbers.taxa names (names-good (held_at u) (held_whole u x)) (omega (arith, o.least-taxa)) o.most-taxa
      (held_at s) same trees facts.trees-good (length v) r in
      (f.0.held ∙ ap (after_batch (held_at s)) e, f.1 ∙ ap (λ (y : Answer Batched). told_as y v) e)
