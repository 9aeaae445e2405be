-- The returns of handing in a file. Assumes nothing.
--
--   nexus-refused     a refusal leaves the lent bytes and the verdicts' buffer as found
--   nexus-malformed, nexus-repeats, nexus-short     15, 16, 4
--   nexus-done        else the verdicts
--   handing-length    a verdict for each text
use Rattle.std.specs.Prelude.{ℕ, suc, ◌≤◌, ◌<◌, ◌≡◌, refl, true, false, List, [], ◌∷◌, map, Ok, Err}
use Rattle.std.proofs.Common.{sym, ap, subst, ◌∙◌, lt-ltb, le-ltb}
use Rattle.std.proofs.Math.Option.{none, some}
use Rattle.std.proofs.Math.ListN.{length}
use Rattle.std.proofs.lemmas.List.{length-map}
use Rattle.trees.specs.Plain.{Answer, gives}
use Rattle.trees.specs.Names.{different}
use Rattle.trees.specs.Held.{Held, recording}
use Rattle.trees.specs.Batch.{Batched, with_verdict}
use Rattle.trees.specs.Nexus.{File}
use Rattle.trees.specs.NexusReading.{read_file}
use Rattle.trees.specs.NexusCall.{keys_of, replaced, on_text, plain_texts, handing, handed_in, nexus}
use Rattle.theorems.specs.ListLaws.{if-true, if-false}
use Rattle.answers.specs.declared.Refusal.{Refusal}
use Rattle.answers.specs.declared.Refusal.TheVariants as why
use Rattle.answers.specs.Answers.{refusal_number, refusing, number_given}
use Rattle.layout.specs.Store.{held_at}
use Rattle.layout.specs.WholeStore.{whole_at}
use Rattle.store.specs.LentLaws.{when_whole}
use Rattle.nexus.specs.Verdicts.{Feeds}
use Rattle.nexus.specs.Fed.{nexus_of, NexusAs}

pub nexus-refused : (x : Answer Batched) (s v : List ℕ) (r : Refusal) → x ≡ refusing r → NexusAs x (Err r) s v s v
unfolding NexusAs number_given
nexus-refused x s v r e = rw e (refl, refl, refl)

handing-length : (h : Held) (ts : List (List ℕ)) → length (handing h ts).verdicts ≡ length ts
unfolding handing with_verdict
handing-length h [] = refl
handing-length h (t ∷ ts) = ap suc (handing-length (recording h (on_text h t)) ts)

module _ (s f v : List ℕ) (w : whole_at s ≡ true) where
  nexus-whole : nexus_of s f (length v) ≡ nexus (held_at s) f (length v)
  nexus-whole = when_whole s (λ h. nexus h f (length v)) w

  pub nexus-malformed : read_file f ≡ none → nexus_of s f (length v) ≡ refusing why.BadBlock
  unfolding nexus refusal_number
  nexus-malformed e = nexus-whole ∙ rw (nexus, e)

  module _ (x : File) (e : read_file f ≡ some x) where
    nexus-read : nexus_of s f (length v) ≡ handed_in (held_at s) x (length v)
    unfolding nexus
    nexus-read = nexus-whole ∙ rw (nexus, e)

    pub nexus-repeats : different (keys_of x.pairs) ≡ false → nexus_of s f (length v) ≡ refusing why.RepeatedKey
    unfolding handed_in refusal_number
    nexus-repeats d = nexus-read ∙ if-false _ _ d

    module _ (d : different (keys_of x.pairs) ≡ true) where
      pub nexus-short : length v < length x.texts → nexus_of s f (length v) ≡ refusing why.TooShort
      unfolding handed_in refusal_number
      nexus-short h = nexus-read ∙ if-true _ _ d ∙ if-true _ _ (lt-ltb _ _ h)

      pub nexus-done : (n : ℕ) → n ≡ length x.texts → n ≤ length v → (t u : List ℕ)
          → Feeds (handing (held_at s) (map (replaced x.pairs) x.texts)) s v t u
          → NexusAs (nexus_of s f (length v)) (Ok n) s v t u
      nexus-done n q h t u g = subst (λ (b : Answer Batched). NexusAs b (Ok n) s v t u) (sym given) done
        where
          given : nexus_of s f (length v) ≡ gives (handing (held_at s) (map (replaced x.pairs) x.texts))
          given = unfold handed_in plain_texts in nexus-read ∙ if-true _ _ d ∙ if-false _ _ (le-ltb _ _ (subst (λ (m : ℕ). m ≤ length v) q h))

          count : n ≡ length (handing (held_at s) (map (replaced x.pairs) x.texts)).verdicts
          count = q ∙ sym (length-map x.texts (replaced x.pairs)) ∙ sym (handing-length (held_at s) (map (replaced x.pairs) x.texts))

          done : NexusAs (gives (handing (held_at s) (map (replaced x.pairs) x.texts))) (Ok n) s v t u
          done = unfold NexusAs number_given in (ap gives count, g.holds, g.verdicts, g.found)
