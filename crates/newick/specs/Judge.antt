-- The verdict on a text, as the code answers it.
--
--   Prepared h starts links   the head h is in order, and starts and links are the index of its names
--   JudgedAs o s r u t   the answer r is the verdict on the text s over the opening o. Where it is a refusal, the words u are as before;
--                        where not, the records of the splits stand at their front: they are now t
--   JudgedWith o s r u v t w    the same where lengths are kept: then the words v are as before, or the lengths of the splits stand at
--                        their front, each as a word: they are now w
use Rattle.std.specs.Prelude.{◌≡◌, ℕ, ◌≤◌, true, List, length, Result, Ok, Err}
use Rattle.trees.specs.Plain.{refused, gives}
use Rattle.trees.specs.Opening.{Opening, head_bytes}
use Rattle.trees.specs.Verdict.{judged, Branches, judged_with}
use Rattle.trees.specs.Whole.{good_opening}
use Rattle.answers.specs.Answers.{refusal_number}
use Rattle.records.specs.Records.{with_records}
use Rattle.head.specs.Head.{opening_at, names_at}
use Rattle.head.specs.Index.{Indexed}
use Rattle.newick.specs.Words.{with_words}
use Rattle.answers.specs.declared.Refusal.{Refusal}

pub record Prepared (h starts links : List ℕ) : Type 0 where
  pub reach : head_bytes ≤ length h
  pub good : good_opening (opening_at h) ≡ true
  pub indexed : Indexed (names_at h) starts links

unfoldable pub JudgedAs : Opening → List ℕ → Result ℕ Refusal → List ℕ → List ℕ → Type 0
unfolding refusal_number
JudgedAs o s (Err r) u t = (judged o.names s ≡ refused (refusal_number r)) × (t ≡ u)
JudgedAs o s (Ok k) u t = (l : List ℕ) × (judged o.names s ≡ gives l) × (k ≡ length l) × (t ≡ with_records o l u)

unfoldable pub JudgedWith : Opening → List ℕ → Result ℕ Refusal → List ℕ → List ℕ → List ℕ → List ℕ → Type 0
unfolding refusal_number
JudgedWith o s (Err r) u v t w = (judged_with 1 o.names s ≡ refused (refusal_number r)) × (t ≡ u) × (w ≡ v)
JudgedWith o s (Ok k) u v t w =
    (b : Branches) × (judged_with 1 o.names s ≡ gives b) × (k ≡ length b.splits) × (t ≡ with_records o b.splits u) × (w ≡ with_words b.lengths v)
