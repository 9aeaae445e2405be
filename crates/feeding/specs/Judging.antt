-- The verdict on a text, whether lengths are kept or not.
--
--   JudgedIn o s r u v t w    the answer r is the verdict on the text s over the opening o. Where it is a refusal, the words u and v are as
--                             before; where not, the records of the splits stand at the front of u and, where lengths are kept, the
--                             words of their lengths at the front of v: they are now t and w
use Rattle.std.specs.Prelude.{ℕ, ◌≡◌, List, length, Result, Ok, Err}
use Rattle.trees.specs.Plain.{refused, gives}
use Rattle.trees.specs.Opening.{Opening}
use Rattle.trees.specs.Verdict.{Branches, judged_with}
use Rattle.answers.specs.Answers.{refusal_number}
use Rattle.records.specs.Records.{with_records}
use Rattle.newick.specs.Words.{with_words}
use Rattle.answers.specs.declared.Refusal.{Refusal}

-- "Opening says whether lengths are kept": where they are not, the tree has none, and no word is written

unfoldable pub JudgedIn : Opening → List ℕ → Result ℕ Refusal → List ℕ → List ℕ → List ℕ → List ℕ → Type 0
unfolding refusal_number
JudgedIn o s (Err r) u v t w = (judged_with o.numbers.kept o.names s ≡ refused (refusal_number r)) × (t ≡ u) × (w ≡ v)
JudgedIn o s (Ok k) u v t w =
    (b : Branches) × (judged_with o.numbers.kept o.names s ≡ gives b) × (k ≡ length b.splits) × (t ≡ with_records o b.splits u) × (w ≡ with_words b.lengths v)
