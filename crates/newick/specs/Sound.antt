-- A text whose form and leaves have been read.
--
--   SoundTree     the text is a tree, its leaves have no fault, and their running sums and the spans of its inner nodes are noted
--   TreeRead      what reading it comes to: 7 to 10, or all this, where the list has room for the spans
use Rattle.std.specs.Prelude.{◌≡◌, ℕ, ◌*◌, ◌≤◌, List, length, slice_index, Result, Ok, Err}
use Rattle.std.proofs.Math.Option.{some}
use Rattle.trees.specs.Plain.{refused}
use Rattle.trees.specs.Mask.{every_taxon}
use Rattle.trees.specs.Tree.{Nodes, leaves}
use Rattle.trees.specs.Reading.{reading}
use Rattle.trees.specs.Opening.{Opening}
use Rattle.trees.specs.Verdict.{leaf_fault, judged}
use Rattle.answers.specs.Answers.{refusal_number}
use Rattle.records.specs.Records.{wide}
use Rattle.newick.specs.Splits.{inners}
use Rattle.newick.specs.Running.{Running, span_masks}
use Rattle.newick.specs.Chains.{Spans}
use Rattle.answers.specs.declared.Refusal.{Refusal}

-- k leaves, with the sums u, and n inner nodes, with the spans l

pub record SoundTree (o : Opening) (s : List ℕ) (k n : ℕ) (u l : List ℕ) : Type 0 where
  pub tree : Nodes
  pub reads : reading s ≡ some tree
  pub no-fault : leaf_fault o.names 0 (leaves tree) ≡ 0
  pub sums : (k ≤ 64) × Running o k u × (slice_index u (wide * k) ≡ every_taxon o.numbers.taxa)
  pub spans : (n ≤ 64) × Spans k n l
  pub masks : span_masks u l n ≡ inners o.names tree

-- the two numbers of each span of 64 nodes
abbrev pub span_room : ℕ
span_room = 128

-- the list l has become l'
unfoldable pub TreeRead : Opening → List ℕ → Result (ℕ × ℕ) Refusal → List ℕ → List ℕ → List ℕ → Type 0
unfolding refusal_number
TreeRead o s (Err r) u l l' = judged o.names s ≡ refused (refusal_number r)
TreeRead o s (Ok (k, n)) u l l' = length l ≡ span_room → SoundTree o s k n u l'
