-- What the calls that write a tree answer, by what the bytes hold. Assumes nothing.
--
--   text-written, text-short             what the writer leaves, as an answer
--   consensus_by g                        the question for the tree of the splits that g chooses
--   strict-by, majority-by               both consensus trees are such questions
--   no-consensus, consensus-given        their returns: 14, or what is given of the tree of those splits
--   tree-copied, copied-there            a tree's masks at the front of a list, as many as the tree lists
--   accepted-missing, accepted-given     an accepted tree: 13, or what is given of the tree of its splits
use Rattle.std.specs.Prelude.{ℕ, ◌≤◌, ◌<◌, ◌≡◌, true, List, ◌++◌, length, take, drop, Result, Ok, Err, None, Some, Option, ok_or}
use Rattle.std.proofs.Math.Path.{refl}
use Rattle.std.proofs.Common.{◌∙◌, arith, length-append}
use Rattle.std.proofs.Math.Seq.{take-append_seam}
use Rattle.trees.specs.Plain.{Answer}
use Rattle.trees.specs.Held.{Held}
use Rattle.trees.specs.Consensus.{strict, majority}
use Rattle.trees.specs.Written.{written}
use Rattle.trees.specs.Questions.{if_room, if_trees, tree, strict_of, majority_of, written_of}
use Rattle.answers.specs.declared.Refusal.TheVariants as why
use Rattle.answers.specs.Answers.{refusing}
use Rattle.answers.specs.Filled.{FilledAs}
use Rattle.answers.specs.AnswerLaws.{filled-refused, filled-short, filled-given, filled-as}
use Rattle.head.specs.Head.{names_at, opening_at}
use Rattle.layout.specs.Store.{trees_held_at, list_at, tree_at, held_at, held_in}
use Rattle.layout.specs.WholeStore.{whole_at}
use Rattle.rows.specs.ReadLaws.{tree-length}
use Rattle.store.specs.RecordedAtLaws.{tree-at}
use Rattle.store.specs.LentLaws.{asked-missing, asked-there, trees-none, trees-some}
use Rattle.writer.specs.Text.{Wrote}
use Rattle.consensus.specs.Consensus.{written_asked, text_asked}
use Rattle.answers.specs.declared.Refusal.{Refusal}

-- ---- a text that is written

module _ (s l before after : List ℕ) where
  pub text-written : (n : ℕ) → Wrote (written (names_at s) l) before (Some n) after → FilledAs (text_asked s l (length before)) (Ok n) before after
  unfolding Wrote
  text-written n w = filled-given (text_asked s l (length before)) before (written (names_at s) l) refl n after w.0 w.1 (rw (← w.0) w.2)

  pub text-short : Wrote (written (names_at s) l) before None after → FilledAs (text_asked s l (length before)) (Err why.TooShort) before after
  unfolding Wrote
  text-short w = rw w.1 (filled-short (text_asked s l (length before)) before (written (names_at s) l) refl w.0)

  pub text-answered : (r : Option ℕ) → Wrote (written (names_at s) l) before r after → FilledAs (text_asked s l (length before)) (ok_or r why.TooShort) before after
  text-answered (Some n) w = text-written n w
  text-answered None w = text-short w

-- the names that are held are those of the head
text-held : (s l : List ℕ) (room : ℕ) → if_room room (written (held_at s).opening.names l) ≡ text_asked s l room
unfolding held_in opening_at
text-held s l room = refl

-- ---- the consensus trees

abbrev pub consensus_by : (List (List ℕ) → List ℕ) → ℕ → Held → Answer (List ℕ)
consensus_by g room h = if_trees h (if_room room (written h.opening.names (g h.trees)))

module _ (h : Held) (room : ℕ) where
  pub strict-by : strict_of h room ≡ consensus_by strict room h
  unfolding strict_of
  strict-by = refl

  pub majority-by : majority_of h room ≡ consensus_by majority room h
  unfolding majority_of
  majority-by = refl

module _ (g : List (List ℕ) → List ℕ) (s out : List ℕ) (x : Answer (List ℕ)) (is : x ≡ consensus_by g (length out) (held_at s)) where
  pub no-consensus : trees_held_at s ≡ 0 → FilledAs x (Err why.NoTrees) out out
  no-consensus z = filled-refused x out why.NoTrees (is ∙ trees-none s _ z)

  pub consensus-given : (trees_held_at s ≡ 0 → ⊥) → (l : List ℕ) → l ≡ g (held_at s).trees → (r : Result ℕ Refusal) (m : List ℕ)
      → FilledAs (text_asked s l (length out)) r out m → FilledAs x r out m
  consensus-given z l e r m f = filled-as x out _ (is ∙ trees-some s _ z ∙ text-held s _ _) r m (rw (← e) f)

-- ---- an accepted tree

module _ (s : List ℕ) (i n : ℕ) (l before : List ℕ) (e : n ≡ length (list_at s i)) (q : l ≡ tree_at s i ++ drop (length (list_at s i)) before) where
  pub tree-copied : take n l ≡ tree_at s i
  tree-copied = rw (q, e, ← tree-length s i) (take-append_seam (tree_at s i) _)

  pub copied-there : n ≤ length l
  copied-there = rw q (omega (arith, e, tree-length s i, length-append (tree_at s i) (drop (length (list_at s i)) before)))

module _ (s out : List ℕ) (w : whole_at s ≡ true) (i : ℕ) where
  abbrev one : Held → Answer (List ℕ)
  one h = if_room (length out) (written h.opening.names (tree h i))

  pub accepted-missing : trees_held_at s ≤ i → FilledAs (written_asked s i (length out)) (Err why.NoSuchNumber) out out
  accepted-missing h = filled-refused _ out why.NoSuchNumber asked
    where
      asked : written_asked s i (length out) ≡ refusing why.NoSuchNumber
      asked = unfold written_of in asked-missing s w one i h

  pub accepted-given : i < trees_held_at s → (l : List ℕ) → l ≡ tree_at s i → (r : Result ℕ Refusal) (m : List ℕ)
      → FilledAs (text_asked s l (length out)) r out m → FilledAs (written_asked s i (length out)) r out m
  unfolding tree
  accepted-given h l e r m f = filled-as _ out _ (asked ∙ text-held s _ _) r m (rw (tree-at s i h, ← e) f)
    where
      asked : written_asked s i (length out) ≡ one (held_at s)
      asked = unfold written_of in asked-there s w one i h
