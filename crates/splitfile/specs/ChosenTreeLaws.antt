-- What the strict and the majority tree of a file answer, one check after another. Assumes nothing.
--
--   strict-by, majority-by          both are asked by their rules
-- of whole bytes:
--   tree-refused, tree-good     the refusal of the file, or what is made of the records
--   chosen_none, chosen-some        of records: 14, or what is given of the splits that are chosen
--   chosen-there, chosen-tree       of chosen splits: they stand in the list, and are those of a tree
--   agreed-given, agreed-not        what is given of their tree, or 23
use Rattle.std.specs.Prelude.{◌≡◌, ℕ, ◌≤◌, Bool, true, false, List, length, take, ◌≢◌, Result, Err, Ok}
use Rattle.std.proofs.Common.{arith, ◌∙◌}
use Rattle.std.proofs.Math.Path.{refl}
use borrow.Author.Tests.{eq-eqb, ne_eqb}
use Rattle.trees.specs.Plain.{Answer}
use Rattle.trees.specs.Whole.{agree_in_pairs, good_tree}
use Rattle.trees.specs.SplitFile.{Record, records_in, trees_of, well_formed}
use Rattle.trees.specs.SplitFileCall.{records_from, if_records, chosen_tree, strict_file_of, majority_file_of}
use Rattle.answers.specs.declared.Refusal.TheVariants as why
use Rattle.answers.specs.Answers.{refusal_number, refusing}
use Rattle.answers.specs.Filled.{FilledAs}
use Rattle.answers.specs.AnswerLaws.{filled-refused, filled-as}
use Rattle.head.specs.Head.{numbers_at, opening_at}
use Rattle.layout.specs.Store.{held_in, held_at}
use Rattle.layout.specs.WholeStore.{whole_at}
use Rattle.store.specs.LentLaws.{when_whole}
use Rattle.consensus.specs.Consensus.{text_asked}
use Rattle.consensus.specs.FewLaws.{tree-few}
use Rattle.splitfile.specs.declared.choosing.Rule.{Rule}
use Rattle.splitfile.specs.declared.choosing.Rule.TheVariants as rule
use Rattle.splitfile.specs.Files.{strict_file_asked, majority_file_asked}
use Rattle.splitfile.specs.EntryLaws.{records-length}
use Rattle.splitfile.specs.Form.{FormAs}
use Rattle.splitfile.specs.FormLaws.{if-refused, if-good}
use Rattle.splitfile.specs.Choosing.{chosen_in, chosen_by, least_for, tree_asked, agreed_asked, ChosenAs}
use Rattle.splitfile.specs.ChoosingLaws.{least-chosen, chosen-good}
use Rattle.answers.specs.declared.Refusal.{Refusal}

-- ---- a file

module _ (s f : List ℕ) (room : ℕ) where
  pub strict-by : strict_file_asked s f room ≡ tree_asked rule.Strict s f room
  unfolding strict_file_of chosen_by
  strict-by = refl

  pub majority-by : majority_file_asked s f room ≡ tree_asked rule.Majority s f room
  unfolding majority_file_of chosen_by
  majority-by = refl

module _ (x : Rule) (s f : List ℕ) (room : ℕ) (w : whole_at s ≡ true) (n : ℕ) (e : n ≡ (numbers_at s).taxa) (r : Result ℕ Refusal) (q : FormAs (records_from n f) r) where
  abbrev make : List Record → Answer (List ℕ)
  make rs = chosen_tree (held_at s) rs (chosen_by x rs) room

  whole : tree_asked x s f room ≡ if_records (held_at s) f make
  whole = when_whole s (λ h. if_records h f (λ rs. chosen_tree h rs (chosen_by x rs) room)) w

  pub tree-refused : (k : Refusal) → r ≡ Err k → tree_asked x s f room ≡ refusing k
  tree-refused k d = whole ∙ if-refused s f make n e r q k d

  pub tree-good : (k : ℕ) → r ≡ Ok k → tree_asked x s f room ≡ make (records_in k f)
  tree-good k d = whole ∙ if-good s f make n e r q k d

-- ---- its records

module _ (x : Rule) (s f : List ℕ) (k : ℕ) (room : ℕ) where
  abbrev rs : List Record
  rs = records_in k f

  pub chosen_none : k ≡ 0 → chosen_tree (held_at s) rs (chosen_by x rs) room ≡ refusing why.NoTrees
  unfolding chosen_tree refusal_number
  chosen_none z = rw (records-length k f, eq-eqb k 0 z)

  agreed : (k ≢ 0) → (l : List ℕ) → chosen_tree (held_at s) rs l room ≡ agreed_asked s l room
  unfolding chosen_tree held_in opening_at
  agreed z l = rw (records-length k f, ne_eqb k 0 z)

  pub chosen-some : (k ≢ 0) → well_formed (numbers_at s).taxa rs ≡ true → (least t : ℕ) → least ≡ least_for x t → t ≡ trees_of rs
      → chosen_tree (held_at s) rs (chosen_by x rs) room ≡ agreed_asked s (chosen_in least rs) room
  chosen-some z w least t p q = agreed z (chosen_by x rs) ∙ rw (p, q, least-chosen (numbers_at s).taxa rs w x)

-- ---- the splits that are chosen

module _ (s f : List ℕ) (k least : ℕ) (g : well_formed (numbers_at s).taxa (records_in k f) ≡ true) (list : List ℕ) where
  abbrev all : List ℕ
  all = chosen_in least (records_in k f)

  module _ (n : ℕ) (d : ChosenAs all (Ok n) list) where
    pub chosen-there : n ≤ length list
    unfolding ChosenAs
    chosen-there = d.1

    pub chosen-tree : good_tree (numbers_at s).taxa (take n list) ≡ true
    unfolding ChosenAs
    chosen-tree = rw d.0 (chosen-good (numbers_at s).taxa (records_in k f) g least d.2)

    pub agreed-given : (out : List ℕ) (r : Result ℕ Refusal) (m : List ℕ) → FilledAs (text_asked s (take n list) (length out)) r out m → FilledAs (agreed_asked s all (length out)) r out m
    unfolding ChosenAs
    agreed-given out r m e = filled-as (agreed_asked s all (length out)) out (text_asked s all (length out)) (rw d.2) r m (rw d.0 at e)

  -- no tree has more splits than the list has places
  pub agreed-not : whole_at s ≡ true → (out : List ℕ) → length list ≡ 64 → (r : Refusal) → ChosenAs all (Err r) list
      → FilledAs (agreed_asked s all (length out)) (Err r) out out
  unfolding ChosenAs refusal_number
  agreed-not w out e r d = rw d.0 (filled-refused (agreed_asked s all (length out)) out why.Disagreeing (rw (go (agree_in_pairs all) refl)))
    where
      go : (b : Bool) → agree_in_pairs all ≡ b → b ≡ false
      go true a = absurd (omega (arith, d.1 a, tree-few s w all (chosen-good (numbers_at s).taxa (records_in k f) g least a)))
      go false a = refl
