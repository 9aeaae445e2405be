-- The plain NEXUS file around trees that we write reads back: every tree is judged to exactly the splits that it was written from.
--
--   judged-blank               a blank before a text changes no verdict of its own, kept lengths or not
--   tree_text ns s              the tree with the splits s, without its semicolon
--   written-file               the file around written trees is a NEXUS file
--   written-file-reads-back    it gives no pairs, and as texts the written trees without their semicolons, behind a blank
--   written-file-accepted      handed in, each of its trees is accepted with exactly its splits, and no lengths, where there is room
use Rattle.std.specs.Prelude.{ℕ, ◌≤◌, ◌≡◌, true, false, length}
use Rattle.std.proofs.Common.{arith, sym, ◌∙◌, inl, inr, le-ltb}
use Rattle.std.proofs.Math.Path.{refl, ap, subst}
use mathlib.Core.List.{List, [], ◌∷◌, map}
use Rattle.std.proofs.Math.Option.{Option, none, some}
use Rattle.std.proofs.Math.ListN.{length-map}
use Rattle.trees.specs.Plain.{every, Answer, refused, gives}
use Rattle.trees.specs.Text.{kind_in, open_after, ended, symbols}
use Rattle.trees.specs.Tree.{Nodes}
use Rattle.trees.specs.Names.{good_names, different}
use Rattle.trees.specs.Verdict.{judged_tree, Branches, with_lengths, judged_with}
use Rattle.trees.specs.Written.{tree_of, shown, written}
use Rattle.trees.specs.Held.{Held, room_for, with_room, verdict, finished, recording}
use Rattle.trees.specs.Whole.{good_tree}
use Rattle.trees.specs.Batch.{verdict_number, Batched, with_verdict}
use Rattle.trees.specs.Nexus.{File, IsNexus}
use Rattle.trees.specs.NexusReading.{read_file}
use Rattle.trees.specs.NexusCall.{keys_of, on_text, handing, handed_in, nexus}
use Rattle.theorems.specs.ListLaws.{if-false, and_left, and_right}
use Rattle.theorems.specs.TextLaws.{by_kind, symbols-cons}
use Rattle.theorems.specs.LabelLaws.{end-outside}
use Rattle.theorems.specs.OutsideLaws.{hides-leads}
use Rattle.theorems.specs.GrammarLaws.{reading-symbols}
use Rattle.theorems.specs.WrittenLaws.{written-tree-with-lengths, written-closed, written-unended, written-no-comment, written-length}
use Rattle.theorems.specs.WrittenFedLaws.{written-more}
use Rattle.theorems.specs.PieceLaws.{text-held}
use Rattle.theorems.specs.OwnLaneLaws.{recording-opening}
use Rattle.theorems.specs.NexusLaws.{read-exactly}
use Rattle.theorems.specs.Absent.{without_lengths}
use Rattle.theorems.specs.NexusFile.{file_around, accepting}
use Rattle.theorems.specs.NexusFileLaws.{Plain, AllPlain, with_end, behind_blank, around-file, around-plain}

-- ---- a blank before a text

blank-symbols : (w : List ℕ) → symbols (32 ∷ w) ≡ symbols w
unfolding by_kind kind_in open_after ended
blank-symbols w = symbols-cons [] 32 w

pub judged-blank : (kept : ℕ) (ns : List (List ℕ)) (w : List ℕ) → judged_with kept ns (32 ∷ w) ≡ judged_with kept ns w
unfolding judged_with
judged-blank kept ns w =
    ap (λ (o : Option Nodes). elim o as (λ _. Answer Branches) [ none ↦ refused 7 | some t ↦ with_lengths kept ns t (judged_tree ns t) ]) (reading-symbols (32 ∷ w) w (blank-symbols w))

-- ---- the file

map-twice : (f g : List ℕ → List ℕ) (l : List (List ℕ)) → map f (map g l) ≡ map (λ x. f (g x)) l
map-twice f g [] = refl
map-twice f g (x ∷ l) = ap (λ (r : List (List ℕ)). f (g x) ∷ r) (map-twice f g l)

-- the tree with the splits s, without its semicolon
abbrev pub tree_text : List (List ℕ) → List ℕ → List ℕ
tree_text ns s = shown (tree_of ns s)

written-texts : (ns ss : List (List ℕ)) → map (written ns) ss ≡ map with_end (map (tree_text ns) ss)
unfolding written
written-texts ns [] = refl
written-texts ns (s ∷ ss) = ap (λ (ts : List (List ℕ)). with_end (tree_text ns s) ∷ ts) (written-texts ns ss)

module _ (n : ℕ) (ns : List (List ℕ)) (names : good_names n ns ≡ true) (least : 3 ≤ n) (most : n ≤ 64) where
  tree_plain : (s : List ℕ) → good_tree n s ≡ true → Plain (tree_text ns s)
  tree_plain s good =
      let w = tree_text ns s in
      let closed = written-closed n ns s names good (omega arith) in
      (hides-leads 59 false false w (sym (end-outside false w) ∙ written-unended n ns s names good (omega arith)) closed, hides-leads 91 false false w (written-no-comment n ns s names good (omega arith)) closed)

  written-plain : (ss : List (List ℕ)) → every (good_tree n) ss ≡ true → AllPlain (map (tree_text ns) ss)
  unfolding every
  written-plain [] e w x'' = elim x'' [ ]
  written-plain (s ∷ ss) e w (inl q) = subst Plain (sym q) (tree_plain s (and_left (good_tree n s) (every (good_tree n) ss) e))
  written-plain (s ∷ ss) e w (inr m) = written-plain ss (and_right (good_tree n s) (every (good_tree n) ss) e) w m

  pub written-file : (ss : List (List ℕ)) → every (good_tree n) ss ≡ true → IsNexus (file_around (map (written ns) ss)) (behind_blank (map (tree_text ns) ss))
  written-file ss e =
      subst (λ (ts : List (List ℕ)). IsNexus (file_around ts) (behind_blank (map (tree_text ns) ss))) (sym (written-texts ns ss))
      (around-file (map (tree_text ns) ss) (written-plain ss e))

  pub written-file-reads-back : (ss : List (List ℕ)) → every (good_tree n) ss ≡ true → read_file (file_around (map (written ns) ss)) ≡ some (behind_blank (map (tree_text ns) ss))
  written-file-reads-back ss e = (read-exactly (file_around (map (written ns) ss)) (behind_blank (map (tree_text ns) ss))).1 (written-file ss e)

  -- ---- its trees

  -- a tree's text, as the file gives it
  abbrev line_text : List ℕ → List ℕ
  line_text s = 32 ∷ tree_text ns s

  line-judged : (h : Held) → h.opening.names ≡ ns → (s : List ℕ) → good_tree n s ≡ true → on_text h (line_text s) ≡ room_for h (without_lengths h.opening.numbers.kept s)
  unfolding on_text verdict with_room
  line-judged h same s good =
      ap (verdict h) (text-held (line_text s) (omega (arith, written-more ns s, written-length n ns s names good least most)))
      ∙ ap (λ (x : List (List ℕ)). with_room h (judged_with h.opening.numbers.kept x (line_text s))) same
      ∙ ap (with_room h) (judged-blank h.opening.numbers.kept ns (tree_text ns s) ∙ written-tree-with-lengths n ns s names good h.opening.numbers.kept (omega arith) most)

  handing-accepts : (h : Held) → h.opening.names ≡ ns → (ss : List (List ℕ)) → every (good_tree n) ss ≡ true → handing h (map line_text ss) ≡ accepting h ss
  unfolding handing accepting every
  handing-accepts h same [] e = refl
  handing-accepts h same (s ∷ ss) e =
      let v = room_for h (without_lengths h.opening.numbers.kept s) in
      let still : (recording h v).opening.names ≡ ns = ap (λ o. o.names) (recording-opening h v) ∙ same in
      ap (λ (v : Answer Branches). with_verdict (verdict_number (finished h v)) (handing (recording h v) (map line_text ss))) (line-judged h same s (and_left (good_tree n s) (every (good_tree n) ss) e))
      ∙ ap (with_verdict (verdict_number (finished h v))) (handing-accepts (recording h v) still ss (and_right (good_tree n s) (every (good_tree n) ss) e))

  module _ (h : Held) (same : h.opening.names ≡ ns) (ss : List (List ℕ)) (good : every (good_tree n) ss ≡ true) where
    pub written-file-accepted : (room : ℕ) → length ss ≤ room → nexus h (file_around (map (written ns) ss)) room ≡ gives (accepting h ss)
    unfolding nexus handed_in keys_of different
    written-file-accepted room r =
        ap (λ (o : Option File). elim o as (λ _. Answer Batched) [ none ↦ refused 15 | some x ↦ handed_in h x room ]) (written-file-reads-back ss good)
        ∙ if-false _ _ (le-ltb room (length (map (λ (w : List ℕ). 32 ∷ w) (map (tree_text ns) ss))) (omega (arith, length-map (map (tree_text ns) ss) (λ w. 32 ∷ w), length-map ss (tree_text ns))))
        ∙ ap gives (ap (handing h) (around-plain (map (tree_text ns) ss) ∙ map-twice (λ w. 32 ∷ w) (tree_text ns) ss) ∙ handing-accepts h same ss good)
