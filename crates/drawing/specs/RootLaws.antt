-- The laws of the majority tree of a whole store, drawn. Assumes nothing.
--
--   drawing-ready                the branches of all taxa can be drawn
--   root-ones, root-some         they are at most 64, and some
--   groups-are, counts-are       its splits and their counts, as they are found
--   groups-counted               these are counts of those
--   root_none, root-put          of no trees nothing is put; else the branches of all taxa
use Rattle.std.specs.Prelude.{ℕ, ◌≤◌, ◌≡◌, true, length, take, drop}
use Rattle.std.proofs.Common.{arith, sym, ap, ◌∙◌, take_at, eq-eqb, ne_eqb}
use mathlib.Core.List.{List, [], ◌∷◌, ◌++◌, map, flat_map}
use Rattle.std.specs.Int.Count.{ones}
use Rattle.std.proofs.lemmas.List.{length-map}
use Rattle.trees.specs.Mask.{every_taxon}
use Rattle.trees.specs.Consensus.{count, majority}
use Rattle.trees.specs.Drawn.{drawn}
use Rattle.trees.specs.Whole.{good_tree}
use Rattle.theorems.specs.ListLaws.{if-true, if-false}
use Rattle.theorems.specs.OnesLaws.{ones-zero}
use Rattle.theorems.specs.ProperLaws.{every-ones}
use Rattle.theorems.specs.ConsensusLaws.{majority-good}
use Rattle.head.specs.Head.{numbers_at, names_at, opening_at}
use Rattle.head.specs.HeadLaws.{names-length}
use Rattle.layout.specs.Store.{trees_held_at, held_at, held_in}
use Rattle.layout.specs.WholeStore.{whole_at}
use Rattle.layout.specs.WholeFacts.{whole-at-facts}
use Rattle.layout.specs.InsideLaws.{ranges}
use Rattle.store.specs.RecordedAtLaws.{trees-length}
use Rattle.putting.specs.Put.{Put}
use Rattle.putting.specs.PutLaws.{put-none, put_as}
use Rattle.putting.specs.Lines.{bytes_of}
use Rattle.writer.specs.Branch.{Ready}
use Rattle.writer.specs.RootLaws.{taxa-most, root-ready}
use Rattle.consensus.specs.FewLaws.{trees-good}
use Rattle.grouping.specs.MajorityLaws.{count_small}
use Rattle.drawing.specs.DrawnLines.{drawn_lines}
use Rattle.drawing.specs.Drawing.{grown_lines, drawn_text, Counted}
use Rattle.drawing.specs.TextLaws.{text-root}
use Rattle.drawing.specs.GrownLaws.{lines-root}

module _ (s : List ℕ) (w : whole_at s ≡ true) where
  abbrev ts : List (List ℕ)
  ts = (held_at s).trees

  splits-good : good_tree (opening_at s).numbers.taxa (majority ts) ≡ true
  unfolding opening_at
  splits-good = majority-good (numbers_at s).taxa ts (trees-good s w)

  splits-held : good_tree (numbers_at s).taxa (majority ts) ≡ true
  unfolding opening_at
  splits-held = splits-good

  pub drawing-ready : {a : ℕ} {ms : List ℕ} → a ≡ every_taxon (numbers_at s).taxa → ms ≡ majority ts → Ready (numbers_at s).taxa (names_at s) ms a a
  drawing-ready {a} e q = rw q (root-ready s (whole-at-facts s w).head.opening-good (majority ts) splits-good a e)

  pub root-ones : {a : ℕ} → a ≡ every_taxon (numbers_at s).taxa → ones a ≤ 64
  root-ones e = rw e (omega (arith, every-ones (numbers_at s).taxa, taxa-most s (whole-at-facts s w).head.opening-good))

  pub root-some : {a : ℕ} → a ≡ every_taxon (numbers_at s).taxa → a ≡ 0 → ⊥
  root-some e z =
      let o = ap ones (sym z ∙ e) in
      omega (arith, o, ones-zero, every-ones (numbers_at s).taxa, (ranges s (whole-at-facts s w).head).least-taxa)

  -- ---- the lists, as they are found

  module _ {k : ℕ} (h : k ≡ length (majority ts)) where
    pub groups-are : {masks : List ℕ} (old : List ℕ) → masks ≡ majority ts ++ drop k old → take k masks ≡ majority ts
    groups-are old e = rw e (take_at (majority ts) (drop k old) k (sym h))

    pub counts-are : {counts : List ℕ} (old : List ℕ) → counts ≡ map (count ts) (majority ts) ++ drop k old → take k counts ≡ map (count ts) (majority ts)
    counts-are old e = rw e (take_at (map (count ts) (majority ts)) (drop k old) k (length-map (majority ts) (count ts) ∙ sym h))

  pub groups-counted : {ms cs : List ℕ} → ms ≡ majority ts → cs ≡ map (count ts) (majority ts) → Counted ts ms cs
  groups-counted e f = record { counts = f ∙ ap (map (count ts)) (sym e); small = count_small s w }

  -- ---- what is put

  pub root_none : trees_held_at s ≡ 0 → (l : List ℕ) (at : ℕ) → Put l at (bytes_of (drawn_lines (held_at s))) l at
  unfolding drawn_lines bytes_of flat_map
  root_none z l at = put_as (sym (ap bytes_of (if-true _ _ (eq-eqb (length ts) 0 (trees-length s ∙ z))))) (put-none l at)

  lines_are : (trees_held_at s ≡ 0 → ⊥) → drawn_lines (held_at s) ≡ map (λ l. l ++ 10 ∷ []) (drawn (names_at s) ts (majority ts))
  unfolding drawn_lines held_in opening_at
  lines_are z = if-false _ _ (ne_eqb (length ts) 0 (λ e. z (sym (trees-length s) ∙ e)))

  pub root-put : {a : ℕ} → a ≡ every_taxon (numbers_at s).taxa → (trees_held_at s ≡ 0 → ⊥) → {ms l after : List ℕ} {at e : ℕ} → ms ≡ majority ts
      → Put l at (drawn_text [] (grown_lines (names_at s) ts ms a a)) after e → Put l at (bytes_of (drawn_lines (held_at s))) after e
  root-put {a} e z {ms} q p =
      let f : a ≡ every_taxon (length (names_at s)) = e ∙ ap every_taxon (sym (names-length s)) in
      let r = drawing-ready e q in
      put_as (rw (q, f) (ap (drawn_text []) (sym (lines-root ts (numbers_at s).taxa (names_at s) (majority ts) r.names splits-held))) ∙ text-root (drawn (names_at s) ts (majority ts)) ∙ ap bytes_of (sym (lines_are z))) p
