-- Laws of the TRANSLATE command that may begin the TREES block. Assumes nothing.
--
--   no_end             the keyword TRANSLATE is not END
--   moved-line, moved-list     what a command does that begins with another word, with TRANSLATE
--   with_none          no pairs before those of a file
--   is-translate       the first token is TRANSLATE, told by places
--   same_read          another command reads the same, whether the block has just begun or not
--   list-moves, listed-pairs     what a TRANSLATE command does, and where it lists pairs
--   open-list, no-list, bad-list, good-list     the paths of `read_list`
use Rattle.std.specs.Prelude.{ℕ, ◌+◌, ◌≤◌, ◌<◌, ◌≡◌, refl, Bool, true, ◌&&◌, if◌then◌else◌}
use native.Mathlib.Omega.{arith}
use Rattle.std.proofs.Math.Path.{sym, ap}
use Rattle.std.proofs.Common.{◌∙◌, le-leb}
use Rattle.std.proofs.Math.Logic.{⊎_elim}
use Rattle.std.proofs.Math.Bool.{false}
use mathlib.Core.List.{List, [], ◌∷◌, map}
use Rattle.std.specs.Prelude.{None, Some}
use Rattle.std.proofs.Math.Option.{Option, none, some}
use Rattle.std.proofs.Math.ListN.{length}
use Rattle.trees.specs.Plain.{every, same_bytes, bytes}
use Rattle.trees.specs.Text.{is_blank, parts}
use Rattle.trees.specs.Nexus.{uncommented, capital, is_word, File, most_keys}
use Rattle.trees.specs.NexusReading.{first_token, behind_first, read_pairs, read_line, is_end, outside, in_trees, wrong, to, lists, listed, line_given, moved, with_pairs, closes, reads_on, reads}
use Rattle.theorems.specs.ListLaws.{if-true, if-false, less-or-not}
use Rattle.theorems.specs.NameLaws.{same_true}
use Rattle.nexus.specs.declared.tokens.Token.{Token}
use Rattle.nexus.specs.Places.{part, plain_at, commands_at, TokenAt, CommandEnd}
use Rattle.nexus.specs.Commands.{pairs_in, PairsAs}
use Rattle.nexus.specs.Blocks.{ListedAs}
use Rattle.nexus.specs.PlacedLaws.{pairs-length, placed-none}
use Rattle.nexus.specs.ReadsLaws.{reads-last, reads-moved}

-- ---- a TRANSLATE command: 44 is the comma between two pairs

no_end : (w : List ℕ) → is_word "TRANSLATE" w ≡ true → is_word "END" w ≡ false
unfolding is_word
no_end w e = go (is_word "END" w) refl
  where
    go : (t : Bool) → is_word "END" w ≡ t → t ≡ false
    go true q =
        let z : bytes "END" ≡ bytes "TRANSLATE" = sym (same_true (map capital w) (bytes "END") q) ∙ same_true (map capital w) (bytes "TRANSLATE") e in
        let n : ◌≡◌ {A = ℕ} 3 9 = ap length z in
        absurd (omega arith)
    go false q = refl

module _ (c : List ℕ) where
  moved-line : is_word "TRANSLATE" (first_token c) ≡ false → moved (in_trees true) c ≡ moved (in_trees false) c
  unfolding moved
  moved-line e =
      ap (λ (t : Bool). if is_end c then to (outside true) else if t then listed (read_pairs (parts 44 false (behind_first c))) else line_given (read_line c)) e

  moved-list : is_word "TRANSLATE" (first_token c) ≡ true → moved (in_trees true) c ≡ listed (read_pairs (parts 44 false (behind_first c)))
  unfolding moved is_end
  moved-list e = if-false _ _ (ap (λ (t : Bool). t && every is_blank (behind_first c)) (no_end (first_token c) e)) ∙ if-true _ _ e

with_none : (x : Option File) → x ≡ with_pairs [] x
unfolding with_pairs
with_none none = refl
with_none (some x) = refl

-- ---- the paths of `read_list`

-- the bytes of TRANSLATE
abbrev translate_bytes : List ℕ
translate_bytes = 84 ∷ 82 ∷ 65 ∷ 78 ∷ 83 ∷ 76 ∷ 65 ∷ 84 ∷ 69 ∷ []

pub open-list : (f : List ℕ) (i e : ℕ) → CommandEnd f i e → e ≡ length f → (ps : List ℕ) → ListedAs f i ps None
unfolding ListedAs closes
open-list f i e end z ps = reads-last f i e end z (in_trees true)

module _
    (f : List ℕ)
    (i e : ℕ)
    (end : CommandEnd f i e)
    (w : Token)
    (tw : TokenAt (part i e f) 0 w)
    (t : Bool)
    (word : t ≡ same_bytes (map capital (part w.from w.end (part i e f))) translate_bytes) where
  is-translate : is_word "TRANSLATE" (first_token (uncommented false (part i e f))) ≡ t
  unfolding is_word
  is-translate = ap (λ (l : List ℕ). same_bytes (map capital l) translate_bytes) tw.token ∙ sym word

  in_end : length f ≤ e → e ≡ length f
  in_end h = omega (arith, end.within)

  same_read : t ≡ false → reads (in_trees true) (commands_at f i) ≡ reads (in_trees false) (commands_at f i)
  unfolding closes
  same_read q =
      let m = moved-line (uncommented false (part i e f)) (is-translate ∙ q) in
      ⊎_elim
      (λ h. reads-moved f i e end h (in_trees true) _ m ∙ sym (reads-moved f i e end h (in_trees false) _ refl))
      (λ h. let z = in_end h in reads-last f i e end z (in_trees true) ∙ sym (reads-last f i e end z (in_trees false)))
      (less-or-not e (length f))

  pub no-list : i ≤ length f → t ≡ false → (ps : List ℕ) → ListedAs f i ps (Some (record { from = i; end = i; pairs = 0; at = i }))
  unfolding ListedAs pairs_in
  no-list h q ps =
      record {
        order = omega arith;
        within = h;
        there = h;
        placed = placed-none (part i i f) ps;
        lists = same_read q ∙ with_none (reads (in_trees false) (commands_at f i));
      }

  module _ (is : t ≡ true) where
    list-moves : moved (in_trees true) (uncommented false (part i e f)) ≡ listed (read_pairs (parts 44 false (plain_at (part i e f) w.end)))
    list-moves = moved-list (uncommented false (part i e f)) (is-translate ∙ is) ∙ ap (λ (l : List ℕ). listed (read_pairs (parts 44 false l))) tw.behind

    module _ (inside : e ≡ length f → ⊥) where
      before : e < length f
      before = omega (arith, inside, end.within)

      pub bad-list : (ps : List ℕ) → PairsAs (part i e f) w.end ps None → ListedAs f i ps None
      unfolding PairsAs ListedAs reads_on
      bad-list ps p = reads-moved f i e end before (in_trees true) wrong (list-moves ∙ p)

      module _ (n : ℕ) (ps : List ℕ) (p : PairsAs (part i e f) w.end ps (Some n)) where
        listed-pairs : listed (read_pairs (parts 44 false (plain_at (part i e f) w.end))) ≡ lists (pairs_in (part i e f) n ps)
        unfolding PairsAs listed
        listed-pairs =
            let few = p.2.few in
            let h : length (pairs_in (part i e f) n ps) ≤ most_keys = omega (arith, pairs-length (part i e f) ps n, few) in
            ap listed p.1 ∙ if-true _ _ (le-leb _ most_keys h)

        pub good-list : ListedAs f i ps (Some (record { from = i; end = e; pairs = n; at = e + 1 }))
        unfolding PairsAs ListedAs reads_on
        good-list =
            record {
              order = end.past;
              within = end.within;
              there = omega (arith, before);
              placed = p.2;
              lists = reads-moved f i e end before (in_trees true) (lists (pairs_in (part i e f) n ps)) (list-moves ∙ listed-pairs);
            }
