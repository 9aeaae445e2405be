-- The plain NEXUS file around texts is one, and gives them. Assumes nothing.
--
--   Plain w, AllPlain ws     in the text w, in all texts ws, none ends, no comment begins, and quotes are closed behind
--   with_end w             the text w and a semicolon
--   behind_blank ws        a file without pairs, with the texts ws, each behind a blank
--   around-file           the file around texts is a NEXUS file, and gives them behind a blank
--   replaced-none         without keys a text stays
--   around-plain          so these are its plain texts
use Rattle.std.specs.Prelude.{ℕ, ◌≡◌, Bool, true, false, ◌&&◌, not}
use Rattle.std.proofs.Common.{arith, ap₂, ◌∙◌, inl, inr}
use Rattle.std.proofs.Math.Path.{refl, ap, sym, subst}
use mathlib.Core.List.{List, [], ◌∷◌, ◌++◌, map, append_assoc, append-nil}
use Rattle.trees.specs.Plain.{every, member, same_bytes, bytes}
use Rattle.trees.specs.Text.{is_blank, is_label_byte, turned, with_byte, parts}
use Rattle.trees.specs.Nexus.{begins, uncommented, capital, is_word, is_token, First, is-first, are-two, File, is-begin, no_other, no-list, is_name_byte, IsLine, is-line, IsLines, no_line, a-line, IsEnd, is-end, IsTrees, is-trees, IsNexus, is-nexus}
use Rattle.trees.specs.NexusCall.{name_of, shown, free_behind, replaced_after, replaced, plain_texts}
use Rattle.theorems.specs.ListLaws.{by-elim, Mem}
use Rattle.theorems.specs.OutsideLaws.{Leads, leads-append, leads-over, leads-cut, leads-uncommented}
use Rattle.theorems.specs.NexusFile.{tree_lines, file_around}

-- ---- texts in which none ends and no comment begins

abbrev pub Plain : List ℕ → Type 0
Plain w = Leads 59 false w false × Leads 91 false w false

abbrev pub AllPlain : List (List ℕ) → Type 0
AllPlain ws = (w : List ℕ) → Mem w ws → Plain w

abbrev pub with_end : List ℕ → List ℕ
with_end w = w ++ 59 ∷ []

-- a tree's command, with the text w behind a blank
abbrev command : List ℕ → List ℕ
command w = bytes "\nTREE t = " ++ w

line-is : (w : List ℕ) → IsLine (command w) (32 ∷ w)
unfolding bytes every is_blank is_label_byte is_name_byte is_token is_word same_bytes capital begins member
line-is w =
    is-line {w = bytes "TREE"} {r = bytes " t = " ++ w} (bytes " ") (bytes "t") (bytes " ")
    (is-first (bytes "\n") refl refl refl refl) refl refl refl (omega arith) refl refl

end_is : IsEnd (bytes "\nEND")
unfolding bytes every is_blank is_label_byte is_token is_word same_bytes capital begins member
end_is = is-end {w = bytes "END"} {r = []} (is-first (bytes "\n") refl refl refl refl) refl refl

lines_are : (ws : List (List ℕ)) → IsLines (map command ws) (map (λ w. 32 ∷ w) ws)
lines_are [] = no_line
lines_are (w ∷ ws) = a-line (line-is w) (lines_are ws)

-- bytes without the byte x and without quotes
abbrev lacks : ℕ → ℕ → Bool
lacks x b = not (member b (39 ∷ x ∷ []))

lacks-leads : (x : ℕ) → lacks x x ≡ false → (w : List ℕ) → every (lacks x) w ≡ true → Leads x false w false
unfolding member
lacks-leads x e w h = leads-over x (lacks x) refl e false w h

command-unended : (w : List ℕ) → Plain w → Leads 59 false (command w) false
unfolding bytes every member
command-unended w p = leads-append 59 (lacks-leads 59 refl (bytes "\nTREE t = ") refl) p.0

lines-parts : (ws : List (List ℕ)) → AllPlain ws → parts 59 false (10 ∷ tree_lines (map with_end ws)) ≡ map command ws ++ (bytes "\nEND" ∷ (10 ∷ []) ∷ [])
unfolding tree_lines parts with_byte bytes
lines-parts [] f = refl
lines-parts (w ∷ ws) f =
    let rest : List ℕ = 10 ∷ tree_lines (map with_end ws) in
    ap (λ (y : List ℕ). parts 59 false (bytes "\nTREE t = " ++ y)) (append_assoc w (59 ∷ []) rest)
    ∙ leads-cut (command-unended w (f w (inl refl))) rest
    ∙ ap (λ (y : List (List ℕ)). command w ∷ y) (lines-parts ws (λ v m. f v (inr m)))

lines-plain : (ws : List (List ℕ)) → AllPlain ws → Leads 91 false (tree_lines (map with_end ws)) false
unfolding tree_lines bytes every member
lines-plain [] f = lacks-leads 91 refl (bytes "END;\n") refl
lines-plain (w ∷ ws) f =
    leads-append 91 (lacks-leads 91 refl (bytes "TREE t = ") refl)
    (leads-append 91 (leads-append 91 (f w (inl refl)).1 (lacks-leads 91 refl (59 ∷ []) refl))
    (leads-append 91 (lacks-leads 91 refl (10 ∷ []) refl) (lines-plain ws (λ v m. f v (inr m)))))

-- what a file around the texts ws gives
abbrev pub behind_blank : List (List ℕ) → File
behind_blank ws = record { pairs = []; texts = map (λ w. 32 ∷ w) ws }

module _ (ws : List (List ℕ)) (all : AllPlain ws) where
  abbrev rest : List ℕ
  rest = bytes "\nBEGIN TREES;\n" ++ tree_lines (map with_end ws)

  trees-are : IsTrees (bytes "\nBEGIN TREES" ∷ (map command ws ++ (bytes "\nEND" ∷ []))) (behind_blank ws)
  unfolding bytes every is_blank is_label_byte is_token is_word same_bytes capital begins member
  trees-are =
      is-trees (bytes "\nBEGIN TREES") (bytes "TREES") [] (map command ws) (bytes "\nEND") refl
      (is-begin {w = bytes "BEGIN"} (are-two {r = bytes " TREES"} {e = []} (is-first (bytes "\n") refl refl refl refl) (is-first (bytes " ") refl refl refl refl) refl) refl)
      refl no-list (lines_are ws) end_is

  around-parts : parts 59 false rest ≡ (bytes "\nBEGIN TREES" ∷ (map command ws ++ (bytes "\nEND" ∷ []))) ++ ((10 ∷ []) ∷ [])
  unfolding bytes every member
  around-parts =
      leads-cut (lacks-leads 59 refl (bytes "\nBEGIN TREES") refl) (10 ∷ tree_lines (map with_end ws))
      ∙ ap (λ (y : List (List ℕ)). bytes "\nBEGIN TREES" ∷ y) (lines-parts ws all ∙ sym (append_assoc (map command ws) (bytes "\nEND" ∷ []) ((10 ∷ []) ∷ [])))

  around-first : First (uncommented false (file_around (map with_end ws))) (bytes "#NEXUS") rest
  unfolding file_around bytes every is_blank is_label_byte is_token begins member
  around-first =
      subst (λ (s : List ℕ). First s (bytes "#NEXUS") rest)
      (sym (leads-uncommented (leads-append 91 (lacks-leads 91 refl (bytes "#NEXUS\nBEGIN TREES;\n") refl) (lines-plain ws all)))) (is-first [] refl refl refl refl)

  pub around-file : IsNexus (file_around (map with_end ws)) (behind_blank ws)
  unfolding bytes every is_blank is_word same_bytes capital member
  around-file = is-nexus [] (bytes "\nBEGIN TREES" ∷ (map command ws ++ (bytes "\nEND" ∷ []))) [] (10 ∷ []) around-first refl around-parts no_other trees-are no_other refl

-- ---- without keys

shown-none : (free : Bool) (w : List ℕ) → shown [] free w ≡ w
unfolding shown name_of
shown-none free [] = refl
shown-none true (b ∷ w) = refl
shown-none false (b ∷ w) = refl

after_none : (q free : Bool) (w s : List ℕ) → replaced_after [] q free w s ≡ w ++ s
unfolding replaced_after
after_none q free w [] = shown-none free w ∙ sym (append-nil w)
after_none q free w (b ∷ s) =
    by-elim (λ (r : List ℕ). r ≡ w ++ (b ∷ s)) (not q && is_label_byte b) (λ e. after_none q free (w ++ b ∷ []) s ∙ append_assoc w (b ∷ []) s)
    (λ e. ap₂ (λ (u v : List ℕ). u ++ (b ∷ v)) (shown-none free w) (after_none (turned q b) (free_behind free w b) [] s))

pub replaced-none : (ts : List (List ℕ)) → map (replaced []) ts ≡ ts
unfolding replaced
replaced-none [] = refl
replaced-none (t ∷ ts) = ap₂ (λ (u : List ℕ) (us : List (List ℕ)). u ∷ us) (after_none false true [] t) (replaced-none ts)

pub around-plain : (ws : List (List ℕ)) → plain_texts (behind_blank ws) ≡ map (λ w. 32 ∷ w) ws
unfolding plain_texts
around-plain ws = replaced-none (map (λ w. 32 ∷ w) ws)
