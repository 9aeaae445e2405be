-- What the calls that print lines answer. Assumes nothing.
--
--   lines-whole                            lines of the sheet of a whole store
--   refusal-put, refusal-given             the line of a refusal
use Rattle.std.specs.Prelude.{ℕ, ◌≡◌, refl, true, List, [], ◌∷◌, ◌++◌, length, Result}
use Rattle.std.proofs.Common.{sym, ap, ◌∙◌, append_assoc, append-nil}
use Rattle.trees.specs.Plain.{bytes}
use Rattle.trees.specs.Questions.{if_room}
use Rattle.answers.specs.Filled.{FilledAs}
use Rattle.answers.specs.AnswerLaws.{filled-as}
use Rattle.layout.specs.Store.{held_at}
use Rattle.layout.specs.WholeStore.{whole_at}
use Rattle.store.specs.LentLaws.{when_whole}
use Rattle.putting.specs.Put.{Put}
use Rattle.putting.specs.PutLaws.{put_as, put_then}
use Rattle.putting.specs.Lines.{spaced, fields, line_of}
use Rattle.trees.specs.Decimal.{digits_of}
use Rattle.sheet.specs.Sheet.{sheet_lines, refusal_line}
use Rattle.sheet.specs.Asked.{lines_from, lines_asked, refusal_asked}
use Rattle.answers.specs.declared.Refusal.{Refusal}

-- ---- lines of the sheet

module _ (s : List ℕ) (r from room : ℕ) (w : whole_at s ≡ true) where
  pub lines-whole : lines_asked s r from room ≡ lines_from (sheet_lines (held_at s) r) from room
  lines-whole = when_whole s (λ h. lines_from (sheet_lines h r) from room) w

-- ---- the line of a refusal

refusal-text : (d : List ℕ) → (110 ∷ 97 ∷ 109 ∷ 101 ∷ 115 ∷ 32 ∷ 114 ∷ 101 ∷ 102 ∷ 117 ∷ 115 ∷ 101 ∷ 100 ∷ 32 ∷ d) ++ 10 ∷ []
    ≡ line_of (bytes "names" ∷ bytes "refused" ∷ d ∷ [])
unfolding line_of fields spaced bytes
refusal-text d = simp (append_assoc, append-nil)

refusal_is : (k : ℕ) → line_of (bytes "names" ∷ bytes "refused" ∷ digits_of k ∷ []) ≡ refusal_line k
unfolding refusal_line line_of bytes digits_of
refusal_is k = refl

pub refusal-put : (k : ℕ) {l i after : List ℕ} {a z : ℕ} → Put l 0 (110 ∷ 97 ∷ 109 ∷ 101 ∷ 115 ∷ 32 ∷ 114 ∷ 101 ∷ 102 ∷ 117 ∷ 115 ∷ 101 ∷ 100 ∷ 32 ∷ digits_of k) i a
    → Put i a (10 ∷ []) after z → Put l 0 (refusal_line k) after z
refusal-put k p q = put_as (refusal-text (digits_of k) ∙ refusal_is k) (put_then p q)

pub refusal-given : (k : ℕ) (out line : List ℕ) → line ≡ refusal_line k → (a : Result ℕ Refusal) (after : List ℕ)
    → FilledAs (if_room (length out) line) a out after → FilledAs (refusal_asked k (length out)) a out after
refusal-given k out line e a after f = filled-as _ out _ (ap (if_room (length out)) (sym e)) a after f
