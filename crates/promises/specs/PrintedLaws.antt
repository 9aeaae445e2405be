-- The lines that are given, one call after another, are those of the summary. Assumes nothing.
--
--   whole-none, whole-more     pieces, one behind another
--   lines-follow     the bytes that are given behind an answer of finishing, from a line on
use Prim.Native.Nat.{ℕ, zero, suc, ◌+◌, ◌≤◌, ◌<◌}
use Rattle.std.proofs.Common.{arith, ◌∙◌, inl, inr, drop_of_length-le, drop-drop, lt-ltb, le-ltb}
use Rattle.std.proofs.Math.Path.{◌≡◌, refl, sym, ap, ap₂}
use Rattle.std.specs.Prelude.{◌⊎◌, get_or, take, drop, Result, Ok, Err, ℕ}
use mathlib.Core.List.{List, [], ◌∷◌, ◌++◌, flat_map}
use Rattle.std.proofs.Math.ListN.{length}
use Rattle.std.proofs.Math.Seq.{take_at}
use Rattle.theorems.specs.ListLaws.{less-or-not}
use Rattle.trees.specs.Plain.{Answer, refused, gives}
use Rattle.answers.specs.declared.Refusal.{Refusal}
use Rattle.answers.specs.Answers.{refusal_number, both_given}
use Rattle.answers.specs.Filled.{front}
use Rattle.answers.specs.AnswerLaws.{gives≢refused}
use Rattle.putting.specs.Lines.{bytes_of}
use Rattle.putting.specs.LinesLaws.{bytes-append}
use Rattle.sheet.specs.Sheet.{refusal_line}
use Rattle.sheet.specs.Asked.{fitted, if_any, lines_from, bytes_given, sizes_given, PrintsAs}
use Rattle.sheet.specs.RunLaws.{fitted-first, fitted-rest}
use Rattle.sheet.specs.LineRoomLaws.{lines_fit}
use Rattle.summary.specs.Summary.{first_line, summary_bytes, lines_for}
use Rattle.summary.specs.OpeningLaws.{two-or-three}
use Rattle.summary.specs.Summing.{SheetOf, CountedIn, refusal_lines}
use Rattle.summary.specs.StandsLaws.{sheet-is, sheet-counted, refusal_is}
use Rattle.promises.specs.Outcomes.{value_or}
use Rattle.promises.specs.SummarySteps.{whole, LinesGiven}

-- ---- pieces, one behind another

pub whole-none : whole [] ≡ []
unfolding whole flat_map
whole-none = refl

pub whole-more : (p : List ℕ) (ps : List (List ℕ)) → whole (p ∷ ps) ≡ p ++ whole ps
unfolding whole flat_map
whole-more p ps = refl

-- ---- lines that are given

module _ (x : Answer (List (List ℕ))) (ls : List (List ℕ)) (e : x ≡ gives ls) (out after : List ℕ) where
  never-refused : (w : Refusal) → PrintsAs x (Err w) out after → ⊥
  unfolding both_given sizes_given
  never-refused w f = gives≢refused (length (bytes_of ls), length ls) (refusal_number w) (ap sizes_given (sym e) ∙ sym f.0)

  bytes-given : (n k : ℕ) → PrintsAs x (Ok (n, k)) out after → (take n after ≡ bytes_of ls) × (k ≡ length ls)
  unfolding both_given sizes_given bytes_given front value_or
  bytes-given n k f =
      let z : ◌≡◌ {A = ℕ × ℕ} (n, k) (length (bytes_of ls), length ls) = ap (value_or (0, 0)) (f.0 ∙ ap sizes_given e) in
      let a : length (bytes_of ls) ≡ n = sym (ap (λ (y : ℕ × ℕ). y.0) z) in (
        ap (take n) (f.1 ∙ ap (λ (y : Answer (List (List ℕ))). front (bytes_given y) out) e) ∙ take_at (bytes_of ls) (drop (length (bytes_of ls)) out) n a,
        ap (λ (y : ℕ × ℕ). y.1) z,
      )

never-given : (x : Answer (List (List ℕ))) (m : ℕ) → x ≡ refused m → (n k : ℕ) (out after : List ℕ) → PrintsAs x (Ok (n, k)) out after → ⊥
unfolding both_given sizes_given
never-given x m e n k out after f = gives≢refused (n, k) m (f.0 ∙ ap sizes_given e)

-- ---- every line fits into 8,192 bytes

refusal-short : (k : ℕ) → (k ≡ 2) ⊎ (k ≡ 3) → length (refusal_line k) ≤ 8192
refusal-short k (inl e) = rw e (unfold refusal_line in omega arith)
refusal-short k (inr e) = rw e (unfold refusal_line in omega arith)

one-short : (l : List ℕ) (j : ℕ) → length l ≤ 8192 → length (get_or (l ∷ []) j []) ≤ 8192
one-short l zero h = h
one-short l (suc j) h = omega arith

lines-short : (a : Result ℕ Refusal) (s v : List ℕ) → SheetOf a s v → CountedIn v → (j : ℕ) → length (get_or (lines_for v) j []) ≤ 8192
lines-short (Ok n) s v g small j =
    let c = sheet-counted n s v g small in
    rw (sheet-is n s v g small) (lines_fit s (unfold SheetOf in g.2) n c j)
lines-short (Err w) s v g small j =
    rw (refusal_is w s v g) (unfold refusal_lines in one-short (refusal_line (refusal_number w)) j
    (refusal-short (refusal_number w) (two-or-three (first_line v) summary_bytes (omega arith) (refusal_number w) (unfold SheetOf in g))))

-- ---- the lines of the summary of v

module _ (a : Result ℕ Refusal) (s v : List ℕ) (g : SheetOf a s v) (small : CountedIn v) where
  abbrev lines : List (List ℕ)
  lines = lines_for v

  abbrev fit : ℕ → ℕ → List (List ℕ)
  fit from room = fitted room (drop from lines)

  lines-there : (from room : ℕ) → from < length lines → 8192 ≤ room → lines_from lines from room ≡ gives (fit from room)
  unfolding lines_from if_any
  lines-there from room h l =
      let f = fitted-first room lines from h (omega (arith, lines-short a s v g small from)) in
      rw (lt-ltb from (length lines) h, f.1) refl

  lines-past : (from room : ℕ) → length lines ≤ from → lines_from lines from room ≡ refused 13
  unfolding lines_from
  lines-past from room h = rw (le-ltb from (length lines) h) refl

  -- a refusal: there are no more
  given-none : (from : ℕ) (w : Refusal) (out after : List ℕ) → 8192 ≤ length out → PrintsAs (lines_from lines from (length out)) (Err w) out after
      → [] ≡ drop from lines
  given-none from w out after l f = go (less-or-not from (length lines))
    where
      go : (from < length lines) ⊎ (length lines ≤ from) → [] ≡ drop from lines
      go (inl h) = absurd (never-refused _ (fit from (length out)) (lines-there from (length out) h l) out after w f)
      go (inr h) = sym (drop_of_length-le lines h)

  given-more : (from n k : ℕ) (out after : List ℕ) → 8192 ≤ length out → PrintsAs (lines_from lines from (length out)) (Ok (n, k)) out after
      → take n after ++ bytes_of (drop (from + k) lines) ≡ bytes_of (drop from lines)
  given-more from n k out after l f = go (less-or-not from (length lines))
    where
      go : (from < length lines) ⊎ (length lines ≤ from) → take n after ++ bytes_of (drop (from + k) lines) ≡ bytes_of (drop from lines)
      go (inl h) =
          let fs = fit from (length out) in
          let q = bytes-given _ fs (lines-there from (length out) h l) out after n k f in
          let d : drop (from + k) lines ≡ drop (length fs) (drop from lines) =
          ap (λ (i : ℕ). drop (from + i) lines) q.1 ∙ sym (drop-drop (length fs) from lines) in
          ap₂ (λ (y : List ℕ) (z : List (List ℕ)). y ++ bytes_of z) q.0 d ∙ sym (bytes-append fs (drop (length fs) (drop from lines)))
          ∙ ap bytes_of (fitted-rest (length out) (drop from lines))
      go (inr h) = absurd (never-given _ 13 (lines-past from (length out) h) n k out after f)

  pub lines-follow : (parts : List (List ℕ)) (from : ℕ) → LinesGiven a s from parts → whole parts ≡ bytes_of (drop from lines)
  unfolding LinesGiven
  lines-follow [] from q =
      let e : bytes_of [] ≡ [] = unfold bytes_of flat_map in refl in
      whole-none ∙ sym e ∙ ap bytes_of (given-none from q.0 q.1 q.2 q.3 (q.4.carries v g small))
  lines-follow (p ∷ ps) from q =
      whole-more p ps
      ∙ ap₂ (λ (x : List ℕ) (y : List ℕ). x ++ y) q.6 (lines-follow ps (from + q.1) q.7)
      ∙ given-more from q.0 q.1 q.2 q.3 q.4 (q.5.carries v g small)
