-- The calls of the summary carry what a state stands for. Assumes nothing.
--
--   begun-short, begun-roomy     what each return of beginning promises
--   opens-stands           behind a first line that has ended
--   take-stands, took-as   a piece more
--   finish-stands, finished_as     finishing
--   sheet-counted, sheet-is, refusal_is     the lines of the summary, behind an answer of finishing
--   lines-stand, printed-as     lines
use Rattle.std.specs.Prelude.{ℕ, ◌^◌, ◌≤◌, ◌<◌, Bool, false, leb, drop, Result, Ok, Err}
use Rattle.std.proofs.Common.{arith, sym, ap₂, ◌∙◌, true≢false}
use Rattle.std.proofs.Math.Path.{◌≡◌, refl, ap, subst}
use Rattle.std.proofs.Math.Bool.{true}
use mathlib.Core.List.{List, [], ◌++◌}
use Rattle.std.proofs.Math.ListN.{length}
use borrow.Author.Tests.{le-leb, leb-true}
use Rattle.trees.specs.Plain.{member, Answer, refused, gives}
use Rattle.trees.specs.Opening.{Opening}
use Rattle.trees.specs.Held.{opened, closing}
use Rattle.trees.specs.Batch.{texts_in, batching}
use Rattle.theorems.specs.ListLaws.{and_left, and_right}
use Rattle.answers.specs.declared.Refusal.{Refusal}
use Rattle.answers.specs.Answers.{refusal_number, finish_given}
use Rattle.layout.specs.Store.{held_at}
use Rattle.store.specs.LentLaws.{when_whole}
use Rattle.table.specs.Promises.{OpenedAs}
use Rattle.sheet.specs.Sheet.{sheet_lines}
use Rattle.sheet.specs.Asked.{lines_from, PrintsAs}
use Rattle.summary.specs.declared.LinePart.{LinePart}
use Rattle.summary.specs.declared.Summing.{Summing}
use Rattle.summary.specs.declared.Summing.TheVariants as summing
use Rattle.summary.specs.Summary.{first_line, behind_line, summary_bytes, summary_opening, closed_sheet, summary_lines, printed_lines, lines_for}
use Rattle.summary.specs.FirstLine.{Kept, Keeps, kept_of, kept_opening}
use Rattle.summary.specs.Texts.{ClosedAs}
use Rattle.summary.specs.TextsLaws.{capped_small}
use Rattle.summary.specs.KeptLaws.{keeps-none, keeps-after, line-decides}
use Rattle.summary.specs.OpeningLaws.{enough-lent}
use Rattle.summary.specs.InputLaws.{member-left, member_right, no_end, nothing-behind, line-left, line-right, behind-left, behind-right, behind-taken}
use Rattle.summary.specs.Summing.{roomy, asks_for, all_fed, refused_texts, FedSoFar, StandsFor, SheetOf, CountedIn, begun, BegunAs, BehindAs, OpensAs, NamesAs, TakeSteps, TookAs, EndsAs, ClosesAs, FinishSteps, FinishedAs, refusal_lines, sheet_asked, PrintedAs}
use Rattle.summary.specs.FedSoFarLaws.{none_open, texts-none, feeds-on, closed_on, closed-never}

-- ---- beginning

module _ (names lent : List ℕ) where
  pub begun-short : roomy names lent ≡ false → BegunAs names lent (begun false)
  unfolding roomy
  begun-short e = record {
    answer = ap begun (sym e);
    carries = λ a b. absurd (true≢false (sym (rw (le-leb 4288 (length names) a, le-leb summary_bytes (length lent) b) refl) ∙ e));
  }

  pub begun-roomy : 4288 ≤ length names → summary_bytes ≤ length lent → BegunAs names lent (begun true)
  unfolding StandsFor begun member
  begun-roomy a b = record { answer = ap begun (sym room); carries = λ c d. (room, refl, keeps-none names) }
    where
      room : roomy names lent ≡ true
      room = unfold roomy in rw (le-leb 4288 (length names) a, le-leb summary_bytes (length lent) b) refl

-- ---- the first line has ended

-- what is kept of the line asks for what the input asks for
module _ (room : ℕ) (k : Kept) (v lent : List ℕ) (g : Keeps room (first_line v) k) (a : 4288 ≤ room) (b : summary_bytes ≤ length lent) where
  asks-same : kept_opening k (length lent) ≡ asks_for v
  asks-same = line-decides room (first_line v) k g (length lent) a ∙ enough-lent (first_line v) (length lent) b

  opened-same : (f : Result (Unit {0}) Refusal) (s : List ℕ) → OpenedAs (kept_opening k (length lent)) f lent s → OpenedAs (asks_for v) f lent s
  opened-same f s c = subst (λ (x : Answer Opening). OpenedAs x f lent s) asks-same c

  pub opens-stands : member 10 v ≡ true → (names : List ℕ) (r : Summing) (t : List ℕ) → OpensAs k lent (behind_line v) r t → StandsFor r names t v
  unfolding StandsFor OpenedAs finish_given BehindAs
  opens-stands m names r t c = go (asks_for v) refl c.answer (opened-same c.answer c.store c.opens) c.behind
    where
      go : (x : Answer Opening) → asks_for v ≡ x → (f : Result (Unit {0}) Refusal) → OpenedAs x f lent c.store → BehindAs f c.store (behind_line v) r t → StandsFor r names t v
      go (refused j) e (Ok tt) p q = absurd (let z : ◌≡◌ {A = ℕ} 0 1 = cc p.0 in omega arith)
      go (refused j) e (Err w) p q =
          let d : refusal_number w ≡ j = cc p.0 in
          subst (λ (y : Summing). StandsFor y names t v) (sym q.0) (m, e ∙ ap refused (sym d))
      go (gives o) e (Err w) p q = absurd (let z : ◌≡◌ {A = ℕ} 0 1 = cc p.0 in omega arith)
      go (gives o) e (Ok tt) p q =
          let z = feeds-on o [] c.store 0 (texts-none o lent c.store p.1) (behind_line v) r t q in
          subst (λ (y : Summing). StandsFor y names t v) (sym z.1) (m, o, e, z.2)

  pub closes-stands : behind_line v ≡ [] → (r : Result ℕ Refusal) (t : List ℕ) → ClosesAs k lent r t → SheetOf r t v
  unfolding SheetOf OpenedAs finish_given EndsAs
  closes-stands m r t c = go (asks_for v) refl c.answer (opened-same c.answer c.store c.opens) c.ends
    where
      closes : (o : Opening) → asks_for v ≡ gives o → FedSoFar o [] c.store 0 → (y : Result ℕ Refusal) → ClosedAs c.store 0 y t → SheetOf y t v
      closes o e f (Err w) q = absurd (closed-never o [] c.store 0 f w t q)
      closes o e f (Ok n) q = let z = closed_on o [] c.store 0 f n t q in (o, e, z.0, rw m z.1, rw m z.2)

      go : (x : Answer Opening) → asks_for v ≡ x → (f : Result (Unit {0}) Refusal) → OpenedAs x f lent c.store → EndsAs f c.store r t → SheetOf r t v
      go (refused j) e (Ok tt) p q = absurd (let z : ◌≡◌ {A = ℕ} 0 1 = cc p.0 in omega arith)
      go (refused j) e (Err w) p q =
          let d : refusal_number w ≡ j = cc p.0 in
          subst (λ (y : Result ℕ Refusal). SheetOf y t v) (sym q.0) (e ∙ ap refused (sym d))
      go (gives o) e (Err w) p q = absurd (let z : ◌≡◌ {A = ℕ} 0 1 = cc p.0 in omega arith)
      go (gives o) e (Ok tt) p q = closes o e (texts-none o lent c.store p.1) r q

roomy-names : (names lent : List ℕ) → roomy names lent ≡ true → 4288 ≤ length names
unfolding roomy
roomy-names names lent e = leb-true 4288 (length names) (and_left (leb 4288 (length names)) _ e)

roomy-lent : (names lent : List ℕ) → roomy names lent ≡ true → summary_bytes ≤ length lent
unfolding roomy
roomy-lent names lent e = leb-true summary_bytes (length lent) (and_right (leb 4288 (length names)) _ e)

-- ---- a piece more

module _ (line : LinePart) (names lent p : List ℕ) (r : Summing) (after t : List ℕ) (c : NamesAs line names lent p r after t) (v : List ℕ)
    (room : roomy names lent ≡ true) (on : member 10 v ≡ false) (g : Keeps (length names) v (kept_of line names)) where
  keeps_on : Keeps (length names) (v ++ first_line p) (kept_of c.taken.line after)
  keeps_on =
      subst (λ (x : Kept). Keeps (length names) (v ++ first_line p) x) (sym c.kept.line) (keeps-after (length names) v (first_line p) (kept_of line names) g)

  -- the line goes on
  goes_on : member 10 p ≡ false → StandsFor r after t (v ++ p)
  unfolding StandsFor roomy
  goes_on e =
      let f = c.goes (c.kept.ended ∙ e) in
      let l : length after ≡ length names = keeps_on.size in
      let k : Keeps (length names) (v ++ p) (kept_of c.taken.line after) =
      subst (λ (x : List ℕ). Keeps (length names) (v ++ x) (kept_of c.taken.line after)) (no_end p e) keeps_on in
      let x : roomy after lent ≡ true = rw l room in
      subst (λ (y : Summing). StandsFor y after t (v ++ p)) (sym f.0)
      (subst (λ (y : List ℕ). roomy after y ≡ true) (sym f.1) x, member_right v p on ∙ e, subst (λ (n : ℕ). Keeps n (v ++ p) (kept_of c.taken.line after)) (sym l) k)

  -- it ends in this piece
  ends-here : member 10 p ≡ true → StandsFor r after t (v ++ p)
  ends-here e =
      let k : Keeps (length names) (first_line (v ++ p)) (kept_of c.taken.line after) = rw (line-right v p on) keeps_on in
      let q : drop c.taken.taken p ≡ behind_line (v ++ p) =
      ap (λ (n : ℕ). drop n p) c.kept.taken ∙ behind-taken p e ∙ sym (behind-right v p on) in
      opens-stands (length names) (kept_of c.taken.line after) (v ++ p) lent k (roomy-names names lent room) (roomy-lent names lent room)
      (member_right v p on ∙ e) after r t
      (subst (λ (x : List ℕ). OpensAs (kept_of c.taken.line after) lent x r t) q (c.ends (c.kept.ended ∙ e)))

  names_stand : StandsFor r after t (v ++ p)
  names_stand = go (member 10 p) refl
    where
      go : (x : Bool) → member 10 p ≡ x → StandsFor r after t (v ++ p)
      go true e = ends-here e
      go false e = goes_on e

-- behind the first line, more bytes change nothing of it
asks-on : (v p : List ℕ) → member 10 v ≡ true → asks_for (v ++ p) ≡ asks_for v
asks-on v p e = ap (λ (x : List ℕ). summary_opening x summary_bytes) (line-left v p e)

pub take-stands : (state : Summing) (names lent p : List ℕ) (r : Summing) (after t : List ℕ) → TakeSteps state names lent p r after t
    → (v : List ℕ) → StandsFor state names lent v → StandsFor r after t (v ++ p)
unfolding TakeSteps StandsFor
take-stands (summing.Line line) names lent p r after t c v g = names_stand line names lent p r after t c v g.0 g.1 g.2
take-stands (summing.Texts n) names lent p r after t c v g =
    let z = feeds-on g.1 (behind_line v) lent n g.3 p r t c.0 in
    subst (λ (y : Summing). StandsFor y after t (v ++ p)) (sym z.1)
    (member-left v p g.0, g.1, asks-on v p g.0 ∙ g.2, subst (λ (x : List ℕ). FedSoFar g.1 x t z.0) (sym (behind-left v p g.0)) z.2)
take-stands (summing.Refused w) names lent p r after t c v g =
    subst (λ (y : Summing). StandsFor y after t (v ++ p)) (sym c.0) (member-left v p g.0, asks-on v p g.0 ∙ g.1)

pub took-as : (state : Summing) (names lent p : List ℕ) (r : Summing) (after t : List ℕ) → TakeSteps state names lent p r after t → TookAs state names lent p r after t
took-as state names lent p r after t c = record { steps = c; carries = take-stands state names lent p r after t c }

-- ---- finishing

module _ (n : ℕ) (lent : List ℕ) (v : List ℕ) (o : Opening) (e : asks_for v ≡ gives o) (g : FedSoFar o (behind_line v) lent n) where
  texts-finish : (r : Result ℕ Refusal) (t : List ℕ) → ClosedAs lent n r t → SheetOf r t v
  unfolding SheetOf
  texts-finish (Err w) t c = absurd (closed-never o (behind_line v) lent n g w t c)
  texts-finish (Ok m) t c = let z = closed_on o (behind_line v) lent n g m t c in (o, e, z.0, z.1, z.2)

pub finish-stands : (state : Summing) (names lent : List ℕ) (r : Result ℕ Refusal) (t : List ℕ) → FinishSteps state names lent r t
    → (v : List ℕ) → StandsFor state names lent v → SheetOf r t v
unfolding FinishSteps StandsFor SheetOf
finish-stands (summing.Line line) names lent r t c v g =
    closes-stands (length names) (kept_of line names) v lent (rw (no_end v g.1) g.2) (roomy-names names lent g.0) (roomy-lent names lent g.0)
    (nothing-behind v g.1) r t c
finish-stands (summing.Texts n) names lent r t c v g = texts-finish n lent v g.1 g.2 g.3 r t c
finish-stands (summing.Refused w) names lent r t c v g = subst (λ (y : Result ℕ Refusal). SheetOf y t v) (sym c.0) g.1

pub finished_as : (state : Summing) (names lent : List ℕ) (r : Result ℕ Refusal) (t : List ℕ) → FinishSteps state names lent r t → FinishedAs state names lent r t
finished_as state names lent r t c = record { steps = c; carries = finish-stands state names lent r t c }

-- ---- lines

lines_are : (v : List ℕ) (x : Answer Opening) → asks_for v ≡ x → lines_for v ≡ printed_lines x (behind_line v)
unfolding lines_for
lines_are v x e = ap (λ (y : Answer Opening). printed_lines y (behind_line v)) e

lines_of : (o : Opening) (q : List ℕ) → printed_lines (gives o) q ≡ sheet_lines (closing (all_fed o q).after 0).after (refused_texts o q)
unfolding printed_lines summary_lines closed_sheet refused_texts
lines_of o q = ap (λ (b : Bool). closed_sheet (batching (texts_in b q) (opened o) 0 q)) (sym (none_open o))

-- the answer counts the refused texts
pub sheet-counted : (n : ℕ) (s v : List ℕ) → SheetOf (Ok n) s v → CountedIn v → n < 2 ^ 64
unfolding SheetOf CountedIn
sheet-counted n s v g small =
    let c = small g.0 g.1 in
    omega (arith, c, g.4 ∙ sym (capped_small (refused_texts g.0 (behind_line v)) c))

-- the lines of the summary: those of the sheet of the store, or that of the refusal
pub sheet-is : (n : ℕ) (s v : List ℕ) → SheetOf (Ok n) s v → CountedIn v → lines_for v ≡ sheet_lines (held_at s) n
unfolding SheetOf CountedIn
sheet-is n s v g small =
    let c : n ≡ refused_texts g.0 (behind_line v) = g.4 ∙ sym (capped_small (refused_texts g.0 (behind_line v)) (small g.0 g.1)) in
    lines_are v (gives g.0) g.1 ∙ lines_of g.0 (behind_line v) ∙ sym (ap₂ sheet_lines g.3 c)

pub refusal_is : (w : Refusal) (s v : List ℕ) → SheetOf (Err w) s v → lines_for v ≡ refusal_lines w
unfolding SheetOf printed_lines refusal_lines
refusal_is w s v g = lines_are v (refused (refusal_number w)) g

pub lines-stand : (a : Result ℕ Refusal) (s v : List ℕ) → SheetOf a s v → CountedIn v → (from room : ℕ) → sheet_asked a s from room ≡ lines_from (lines_for v) from room
unfolding SheetOf sheet_asked
lines-stand (Ok n) s v g small from room =
    when_whole s (λ h. lines_from (sheet_lines h n) from room) g.2 ∙ ap (λ (ls : List (List ℕ)). lines_from ls from room) (sym (sheet-is n s v g small))
lines-stand (Err w) s v g small from room = ap (λ (ls : List (List ℕ)). lines_from ls from room) (sym (refusal_is w s v g))

pub printed-as : (a : Result ℕ Refusal) (s : List ℕ) (from : ℕ) (r : Result (ℕ × ℕ) Refusal) (out after : List ℕ) → PrintsAs (sheet_asked a s from (length out)) r out after
    → PrintedAs a s from r out after
printed-as a s from r out after f = record {
  prints = f;
  carries = λ v g small. subst (λ (x : Answer (List (List ℕ))). PrintsAs x r out after) (lines-stand a s v g small from (length out)) f;
}
