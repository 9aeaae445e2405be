-- What each return of the summary's calls promises. Assumes nothing.
--
--   taken-fits             the bytes that are the first line's are the piece's
--   begun-names, begun-lent, begun-done     beginning
--   feeds-given, feeds-refused     texts
--   opens-refused, opens-done      the first line has ended
--   names-go, names-end    a piece of the first line
--   took-line, took-texts, took-refused     taking a piece
--   closes-refused, closes-done    the input ends in its first line
--   finished-line, finished-texts, finished-refused     finishing
--   refusal-past, refusal-given, refusal-short     the one line behind a refusal
--   printed-sheet, printed-refusal     giving lines
use Rattle.std.specs.Prelude.{ℕ, suc, ◌-◌, ◌≤◌, ◌<◌, ◌≡◌, Bool, ◌||◌, ◌&&◌, List, [], ◌∷◌, eqb, leb, length, take, drop, if◌then◌else◌, Result, Ok, Err}
use Rattle.std.proofs.Common.{arith, ap, subst, ◌∙◌, true≢false, length-drop, take_all}
use Rattle.std.proofs.Math.Path.{refl, sym}
use Rattle.std.proofs.Math.Bool.{true, false}
use Rattle.std.proofs.lemmas.Bool.{lt-leb}
use Rattle.trees.specs.Plain.{member}
use Rattle.trees.specs.Questions.{if_room}
use Rattle.answers.specs.declared.Refusal.{Refusal}
use Rattle.answers.specs.declared.Refusal.TheVariants as why
use Rattle.answers.specs.Answers.{refusal_number}
use Rattle.answers.specs.Filled.{FilledAs}
use Rattle.table.specs.Promises.{OpenedAs}
use Rattle.sheet.specs.Sheet.{refusal_line}
use Rattle.sheet.specs.Asked.{lines_from, lines_asked, PrintsAs, refusal_asked}
use Rattle.sheet.specs.RunLaws.{prints-missing, one-given, one-refused}
use Rattle.summary.specs.declared.LinePart.{LinePart}
use Rattle.summary.specs.declared.Summing.{Summing}
use Rattle.summary.specs.declared.Summing.TheVariants as summing
use Rattle.summary.specs.declared.Taken.{Taken}
use Rattle.summary.specs.Summary.{first_line, summary_bytes}
use Rattle.summary.specs.FirstLine.{Kept, kept_of, line_taken, TakenAs, kept_opening}
use Rattle.summary.specs.FirstLineLaws.{eqb-flip}
use Rattle.summary.specs.Texts.{TextsAs, ClosedAs}
use Rattle.summary.specs.Summing.{roomy, begun, BegunAs, fed_state, FeedsAs, BehindAs, OpensAs, NamesAs, TakeSteps, TookAs, EndsAs, ClosesAs, FinishSteps, FinishedAs, refusal_lines, sheet_asked, PrintedAs}
use Rattle.summary.specs.StandsLaws.{begun-short, begun-roomy, took-as, finished_as, printed-as}

-- ---- beginning

module _ (names lent : List ℕ) where
  pub begun-names : length names < 4288 → BegunAs names lent (summing.Refused why.TooShort)
  unfolding begun roomy
  begun-names h = begun-short names lent (rw (lt-leb 4288 (length names) h) refl)

  pub begun-lent : length lent < summary_bytes → BegunAs names lent (summing.Refused why.TooShort)
  unfolding begun
  begun-lent h = begun-short names lent (unfold roomy in rw (lt-leb summary_bytes (length lent) h) (none (leb 4288 (length names))))
    where
      none : (x : Bool) → (x && false) ≡ false
      none true = refl
      none false = refl

  pub begun-done : 4288 ≤ length names → summary_bytes ≤ length lent → BegunAs names lent (summing.Line (record { used = 0; spaces = 0; quoted = false }))
  unfolding begun
  begun-done a b = begun-roomy names lent a b

-- ---- texts

module _ (s : List ℕ) (n : ℕ) (q : List ℕ) (a : Result ℕ Refusal) (t : List ℕ) (f : TextsAs s n q a t) where
  pub feeds-given : (m : ℕ) → a ≡ Ok m → FeedsAs s n q (summing.Texts m) t
  unfolding fed_state
  feeds-given m e = record { answer = a; fed = f; state = sym (ap fed_state e) }

  pub feeds-refused : (w : Refusal) → a ≡ Err w → FeedsAs s n q (summing.Refused w) t
  unfolding fed_state
  feeds-refused w e = record { answer = a; fed = f; state = sym (ap fed_state e) }

-- ---- the first line has ended

module _ (k : Kept) (s : List ℕ) (f : Result (Unit {0}) Refusal) (u : List ℕ) (o : OpenedAs (kept_opening k (length s)) f s u) where
  opened-as : (g : Result (Unit {0}) Refusal) → f ≡ g → OpenedAs (kept_opening k (length s)) g s u
  opened-as g e = subst (λ (x : Result (Unit {0}) Refusal). OpenedAs (kept_opening k (length s)) x s u) e o

  pub opens-refused : (w : Refusal) → f ≡ Err w → (q : List ℕ) → OpensAs k s q (summing.Refused w) u
  unfolding BehindAs
  opens-refused w e q = record { answer = Err w; store = u; opens = opened-as (Err w) e; behind = (refl, refl) }

  pub opens-done : f ≡ Ok tt → (q : List ℕ) (r : Summing) (t : List ℕ) → FeedsAs u 0 q r t → OpensAs k s q r t
  unfolding BehindAs
  opens-done e q r t g = record { answer = (Ok tt); store = u; opens = opened-as (Ok tt) e; behind = g }

  pub closes-refused : (w : Refusal) → f ≡ Err w → ClosesAs k s (Err w) u
  unfolding EndsAs
  closes-refused w e = record { answer = Err w; store = u; opens = opened-as (Err w) e; ends = (refl, refl) }

  pub closes-done : f ≡ Ok tt → (r : Result ℕ Refusal) (t : List ℕ) → ClosedAs u 0 r t → ClosesAs k s r t
  unfolding EndsAs
  closes-done e r t g = record { answer = (Ok tt); store = u; opens = opened-as (Ok tt) e; ends = g }

-- ---- a piece of the first line

line-inside : (p : List ℕ) → member 10 p ≡ true → length (first_line p) < length p
unfolding first_line member
line-inside [] e = absurd (true≢false (sym e))
line-inside (b ∷ p) e = go (eqb b 10) (line-inside p) (rw (eqb-flip 10 b) at e)
  where
    go : (t : Bool) → (member 10 p ≡ true → length (first_line p) < length p) → (t || member 10 p) ≡ true → length (if t then [] else b ∷ first_line p) < suc (length p)
    go true f h = omega arith
    go false f h = omega (arith, f h)

line-within : (p : List ℕ) → line_taken p ≤ length p
unfolding line_taken
line-within p = go (member 10 p) refl
  where
    go : (t : Bool) → member 10 p ≡ t → (if t then suc (length (first_line p)) else length p) ≤ length p
    go true e = omega (arith, line-inside p e)
    go false e = omega arith

module _ (line : LinePart) (names s p : List ℕ) (r : Taken) (after : List ℕ) (k : TakenAs (kept_of line names) p r after) where
  pub taken-fits : r.taken ≤ length p
  taken-fits = omega (arith, k.taken, line-within p)

  pub names-go : r.ended ≡ false → NamesAs line names s p (summing.Line r.line) after s
  names-go e = record { taken = r; kept = k; goes = λ f. (refl, refl); ends = λ f. absurd (true≢false (sym f ∙ e)) }

  pub names-end : r.ended ≡ true → (x : Summing) (t : List ℕ) → OpensAs (kept_of r.line after) s (take (length p - r.taken) (drop r.taken p)) x t
      → NamesAs line names s p x after t
  names-end e x t o = record {
    taken = r;
    kept = k;
    goes = λ f. absurd (true≢false (sym e ∙ f));
    ends = λ f. subst (λ (q : List ℕ). OpensAs (kept_of r.line after) s q x t) rest o;
  }
    where
      rest : take (length p - r.taken) (drop r.taken p) ≡ drop r.taken p
      rest = take_all (length p - r.taken) (drop r.taken p) (omega (arith, length-drop r.taken p))

-- ---- taking a piece

module _ (state : Summing) (names s p : List ℕ) where
  took_by : (x : Summing) → state ≡ x → (r : Summing) (after t : List ℕ) → TakeSteps x names s p r after t → TookAs state names s p r after t
  took_by x e r after t c = subst (λ (y : Summing). TookAs y names s p r after t) (sym e) (took-as x names s p r after t c)

  pub took-line : (line : LinePart) → state ≡ summing.Line line → (r : Summing) (after t : List ℕ) → NamesAs line names s p r after t → TookAs state names s p r after t
  took-line line e r after t c = took_by (summing.Line line) e r after t (unfold TakeSteps in c)

  pub took-texts : (n : ℕ) → state ≡ summing.Texts n → (r : Summing) (t : List ℕ) → FeedsAs s n p r t → TookAs state names s p r names t
  took-texts n e r t c = took_by (summing.Texts n) e r names t (unfold TakeSteps in (c, refl))

  pub took-refused : (w : Refusal) → state ≡ summing.Refused w → TookAs state names s p (summing.Refused w) names s
  took-refused w e = took_by (summing.Refused w) e (summing.Refused w) names s (unfold TakeSteps in (refl, refl, refl))

-- ---- finishing

module _ (state : Summing) (names s : List ℕ) where
  finished-by : (x : Summing) → state ≡ x → (r : Result ℕ Refusal) (t : List ℕ) → FinishSteps x names s r t → FinishedAs state names s r t
  finished-by x e r t c = subst (λ (y : Summing). FinishedAs y names s r t) (sym e) (finished_as x names s r t c)

  pub finished-line : (line : LinePart) → state ≡ summing.Line line → (r : Result ℕ Refusal) (t : List ℕ) → ClosesAs (kept_of line names) s r t → FinishedAs state names s r t
  finished-line line e r t c = finished-by (summing.Line line) e r t (unfold FinishSteps in c)

  pub finished-texts : (n : ℕ) → state ≡ summing.Texts n → (r : Result ℕ Refusal) (t : List ℕ) → ClosedAs s n r t → FinishedAs state names s r t
  finished-texts n e r t c = finished-by (summing.Texts n) e r t (unfold FinishSteps in c)

  pub finished-refused : (w : Refusal) → state ≡ summing.Refused w → FinishedAs state names s (Err w) s
  finished-refused w e = finished-by (summing.Refused w) e (Err w) s (unfold FinishSteps in (refl, refl))

-- ---- giving lines

module _ (w : Refusal) (from : ℕ) (out : List ℕ) where
  pub refusal-past : (from ≡ 0 → ⊥) → PrintsAs (lines_from (refusal_lines w) from (length out)) (Err why.NoSuchNumber) out out
  unfolding refusal_lines
  refusal-past h = prints-missing _ out (refusal_lines w) from refl (omega (arith, h))

  module _ (e : from ≡ 0) (k : ℕ) (d : k ≡ refusal_number w) (r : Result ℕ Refusal) (after : List ℕ) (f : FilledAs (refusal_asked k (length out)) r out after) where
    -- the one line, in a buffer of its own or not at all
    abbrev line : List ℕ
    line = refusal_line (refusal_number w)

    one_line : FilledAs (if_room (length out) line) r out after
    one_line = subst (λ (x : ℕ). FilledAs (refusal_asked x (length out)) r out after) d f

    pub refusal-given : (n : ℕ) → r ≡ Ok n → PrintsAs (lines_from (refusal_lines w) from (length out)) (Ok (n, 1)) out after
    unfolding refusal_lines
    refusal-given n q = rw e (one-given out line after n (subst (λ (x : Result ℕ Refusal). FilledAs (if_room (length out) line) x out after) q one_line))

    pub refusal-short : (x : Refusal) → r ≡ Err x → PrintsAs (lines_from (refusal_lines w) from (length out)) (Err x) out after
    unfolding refusal_lines
    refusal-short x q = rw e (one-refused out line after x (subst (λ (y : Result ℕ Refusal). FilledAs (if_room (length out) line) y out after) q one_line))

module _ (answer : Result ℕ Refusal) (s : List ℕ) (from : ℕ) (r : Result (ℕ × ℕ) Refusal) (out after : List ℕ) where
  printed-by : (x : Result ℕ Refusal) → answer ≡ x → PrintsAs (sheet_asked x s from (length out)) r out after → PrintedAs answer s from r out after
  printed-by x e f = subst (λ (y : Result ℕ Refusal). PrintedAs y s from r out after) (sym e) (printed-as x s from r out after f)

  pub printed-sheet : (n : ℕ) → answer ≡ Ok n → PrintsAs (lines_asked s n from (length out)) r out after → PrintedAs answer s from r out after
  printed-sheet n e f = printed-by (Ok n) e (unfold sheet_asked in f)

  pub printed-refusal : (w : Refusal) → answer ≡ Err w → PrintsAs (lines_from (refusal_lines w) from (length out)) r out after
      → PrintedAs answer s from r out after
  printed-refusal w e f = printed-by (Err w) e (unfold sheet_asked in f)
