-- The laws of the answers that C and Rust are given: numbers that an answer is given as stand for it. Assumes nothing.
--
--   same_numbers      numbers that are those of an answer, and stand for the same answer, are the same
--   refusal-not-0     no refusal has the number 0
--   refusal-read      the refusal of a refusal's number
--   refusal-none, refusal-above     the refusal of a number that none has
--   answer-refused, answer-given, summing-refused, summing-texts, summing-line, wanted-apart, wanted-alone     what numbers stand for, by cases
--   finish-refused, number-refused, two-refused, split-refused, lengths-refused, weight-refused, claim-refused, fed-refused, summed-refused     an answer that refuses
--   finish-done, number-given, two-given, split-given, lengths-given, weight-given, claim-same, claim-text, claim-majority, fed-more, fed-accepted, summed-line, summed-texts       the others
use Rattle.std.specs.Prelude.{ℕ, ◌+◌, ◌-◌, ◌<◌, ◌≡◌, true, false, eqb, Float, Result, Ok, Err, None, Some}
use native.Mathlib.Omega.{arith}
use Rattle.std.proofs.Math.Path.{refl}
use Rattle.std.proofs.Common.{sym, ap, ◌∙◌, get_or-append-add, eq-eqb, ne_eqb}
use mathlib.Core.List.{[]}
use Rattle.answers.specs.Answers.{refusal_number}
use Rattle.answers.specs.declared.Refusal.{Refusal}
use Rattle.answers.specs.declared.Refusal.TheVariants as why
use Rattle.answers.specs.declared.Lengths.{Lengths}
use Rattle.answers.specs.declared.Claim.{Claim}
use Rattle.answers.specs.declared.Claim.TheVariants as claim
use Rattle.answers.specs.declared.Tree.{Tree}
use Rattle.answers.specs.declared.Fed.{Fed}
use Rattle.summary.specs.declared.LinePart.{LinePart}
use Rattle.summary.specs.declared.Summing.{Summing}
use Rattle.summary.specs.declared.Summing.TheVariants as summing
use Rattle.clib.specs.declared.given.Given.{Given}
use Rattle.clib.specs.declared.given.Summed.{Summed}
use Rattle.release.specs.declared.Wanted.{Wanted}
use Rattle.clib.specs.declared.meant.Asked.{Asked}
use Rattle.clib.specs.Answers.{refusals, refusal_of, no_double, finish_of, finish_out, FinishAs, number_of, number_out, NumberAs, both_of, both_out, TwoAs, split_of, split_out, SplitAs, lengths_of, lengths_out, LengthsAs, weight_of, weight_out, WeightAs, claim_of, claim_out, ClaimAs, fed_of, fed_out, TakenAs, summing_of, summed_out, SummedAs, wanted_of}

-- ---- one outcome

pub same_numbers : {A B : Type 0} (of : A → B) (out : B → A) (g h : A) → g ≡ out (of g) → h ≡ out (of h) → of g ≡ of h → g ≡ h
same_numbers of out g h a b e = a ∙ ap out e ∙ sym b

-- ---- refusals

pub refusal-not-0 : (r : Refusal) → eqb (refusal_number r) 0 ≡ false
unfolding refusal_number
refusal-not-0 why.NotWhole = refl
refusal-not-0 why.OutOfRange = refl
refusal-not-0 why.BadNames = refl
refusal-not-0 why.TooShort = refl
refusal-not-0 why.NoLane = refl
refusal-not-0 why.TooLong = refl
refusal-not-0 why.BadForm = refl
refusal-not-0 why.UnknownLeaf = refl
refusal-not-0 why.RepeatedLeaf = refl
refusal-not-0 why.MissingTaxon = refl
refusal-not-0 why.NoTreeRoom = refl
refusal-not-0 why.NoSplitRoom = refl
refusal-not-0 why.NoSuchNumber = refl
refusal-not-0 why.NoTrees = refl
refusal-not-0 why.BadBlock = refl
refusal-not-0 why.RepeatedKey = refl
refusal-not-0 why.InexactLength = refl
refusal-not-0 why.NoLength = refl
refusal-not-0 why.BadLength = refl
refusal-not-0 why.BadRecord = refl
refusal-not-0 why.EmptyFile = refl
refusal-not-0 why.SumTooLarge = refl
refusal-not-0 why.Disagreeing = refl
refusal-not-0 why.BadMatrix = refl
refusal-not-0 why.NotSymmetric = refl

pub refusal-read : (r : Refusal) → refusal_of (refusal_number r) ≡ r
unfolding refusal_number refusal_of
refusal-read why.NotWhole = refl
refusal-read why.OutOfRange = refl
refusal-read why.BadNames = refl
refusal-read why.TooShort = refl
refusal-read why.NoLane = refl
refusal-read why.TooLong = refl
refusal-read why.BadForm = refl
refusal-read why.UnknownLeaf = refl
refusal-read why.RepeatedLeaf = refl
refusal-read why.MissingTaxon = refl
refusal-read why.NoTreeRoom = refl
refusal-read why.NoSplitRoom = refl
refusal-read why.NoSuchNumber = refl
refusal-read why.NoTrees = refl
refusal-read why.BadBlock = refl
refusal-read why.RepeatedKey = refl
refusal-read why.InexactLength = refl
refusal-read why.NoLength = refl
refusal-read why.BadLength = refl
refusal-read why.BadRecord = refl
refusal-read why.EmptyFile = refl
refusal-read why.SumTooLarge = refl
refusal-read why.Disagreeing = refl
refusal-read why.BadMatrix = refl
refusal-read why.NotSymmetric = refl

-- ---- done or not

pub finish-refused : (k : ℕ) (r : Refusal) (a : Result (Unit {0}) Refusal) → k ≡ refusal_number r → a ≡ Err r → FinishAs k a
unfolding finish_of finish_out
finish-refused k r a e f = (rw (e, refusal-not-0 r, refusal-read r) (sym f), rw f e)

pub finish-done : (a : Result (Unit {0}) Refusal) → a ≡ Ok tt → FinishAs 0 a
unfolding finish_of finish_out
finish-done a f = (sym f, rw f refl)

-- ---- a number, two numbers

pub number-refused : (k : ℕ) (r : Refusal) (a : Result ℕ Refusal) → k ≡ refusal_number r → a ≡ Err r → NumberAs (record { value = 0; refusal = k }) a
unfolding number_of number_out
number-refused k r a e f = (rw (e, refusal-not-0 r, refusal-read r) (sym f), rw (f, e) refl)

pub number-given : (n : ℕ) (a : Result ℕ Refusal) → a ≡ Ok n → NumberAs (record { value = n; refusal = 0 }) a
unfolding number_of number_out
number-given n a f = (sym f, rw f refl)

pub two-refused : (k : ℕ) (r : Refusal) (a : Result (ℕ × ℕ) Refusal) → k ≡ refusal_number r → a ≡ Err r → TwoAs (record { first = 0; second = 0; refusal = k }) a
unfolding both_of both_out
two-refused k r a e f = (rw (e, refusal-not-0 r, refusal-read r) (sym f), rw (f, e) refl)

pub two-given : (m n : ℕ) (a : Result (ℕ × ℕ) Refusal) → a ≡ Ok (m, n) → TwoAs (record { first = m; second = n; refusal = 0 }) a
unfolding both_of both_out
two-given m n a f = (sym f, rw f refl)

-- ---- a split, its lengths, a double

pub split-refused : (k : ℕ) (r : Refusal) (a : Result (ℕ × ℕ) Refusal) → k ≡ refusal_number r → a ≡ Err r → SplitAs (record { mask = 0; count = 0; refusal = k }) a
unfolding split_of split_out
split-refused k r a e f = (rw (e, refusal-not-0 r, refusal-read r) (sym f), rw (f, e) refl)

pub split-given : (m c : ℕ) (a : Result (ℕ × ℕ) Refusal) → a ≡ Ok (m, c) → SplitAs (record { mask = m; count = c; refusal = 0 }) a
unfolding split_of split_out
split-given m c a f = (sym f, rw f refl)

pub lengths-refused : (k : ℕ) (r : Refusal) (a : Result Lengths Refusal) → k ≡ refusal_number r → a ≡ Err r
    → LengthsAs (record { shortest = no_double; longest = no_double; sum = no_double; refusal = k }) a
unfolding lengths_of lengths_out
lengths-refused k r a e f = (rw (e, refusal-not-0 r, refusal-read r) (sym f), rw (f, e) refl)

pub lengths-given : (l : Lengths) (a : Result Lengths Refusal) → a ≡ Ok l
    → LengthsAs (record { shortest = l.shortest; longest = l.longest; sum = l.sum; refusal = 0 }) a
unfolding lengths_of lengths_out
lengths-given l a f = (sym f, rw f refl)

pub weight-refused : (k : ℕ) (r : Refusal) (a : Result Float Refusal) → k ≡ refusal_number r → a ≡ Err r → WeightAs (record { value = no_double; refusal = k }) a
unfolding weight_of weight_out
weight-refused k r a e f = (rw (e, refusal-not-0 r, refusal-read r) (sym f), rw (f, e) refl)

pub weight-given : (x : Float) (a : Result Float Refusal) → a ≡ Ok x → WeightAs (record { value = x; refusal = 0 }) a
unfolding weight_of weight_out
weight-given x a f = (sym f, rw f refl)

-- ---- what came of a claim

pub claim-refused : (k : ℕ) (r : Refusal) (a : Result Claim Refusal) → k ≡ refusal_number r → a ≡ Err r → ClaimAs (record { mask = 0; owner = 0; refusal = k }) a
unfolding claim_of claim_out
claim-refused k r a e f = (rw (e, refusal-not-0 r, refusal-read r) (sym f), rw (f, e) refl)

pub claim-same : (a : Result Claim Refusal) → a ≡ (Ok claim.Same) → ClaimAs (record { mask = 0; owner = 0; refusal = 0 }) a
unfolding claim_of claim_out
claim-same a f = (sym f, rw f refl)

pub claim-text : (m : ℕ) (a : Result Claim Refusal) → a ≡ Ok (claim.Text m) → ClaimAs (record { mask = m; owner = 1; refusal = 0 }) a
unfolding claim_of claim_out
claim-text m a f = (sym f, rw f refl)

pub claim-majority : (m : ℕ) (a : Result Claim Refusal) → a ≡ Ok (claim.Majority m) → ClaimAs (record { mask = m; owner = 2; refusal = 0 }) a
unfolding claim_of claim_out
claim-majority m a f = (sym f, rw f refl)

-- ---- what came of feeding

module _ (a : Fed) where
  pub fed-refused : (k : ℕ) (r : Refusal) → k ≡ refusal_number r → a.progress ≡ Err r
      → TakenAs (record { taken = a.taken; tree = 0; refusal = k; accepted = false }) a
  unfolding fed_of fed_out
  fed-refused k r e f = (rw (e, refusal-not-0 r, refusal-read r) (rw (← f) refl), rw (f, e) refl)

  pub fed-more : a.progress ≡ Ok None → TakenAs (record { taken = a.taken; tree = 0; refusal = 0; accepted = false }) a
  unfolding fed_of fed_out
  fed-more f = (rw (← f) refl, rw f refl)

  pub fed-accepted : (t : Tree) → a.progress ≡ Ok (Some t) → TakenAs (record { taken = a.taken; tree = t.0; refusal = 0; accepted = true }) a
  unfolding fed_of fed_out
  fed-accepted t f = (rw (← f) refl, rw f refl)

-- ---- how far a summary is

pub summed-refused : (k : ℕ) (r : Refusal) (a : Summing) → k ≡ refusal_number r → a ≡ summing.Refused r
    → SummedAs (record { used = 0; spaces = 0; refused = 0; refusal = k; quoted = false; opened = false }) a
unfolding summing_of summed_out
summed-refused k r a e f = (rw (e, refusal-not-0 r, refusal-read r) (sym f), rw (f, e) refl)

pub summed-line : (l : LinePart) (a : Summing) → a ≡ summing.Line l
    → SummedAs (record { used = l.used; spaces = l.spaces; refused = 0; refusal = 0; quoted = l.quoted; opened = false }) a
unfolding summing_of summed_out
summed-line l a f = (sym f, rw f refl)

pub summed-texts : (n : ℕ) (a : Summing) → a ≡ summing.Texts n
    → SummedAs (record { used = 0; spaces = 0; refused = n; refusal = 0; quoted = false; opened = true }) a
unfolding summing_of summed_out
summed-texts n a f = (sym f, rw f refl)

-- ---- numbers that come from C and Rust

module _ (k : ℕ) where
  pub refusal-none : k ≡ 0 → refusal_of k ≡ why.NotWhole
  unfolding refusal_of
  refusal-none e = rw e refl

  pub refusal-above : 25 < k → refusal_of k ≡ why.NotWhole
  unfolding refusal_of
  refusal-above h =
      let e : k - 1 ≡ 25 + (k - 26) = omega arith in
      rw e (get_or-append-add refusals [] (k - 26) why.NotWhole)

module _ (g : Given) where
  pub answer-refused : (g.refusal ≡ 0 → ⊥) → Err (refusal_of g.refusal) ≡ number_of g
  unfolding number_of
  answer-refused h = rw (ne_eqb g.refusal 0 h) refl

  pub answer-given : g.refusal ≡ 0 → Ok g.value ≡ number_of g
  unfolding number_of
  answer-given h = rw (eq-eqb g.refusal 0 h) refl

module _ (s : Summed) where
  pub summing-refused : (s.refusal ≡ 0 → ⊥) → summing.Refused (refusal_of s.refusal) ≡ summing_of s
  unfolding summing_of
  summing-refused h = rw (ne_eqb s.refusal 0 h) refl

  pub summing-texts : s.refusal ≡ 0 → s.opened ≡ true → summing.Texts s.refused ≡ summing_of s
  unfolding summing_of
  summing-texts h o = rw (eq-eqb s.refusal 0 h, o) refl

  pub summing-line : s.refusal ≡ 0 → s.opened ≡ false
      → summing.Line (record { used = s.used; spaces = s.spaces; quoted = s.quoted }) ≡ summing_of s
  unfolding summing_of
  summing-line h o = rw (eq-eqb s.refusal 0 h, o) refl

module _ (a : Asked) where
  pub wanted-apart : a.apart ≡ true → ◌≡◌ {A = Wanted} (record { newick = a.newick; splits = a.splits; apart = Some (record { 0 = a.taxon }) }) (wanted_of a)
  unfolding wanted_of
  wanted-apart e = rw e

  pub wanted-alone : a.apart ≡ false → ◌≡◌ {A = Wanted} (record { newick = a.newick; splits = a.splits; apart = None }) (wanted_of a)
  unfolding wanted_of
  wanted-alone e = rw e
