-- What the numbers stand for that C and Rust are given.
--
--   refusals, refusal_of k     every refusal, in the order of its number; the refusal of number k
--   finish_of, number_of, both_of, split_of, lengths_of, weight_of, claim_of, fed_of           the answer of the library that such numbers stand for
--   summing_of s               how far a summary is, that such numbers stand for
--   wanted_of a                what is wanted of a release sheet, that such numbers stand for
--   progress_of t              the progress of feeding in it
--   no_double                  the double that stands where there is none: its 64 bits are 0
--   finish_out, number_out, both_out, split_out, lengths_out, weight_out, claim_out, fed_out, summed_out     the numbers that an answer of the library is given as: those
--                             that have no meaning in it are 0
--   progress_out n p           the same of n bytes taken and the progress p
--   FinishAs, NumberAs, TwoAs, SplitAs, LengthsAs, WeightAs, ClaimAs, TakenAs, SummedAs           numbers g are those that the answer a is given as, and stand for it
use Rattle.std.specs.Prelude.{ℕ, ◌-◌, ◌≡◌, true, false, List, [], ◌∷◌, eqb, get_or, Float, if◌then◌else◌, Result, Ok, Err, Option, None, Some}
use Rattle.std.specs.Float.{binary64}
use Rattle.std.specs.Float.Ieee.{of_bits}
use Rattle.answers.specs.Answers.{refusal_number}
use Rattle.answers.specs.declared.Refusal.{Refusal}
use Rattle.answers.specs.declared.Refusal.TheVariants as why
use Rattle.answers.specs.declared.Claim.{Claim}
use Rattle.answers.specs.declared.Claim.TheVariants as claim
use Rattle.answers.specs.declared.Fed.{Fed}
use Rattle.summary.specs.declared.Summing.{Summing}
use Rattle.summary.specs.declared.Summing.TheVariants as summing
use Rattle.clib.specs.declared.given.Given.{Given}
use Rattle.clib.specs.declared.given.Pair.{Pair}
use Rattle.clib.specs.declared.given.OneSplit.{OneSplit}
use Rattle.clib.specs.declared.given.OneLengths.{OneLengths}
use Rattle.clib.specs.declared.given.Double.{Double}
use Rattle.clib.specs.declared.given.OneClaim.{OneClaim}
use Rattle.clib.specs.declared.given.Taken.{Taken}
use Rattle.clib.specs.declared.given.Summed.{Summed}
use Rattle.release.specs.declared.Wanted.{Wanted}
use Rattle.clib.specs.declared.meant.Asked.{Asked}
use Rattle.answers.specs.declared.Tree.{Tree}
use Rattle.answers.specs.declared.Lengths.{Lengths}

-- ---- from numbers to answers

unfoldable pub refusals : List Refusal
refusals =
    why.NotWhole
    ∷ why.OutOfRange
    ∷ why.BadNames
    ∷ why.TooShort
    ∷ why.NoLane
    ∷ why.TooLong
    ∷ why.BadForm
    ∷ why.UnknownLeaf
    ∷ why.RepeatedLeaf
    ∷ why.MissingTaxon
    ∷ why.NoTreeRoom
    ∷ why.NoSplitRoom
    ∷ why.NoSuchNumber
    ∷ why.NoTrees
    ∷ why.BadBlock
    ∷ why.RepeatedKey
    ∷ why.InexactLength
    ∷ why.NoLength
    ∷ why.BadLength
    ∷ why.BadRecord
    ∷ why.EmptyFile
    ∷ why.SumTooLarge
    ∷ why.Disagreeing
    ∷ why.BadMatrix
    ∷ why.NotSymmetric
    ∷ []

unfoldable pub refusal_of : ℕ → Refusal
unfolding refusals
refusal_of k = get_or refusals (k - 1) why.NotWhole

unfoldable pub finish_of : ℕ → Result (Unit {0}) Refusal
unfolding refusal_of
finish_of k = if eqb k 0 then (Ok tt) else Err (refusal_of k)

unfoldable pub number_of : Given → Result ℕ Refusal
unfolding refusal_of
number_of g = if eqb g.refusal 0 then Ok g.value else Err (refusal_of g.refusal)

unfoldable pub both_of : Pair → Result (ℕ × ℕ) Refusal
unfolding refusal_of
both_of p = if eqb p.refusal 0 then Ok (p.first, p.second) else Err (refusal_of p.refusal)

unfoldable pub split_of : OneSplit → Result (ℕ × ℕ) Refusal
unfolding refusal_of
split_of o = if eqb o.refusal 0 then Ok (o.mask, o.count) else Err (refusal_of o.refusal)

unfoldable pub lengths_of : OneLengths → Result Lengths Refusal
unfolding refusal_of
lengths_of o =
    if eqb o.refusal 0 then
    Ok (record { shortest = o.shortest; longest = o.longest; sum = o.sum })
    else
    Err (refusal_of o.refusal)

unfoldable pub weight_of : Double → Result Float Refusal
unfolding refusal_of
weight_of d = if eqb d.refusal 0 then Ok d.value else Err (refusal_of d.refusal)

unfoldable pub claim_of : OneClaim → Result Claim Refusal
unfolding refusal_of
claim_of o =
    if eqb o.refusal 0 then
    (if eqb o.owner 0 then (Ok claim.Same) else (if eqb o.owner 1 then Ok (claim.Text o.mask) else Ok (claim.Majority o.mask)))
    else
    Err (refusal_of o.refusal)

unfoldable pub progress_of : Taken → Result (Option Tree) Refusal
unfolding refusal_of
progress_of t =
    if eqb t.refusal 0 then
    (if t.accepted then Ok (Some (record { 0 = t.tree })) else (Ok None))
    else
    Err (refusal_of t.refusal)

unfoldable pub fed_of : Taken → Fed
unfolding progress_of
fed_of t = record { taken = t.taken; progress = progress_of t }

unfoldable pub summing_of : Summed → Summing
unfolding refusal_of
summing_of s =
    if eqb s.refusal 0 then
    (if s.opened then summing.Texts s.refused else summing.Line (record { used = s.used; spaces = s.spaces; quoted = s.quoted }))
    else
    summing.Refused (refusal_of s.refusal)

unfoldable pub wanted_of : Asked → Wanted
wanted_of a = record { newick = a.newick; splits = a.splits; apart = if a.apart then Some (record { 0 = a.taxon }) else None }

-- ---- from answers to numbers

abbrev pub no_double : Float
no_double = of_bits binary64 0

unfoldable pub finish_out : Result (Unit {0}) Refusal → ℕ
finish_out (Err r) = refusal_number r
finish_out (Ok tt) = 0

unfoldable pub number_out : Result ℕ Refusal → Given
number_out (Err r) = record { value = 0; refusal = refusal_number r }
number_out (Ok n) = record { value = n; refusal = 0 }

unfoldable pub both_out : Result (ℕ × ℕ) Refusal → Pair
both_out (Err r) = record { first = 0; second = 0; refusal = refusal_number r }
both_out (Ok (m, n)) = record { first = m; second = n; refusal = 0 }

unfoldable pub split_out : Result (ℕ × ℕ) Refusal → OneSplit
split_out (Err r) = record { mask = 0; count = 0; refusal = refusal_number r }
split_out (Ok (m, c)) = record { mask = m; count = c; refusal = 0 }

unfoldable pub lengths_out : Result Lengths Refusal → OneLengths
lengths_out (Err r) =
    record { shortest = no_double; longest = no_double; sum = no_double; refusal = refusal_number r }
lengths_out (Ok l) =
    record { shortest = l.shortest; longest = l.longest; sum = l.sum; refusal = 0 }

unfoldable pub weight_out : Result Float Refusal → Double
weight_out (Err r) = record { value = no_double; refusal = refusal_number r }
weight_out (Ok x) = record { value = x; refusal = 0 }

unfoldable pub claim_out : Result Claim Refusal → OneClaim
claim_out (Err r) = record { mask = 0; owner = 0; refusal = refusal_number r }
claim_out (Ok claim.Same) = record { mask = 0; owner = 0; refusal = 0 }
claim_out (Ok (claim.Text m)) = record { mask = m; owner = 1; refusal = 0 }
claim_out (Ok (claim.Majority m)) = record { mask = m; owner = 2; refusal = 0 }

unfoldable pub progress_out : ℕ → Result (Option Tree) Refusal → Taken
progress_out n (Err r) = record { taken = n; tree = 0; refusal = refusal_number r; accepted = false }
progress_out n (Ok None) = record { taken = n; tree = 0; refusal = 0; accepted = false }
progress_out n (Ok (Some t)) = record { taken = n; tree = t.0; refusal = 0; accepted = true }

unfoldable pub fed_out : Fed → Taken
unfolding progress_out
fed_out f = progress_out f.taken f.progress

unfoldable pub summed_out : Summing → Summed
summed_out (summing.Line l) = record { used = l.used; spaces = l.spaces; refused = 0; refusal = 0; quoted = l.quoted; opened = false }
summed_out (summing.Texts n) = record { used = 0; spaces = 0; refused = n; refusal = 0; quoted = false; opened = true }
summed_out (summing.Refused r) = record { used = 0; spaces = 0; refused = 0; refusal = refusal_number r; quoted = false; opened = false }

-- ---- both at once

abbrev pub FinishAs : ℕ → Result (Unit {0}) Refusal → Type 0
FinishAs k a = (finish_of k ≡ a) × (k ≡ finish_out a)

abbrev pub NumberAs : Given → Result ℕ Refusal → Type 0
NumberAs g a = (number_of g ≡ a) × (g ≡ number_out a)

abbrev pub TwoAs : Pair → Result (ℕ × ℕ) Refusal → Type 0
TwoAs g a = (both_of g ≡ a) × (g ≡ both_out a)

abbrev pub SplitAs : OneSplit → Result (ℕ × ℕ) Refusal → Type 0
SplitAs g a = (split_of g ≡ a) × (g ≡ split_out a)

abbrev pub LengthsAs : OneLengths → Result Lengths Refusal → Type 0
LengthsAs g a = (lengths_of g ≡ a) × (g ≡ lengths_out a)

abbrev pub WeightAs : Double → Result Float Refusal → Type 0
WeightAs g a = (weight_of g ≡ a) × (g ≡ weight_out a)

abbrev pub ClaimAs : OneClaim → Result Claim Refusal → Type 0
ClaimAs g a = (claim_of g ≡ a) × (g ≡ claim_out a)

abbrev pub TakenAs : Taken → Fed → Type 0
TakenAs g a = (fed_of g ≡ a) × (g ≡ fed_out a)

abbrev pub SummedAs : Summed → Summing → Type 0
SummedAs g a = (summing_of g ≡ a) × (g ≡ summed_out a)
