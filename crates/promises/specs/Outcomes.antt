-- What two outcomes of a promise have in common, by what it says: the laws from which each promise's own theorem is a line or two.
-- Assumes nothing.
--
--   refusal-one, finish-one, number-one, lengths-one, split_one, weight-one, sums-one, split-lengths-one, claim-one, progress-one     answers that mean
--                                         the same are the same
--   value_or                               what an answer gives
--   both                                  two that are equal to a third
--   finish-both, number-both, lengths-both     two answers that mean the same third
--   holds-both                            two lent bytes that a promise lets hold the same
--   outside-both                          two lent bytes that a promise lets differ from a third in one lane alone
--   filled-both                           two outcomes of a call that fills a buffer
use Rattle.std.specs.Prelude.{ℕ, suc, ◌≤◌, ◌≡◌, refl, List, eqb, if◌then◌else◌, Float, Result, Ok, Err, Option, None, Some}
use Rattle.std.proofs.Common.{arith, sym, ap, subst, ◌∙◌}
use Rattle.trees.specs.Plain.{Answer, refused, gives}
use Rattle.trees.specs.Opening.{store_size}
use Rattle.trees.specs.Held.{Held, more_wanted, accepted}
use Rattle.trees.specs.Held as held
use Rattle.trees.specs.Claim.{Claimed, same, text_alone, majority_alone}
use Rattle.answers.specs.declared.Refusal.{Refusal}
use Rattle.answers.specs.declared.Refusal.TheVariants as why
use Rattle.answers.specs.declared.Lengths.{Lengths}
use Rattle.answers.specs.declared.Claim.{Claim}
use Rattle.answers.specs.declared.Claim.TheVariants as claim
use Rattle.answers.specs.Answers.{refusal_number, finish_given, number_given, both_given, split_given, weight_given, sums_given, split_lengths_given, claim_given, progress_given}
use Rattle.answers.specs.AnswerLaws.{gives≢refused}
use Rattle.head.specs.Head.{opening_at}
use Rattle.layout.specs.Store.{size_at, held_at, held_in}
use Rattle.store.specs.Lent.{Holds}
use Rattle.feeding.specs.Feeding.{SameOutside}
use Rattle.promises.specs.Calls.{refusal_in}
use Rattle.promises.specs.Once.{SameStore}
use Rattle.answers.specs.declared.Tree.{Tree}

-- ---- answers

-- the refusal with a number; past the table, the last

refusal_of : ℕ → Refusal
refusal_of n =
    if eqb n 1 then why.NotWhole
    else if eqb n 2 then why.OutOfRange
    else if eqb n 3 then why.BadNames
    else if eqb n 4 then why.TooShort
    else if eqb n 5 then why.NoLane
    else if eqb n 6 then why.TooLong
    else if eqb n 7 then why.BadForm
    else if eqb n 8 then why.UnknownLeaf
    else if eqb n 9 then why.RepeatedLeaf
    else if eqb n 10 then why.MissingTaxon
    else if eqb n 11 then why.NoTreeRoom
    else if eqb n 12 then why.NoSplitRoom
    else if eqb n 13 then why.NoSuchNumber
    else if eqb n 14 then why.NoTrees
    else if eqb n 15 then why.BadBlock
    else if eqb n 16 then why.RepeatedKey
    else if eqb n 17 then why.InexactLength
    else if eqb n 18 then why.NoLength
    else if eqb n 19 then why.BadLength
    else if eqb n 20 then why.BadRecord
    else if eqb n 21 then why.EmptyFile
    else if eqb n 22 then why.SumTooLarge
    else if eqb n 23 then why.Disagreeing
    else if eqb n 24 then why.BadMatrix
    else why.NotSymmetric

numbered : (r : Refusal) → refusal_of (refusal_number r) ≡ r
unfolding refusal_of refusal_number
numbered why.NotWhole = refl
numbered why.OutOfRange = refl
numbered why.BadNames = refl
numbered why.TooShort = refl
numbered why.NoLane = refl
numbered why.TooLong = refl
numbered why.BadForm = refl
numbered why.UnknownLeaf = refl
numbered why.RepeatedLeaf = refl
numbered why.MissingTaxon = refl
numbered why.NoTreeRoom = refl
numbered why.NoSplitRoom = refl
numbered why.NoSuchNumber = refl
numbered why.NoTrees = refl
numbered why.BadBlock = refl
numbered why.RepeatedKey = refl
numbered why.InexactLength = refl
numbered why.NoLength = refl
numbered why.BadLength = refl
numbered why.BadRecord = refl
numbered why.EmptyFile = refl
numbered why.SumTooLarge = refl
numbered why.Disagreeing = refl
numbered why.BadMatrix = refl
numbered why.NotSymmetric = refl

pub refusal-one : (a b : Refusal) → refusal_number a ≡ refusal_number b → a ≡ b
refusal-one a b e = sym (numbered a) ∙ ap refusal_of e ∙ numbered b

-- what an answer gives; y where it refuses
unfoldable pub value_or : {A : Type 0} → A → Answer A → A
value_or y (refused k) = y
value_or y (gives x) = x

pub finish-one : (a b : Result (Unit {0}) Refusal) → finish_given a ≡ finish_given b → a ≡ b
unfolding finish_given refusal_in
finish-one (Err r) (Err q) e = ap Err (refusal-one r q (ap refusal_in e))
finish-one (Err r) (Ok x) e = absurd (gives≢refused tt (refusal_number r) (sym e))
finish-one (Ok x) (Err r) e = absurd (gives≢refused tt (refusal_number r) e)
finish-one (Ok x) (Ok y) e = refl

pub number-one : (a b : Result ℕ Refusal) → number_given a ≡ number_given b → a ≡ b
unfolding number_given refusal_in value_or
number-one (Err r) (Err q) e = ap Err (refusal-one r q (ap refusal_in e))
number-one (Err r) (Ok n) e = absurd (gives≢refused n (refusal_number r) (sym e))
number-one (Ok n) (Err r) e = absurd (gives≢refused n (refusal_number r) e)
number-one (Ok n) (Ok m) e = ap Ok (ap (value_or n) e)

pub lengths-one : (a b : Result (ℕ × ℕ) Refusal) → both_given a ≡ both_given b → a ≡ b
unfolding both_given refusal_in value_or
lengths-one (Err r) (Err q) e = ap Err (refusal-one r q (ap refusal_in e))
lengths-one (Err r) (Ok (m, n)) e = absurd (gives≢refused (m, n) (refusal_number r) (sym e))
lengths-one (Ok (m, n)) (Err r) e = absurd (gives≢refused (m, n) (refusal_number r) e)
lengths-one (Ok (m, n)) (Ok (j, k)) e = ap (λ (x : ℕ × ℕ). Ok (x.0, x.1)) (ap (value_or (m, n)) e)

pub split_one : (a b : Result (ℕ × ℕ) Refusal) → split_given a ≡ split_given b → a ≡ b
unfolding split_given refusal_in value_or
split_one (Err r) (Err q) e = ap Err (refusal-one r q (ap refusal_in e))
split_one (Err r) (Ok (m, c)) e = absurd (gives≢refused (m, c) (refusal_number r) (sym e))
split_one (Ok (m, c)) (Err r) e = absurd (gives≢refused (m, c) (refusal_number r) e)
split_one (Ok (m, c)) (Ok (n, d)) e = ap (λ (x : ℕ × ℕ). Ok (x.0, x.1)) (ap (value_or (m, c)) e)

pub weight-one : (a b : Result Float Refusal) → weight_given a ≡ weight_given b → a ≡ b
unfolding weight_given refusal_in value_or
weight-one (Err r) (Err q) e = ap Err (refusal-one r q (ap refusal_in e))
weight-one (Err r) (Ok x) e = absurd (gives≢refused x (refusal_number r) (sym e))
weight-one (Ok x) (Err r) e = absurd (gives≢refused x (refusal_number r) e)
weight-one (Ok x) (Ok y) e = ap Ok (ap (value_or x) e)

pub sums-one : (a b : Lengths) → sums_given a ≡ sums_given b → a ≡ b
unfolding sums_given
sums-one a b e = λ i. record { shortest = (e i).shortest; longest = (e i).longest; sum = (e i).sum }

pub split-lengths-one : (a b : Result Lengths Refusal) → split_lengths_given a ≡ split_lengths_given b → a ≡ b
unfolding split_lengths_given refusal_in value_or
split-lengths-one (Err r) (Err q) e = ap Err (refusal-one r q (ap refusal_in e))
split-lengths-one (Err r) (Ok x) e = absurd (gives≢refused (sums_given x) (refusal_number r) (sym e))
split-lengths-one (Ok x) (Err r) e = absurd (gives≢refused (sums_given x) (refusal_number r) e)
split-lengths-one (Ok x) (Ok y) e = ap Ok (sums-one x y (ap (value_or (sums_given x)) e))

-- the answer of the code to a claim
claim_from : Answer Claimed → Result Claim Refusal
claim_from (refused k) = Err (refusal_of k)
claim_from (gives same) = (Ok claim.Same)
claim_from (gives (text_alone m)) = Ok (claim.Text m)
claim_from (gives (majority_alone m)) = Ok (claim.Majority m)

claim-from : (a : Result Claim Refusal) → claim_from (claim_given a) ≡ a
unfolding claim_from claim_given
claim-from (Err r) = ap Err (numbered r)
claim-from (Ok claim.Same) = refl
claim-from (Ok (claim.Text m)) = refl
claim-from (Ok (claim.Majority m)) = refl

pub claim-one : (a b : Result Claim Refusal) → claim_given a ≡ claim_given b → a ≡ b
claim-one a b e = sym (claim-from a) ∙ ap claim_from e ∙ claim-from b

tree_or0 : held.Progress → ℕ
tree_or0 more_wanted = 0
tree_or0 (accepted n) = suc n

pub progress-one : (a b : Result (Option Tree) Refusal) → progress_given a ≡ progress_given b → a ≡ b
unfolding progress_given refusal_in value_or tree_or0
progress-one (Err r) (Err q) e = ap Err (refusal-one r q (ap refusal_in e))
progress-one (Err r) (Ok None) e = absurd (gives≢refused more_wanted (refusal_number r) (sym e))
progress-one (Err r) (Ok (Some t)) e = absurd (gives≢refused (accepted t.0) (refusal_number r) (sym e))
progress-one (Ok None) (Err r) e = absurd (gives≢refused more_wanted (refusal_number r) e)
progress-one (Ok None) (Ok None) e = refl
progress-one (Ok None) (Ok (Some t)) e = absurd (omega (arith, ap (λ (x : Answer held.Progress). tree_or0 (value_or more_wanted x)) e))
progress-one (Ok (Some t)) (Err r) e = absurd (gives≢refused (accepted t.0) (refusal_number r) e)
progress-one (Ok (Some t)) (Ok None) e = absurd (omega (arith, ap (λ (x : Answer held.Progress). tree_or0 (value_or more_wanted x)) e))
progress-one (Ok (Some t)) (Ok (Some u)) e =
    let d : t.0 ≡ u.0 = omega (arith, ap (λ (x : Answer held.Progress). tree_or0 (value_or more_wanted x)) e) in
    ap (λ (n : ℕ). Ok (Some (record { 0 = n }))) d

-- ---- two outcomes

pub both : {A : Type 0} {x a b : A} → a ≡ x → b ≡ x → a ≡ b
both p q = p ∙ sym q

pub finish-both : {x : Answer (Unit {0})} (q r : Result (Unit {0}) Refusal) → finish_given q ≡ x → finish_given r ≡ x → q ≡ r
finish-both q r a b = finish-one q r (both a b)

pub number-both : {x : Answer ℕ} (q r : Result ℕ Refusal) → number_given q ≡ x → number_given r ≡ x → q ≡ r
number-both q r a b = number-one q r (both a b)

pub lengths-both : {x : Answer (ℕ × ℕ)} (q r : Result (ℕ × ℕ) Refusal) → both_given q ≡ x → both_given r ≡ x → q ≡ r
lengths-both q r a b = lengths-one q r (both a b)

pub filled-both : {x : Answer ℕ} {m t u : List ℕ} (q r : Result ℕ Refusal) → (number_given q ≡ x) × (t ≡ m) → (number_given r ≡ x) × (u ≡ m) → (q ≡ r) × (t ≡ u)
filled-both q r a b = (number-both q r a.0 b.0, both a.1 b.1)

-- ---- lent bytes

pub size_holds : (t : List ℕ) {h : Held} → held_at t ≡ h → size_at t ≡ store_size h.opening.numbers
unfolding size_at held_in opening_at
size_holds t e = ap (λ (h : Held). store_size h.opening.numbers) e

pub holds-both : (h : Held) (s t u : List ℕ) → Holds h s t → Holds h s u → SameStore t u
holds-both h s t u a b = record {
  whole = both a.whole b.whole;
  holding = both a.held b.held;
  size = both a.size b.size;
  behind = λ i l. let m = subst (λ (n : ℕ). n ≤ i) (size_holds t a.held) l in both (a.behind i m) (b.behind i m);
}

pub outside-both : (s : List ℕ) (l : ℕ) (t u : List ℕ) → SameOutside s l t → SameOutside s l u → SameOutside t l u
outside-both s l t u a b i h = both (b i h) (a i h)
