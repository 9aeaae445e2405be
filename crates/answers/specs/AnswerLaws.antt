-- From the answer of the definitions to that of the code: a law for each way in which a call returns. Assumes nothing.
--
--   number-refused, number-given     a call that gives a number
--   split-refused, split-given       a call that gives one split
--   lengths-refused, lengths-given   a call that gives the lengths of one split
--   weight-refused, weight-given     a call that gives a double
--   claim-refused, claim-same, claim-text, claim-majority     a claim that a text is the majority tree
--   filled-refused                   a call that fills a buffer leaves it as found where it refuses
--   filled-short, filled-given       4 where the buffer is too short for the whole answer, else the answer at its front
--   filled-as                        a call that leaves the answer to another one
--   gives≢refused                    no answer gives and refuses
--   both-refused                     a call that fills two buffers leaves them as found where it refuses
--   both-as                          a call that leaves the answer to another one
--   both-second, both-filled         the first buffer's answer is given, and the second's is left to another call: its refusal, or both
use Rattle.std.specs.Prelude.{ℕ, ◌≤◌, ◌<◌, ◌≡◌, refl, List, ◌++◌, length, drop, Float, Result, Ok, Err}
use Rattle.std.proofs.Common.{arith, ◌∙◌}
use Rattle.std.proofs.Math.Path.{sym, ap}
use borrow.Author.Tests.{lt-ltb, le-ltb}
use Rattle.trees.specs.Plain.{Answer, refused, gives}
use Rattle.trees.specs.Sums.{Sums}
use Rattle.trees.specs.Questions.{if_room, together}
use Rattle.trees.specs.Claim.{Claimed, same, text_alone, majority_alone}
use Rattle.answers.specs.declared.Refusal.{Refusal}
use Rattle.answers.specs.declared.Refusal.TheVariants as why
use Rattle.answers.specs.declared.Claim.TheVariants as claim
use Rattle.answers.specs.declared.Lengths.{Lengths}
use Rattle.answers.specs.Answers.{refusal_number, refusing, number_given, both_given, split_given, claim_given, sums_given, split_lengths_given, weight_given}
use Rattle.answers.specs.Filled.{length_given, front, FilledAs, first_of, second_of, lengths_given, BothFilledAs}

-- ---- a number, a split, its lengths, a double, a claim

module _ (x : Answer ℕ) where
  pub number-refused : (r : Refusal) → x ≡ refusing r → number_given (Err r) ≡ x
  unfolding number_given
  number-refused r e = sym e

  pub number-given : (n m : ℕ) → x ≡ gives m → n ≡ m → number_given (Ok n) ≡ x
  unfolding number_given
  number-given n m e f = ap gives f ∙ sym e

module _ (x : Answer (ℕ × ℕ)) where
  pub split-refused : (r : Refusal) → x ≡ refusing r → split_given (Err r) ≡ x
  unfolding split_given
  split-refused r e = sym e

  pub split-given : (m c : ℕ) → x ≡ gives (m, c) → split_given (Ok (m, c)) ≡ x
  unfolding split_given
  split-given m c e = sym e

module _ (x : Answer Sums) where
  pub lengths-refused : (r : Refusal) → x ≡ refusing r → split_lengths_given (Err r) ≡ x
  unfolding split_lengths_given
  lengths-refused r e = sym e

  pub lengths-given : (l : Lengths) (y : Sums) → x ≡ gives y → sums_given l ≡ y → split_lengths_given (Ok l) ≡ x
  unfolding split_lengths_given
  lengths-given l y e f = ap gives f ∙ sym e

module _ (x : Answer Float) where
  pub weight-refused : (r : Refusal) → x ≡ refusing r → weight_given (Err r) ≡ x
  unfolding weight_given
  weight-refused r e = sym e

  pub weight-given : (d y : Float) → x ≡ gives y → d ≡ y → weight_given (Ok d) ≡ x
  unfolding weight_given
  weight-given d y e f = ap gives f ∙ sym e

module _ (x : Answer Claimed) where
  pub claim-refused : (r : Refusal) → x ≡ refusing r → claim_given (Err r) ≡ x
  unfolding claim_given
  claim-refused r e = sym e

module _ (y : Claimed) where
  pub claim-same : y ≡ same → claim_given (Ok claim.Same) ≡ gives y
  unfolding claim_given
  claim-same e = ap gives (sym e)

  pub claim-text : (m : ℕ) → y ≡ text_alone m → claim_given (Ok (claim.Text m)) ≡ gives y
  unfolding claim_given
  claim-text m e = ap gives (sym e)

  pub claim-majority : (m : ℕ) → y ≡ majority_alone m → claim_given (Ok (claim.Majority m)) ≡ gives y
  unfolding claim_given
  claim-majority m e = ap gives (sym e)

-- ---- a buffer

module _ (x : Answer (List ℕ)) (out : List ℕ) where
  pub filled-refused : (r : Refusal) → x ≡ refusing r → FilledAs x (Err r) out out
  unfolding number_given length_given front
  filled-refused r e = rw e (refl, refl)

  module _ (xs : List ℕ) (e : x ≡ if_room (length out) xs) where
    pub filled-short : length out < length xs → FilledAs x (Err why.TooShort) out out
    unfolding if_room refusal_number
    filled-short h = filled-refused why.TooShort (e ∙ rw (lt-ltb (length out) (length xs) h))

    pub filled-given : (n : ℕ) (m : List ℕ) → n ≡ length xs → n ≤ length out → m ≡ xs ++ drop (length xs) out → FilledAs x (Ok n) out m
    unfolding if_room number_given length_given front
    filled-given n m f h p = rw (e, ← f, le-ltb (length out) n h, ← f) (refl, rw f p)

  pub filled-as : (y : Answer (List ℕ)) → x ≡ y → (r : Result ℕ Refusal) (m : List ℕ) → FilledAs y r out m → FilledAs x r out m
  filled-as y e r m f = rw e f

-- ---- two buffers

pub gives≢refused : {A : Type 0} (x : A) (k : ℕ) → ◌≡◌ {A = Answer A} (gives x) (refused k) → ⊥
gives≢refused x k e = let z : ◌≡◌ {A = ℕ} 0 1 = cc in omega arith

module _ (x : Answer (List ℕ × List ℕ)) (first second : List ℕ) where
  pub both-refused : (r : Refusal) → x ≡ refusing r → BothFilledAs x (Err r) first second first second
  unfolding both_given lengths_given first_of second_of front
  both-refused r e = rw e (refl, (refl, refl))

  pub both-as : (y : Answer (List ℕ × List ℕ)) → x ≡ y → (r : Result (ℕ × ℕ) Refusal) (m n : List ℕ) → BothFilledAs y r first second m n → BothFilledAs x r first second m n
  both-as y e r m n f = rw e f

  module _ (xs : List ℕ) (y : Answer (List ℕ)) (e : x ≡ together (gives xs) y) (m : List ℕ) where
    pub both-second : (r : Refusal) → FilledAs y (Err r) second m → BothFilledAs x (Err r) first second first m
    unfolding together number_given both_given length_given lengths_given first_of second_of front
    both-second r f = rw e (go y f)
      where
        go : (z : Answer (List ℕ)) → FilledAs z (Err r) second m → BothFilledAs (together (gives xs) z) (Err r) first second first m
        go (refused k) g = (ap (λ (n : ℕ). refused n) (cc), (refl, g.1))
        go (gives ys) g = absurd (gives≢refused (length ys) (refusal_number r) (sym g.0))

    pub both-filled : (k n : ℕ) (l : List ℕ) → k ≡ length xs → l ≡ xs ++ drop (length xs) first → FilledAs y (Ok n) second m
        → BothFilledAs x (Ok (k, n)) first second l m
    unfolding together number_given both_given length_given lengths_given first_of second_of front
    both-filled k n l p q f = rw e (go y f)
      where
        go : (z : Answer (List ℕ)) → FilledAs z (Ok n) second m → BothFilledAs (together (gives xs) z) (Ok (k, n)) first second l m
        go (refused j) g = absurd (gives≢refused n j g.0)
        go (gives ys) g = (cc, (q, g.1))
