-- The answers of the calls, as document 01 has them: each enum case with its number and values.
--
--   refusal_number r                                   the number of a refusal in documents 01 and 02
--   refusing r                                        the answer that refuses with that number
--   finish_given, number_given, both_given, split_given, claim_given, split_lengths_given, weight_given, progress_given     an answer of the code,
--                                                     as the definitions of crate trees have it
--   sums_given l                                       the three lengths of a split that the code has
--   Small a                                           the number of an accepted tree is at most 1,024
use Rattle.std.specs.Prelude.{ℕ, ◌≤◌, Float, Result, Ok, Err, Option, None, Some}
use Rattle.trees.specs.Plain.{Answer, refused, gives}
use Rattle.trees.specs.Sums.{Sums}
use Rattle.trees.specs.Held.{more_wanted, accepted}
use Rattle.trees.specs.Claim.{Claimed, same, text_alone, majority_alone}
use Rattle.trees.specs.Held as held
use Rattle.answers.specs.declared.Refusal.{Refusal}
use Rattle.answers.specs.declared.Refusal.TheVariants as why
use Rattle.answers.specs.declared.Tree.{Tree}
use Rattle.answers.specs.declared.Claim.{Claim}
use Rattle.answers.specs.declared.Claim.TheVariants as claim
use Rattle.answers.specs.declared.Lengths.{Lengths}

-- "Refusal numbers"; "15 block malformed, 16 key listed twice"; "17 any length in the text outside the exact range",
-- "18 a length needed is absent or none are kept"; "19 length no multiple of 16, 20 record improper or out of order", "21 merge with an empty
-- file, 22 a sum past 32 bits, 23 two chosen splits disagree"; "24 malformed, 25 not symmetric or diagonal not zero"
unfoldable pub refusal_number : Refusal → ℕ
refusal_number why.NotWhole = 1
refusal_number why.OutOfRange = 2
refusal_number why.BadNames = 3
refusal_number why.TooShort = 4
refusal_number why.NoLane = 5
refusal_number why.TooLong = 6
refusal_number why.BadForm = 7
refusal_number why.UnknownLeaf = 8
refusal_number why.RepeatedLeaf = 9
refusal_number why.MissingTaxon = 10
refusal_number why.NoTreeRoom = 11
refusal_number why.NoSplitRoom = 12
refusal_number why.NoSuchNumber = 13
refusal_number why.NoTrees = 14
refusal_number why.BadBlock = 15
refusal_number why.RepeatedKey = 16
refusal_number why.InexactLength = 17
refusal_number why.NoLength = 18
refusal_number why.BadLength = 19
refusal_number why.BadRecord = 20
refusal_number why.EmptyFile = 21
refusal_number why.SumTooLarge = 22
refusal_number why.Disagreeing = 23
refusal_number why.BadMatrix = 24
refusal_number why.NotSymmetric = 25

abbrev pub refusing : {A : Type 0} → Refusal → Answer A
refusing r = refused (refusal_number r)

unfoldable pub finish_given : Result (Unit {0}) Refusal → Answer (Unit {0})
unfolding refusal_number
finish_given (Err r) = refused (refusal_number r)
finish_given (Ok d) = gives d

unfoldable pub number_given : Result ℕ Refusal → Answer ℕ
unfolding refusal_number
number_given (Err r) = refused (refusal_number r)
number_given (Ok n) = gives n

-- two numbers at once
unfoldable pub both_given : Result (ℕ × ℕ) Refusal → Answer (ℕ × ℕ)
unfolding refusal_number
both_given (Err r) = refused (refusal_number r)
both_given (Ok p) = gives p

-- a split's mask and its count
unfoldable pub split_given : Result (ℕ × ℕ) Refusal → Answer (ℕ × ℕ)
unfolding refusal_number
split_given (Err r) = refused (refusal_number r)
split_given (Ok p) = gives p

-- "name the smallest mask that is in one set alone, and which set"
unfoldable pub claim_given : Result Claim Refusal → Answer Claimed
unfolding refusal_number
claim_given (Err r) = refused (refusal_number r)
claim_given (Ok claim.Same) = gives same
claim_given (Ok (claim.Text m)) = gives (text_alone m)
claim_given (Ok (claim.Majority m)) = gives (majority_alone m)

-- "the shortest, longest and summed length"
unfoldable pub sums_given : Lengths → Sums
sums_given l = record { shortest = l.shortest; longest = l.longest; sum = l.sum }

unfoldable pub split_lengths_given : Result Lengths Refusal → Answer Sums
unfolding refusal_number sums_given
split_lengths_given (Err r) = refused (refusal_number r)
split_lengths_given (Ok l) = gives (sums_given l)

-- a double, bit for bit
unfoldable pub weight_given : Result Float Refusal → Answer Float
unfolding refusal_number
weight_given (Err r) = refused (refusal_number r)
weight_given (Ok x) = gives x

-- "one of: more wanted; accepted, with the tree's number; refused, with a number"
unfoldable pub progress_given : Result (Option Tree) Refusal → Answer held.Progress
unfolding refusal_number
progress_given (Err r) = refused (refusal_number r)
progress_given (Ok None) = gives more_wanted
progress_given (Ok (Some t)) = gives (accepted t.0)

-- a tree's number that fits its room
unfoldable pub Small : Answer held.Progress → Type 0
Small (refused k) = Unit {0}
Small (gives more_wanted) = Unit {0}
Small (gives (accepted t)) = t ≤ 1024
