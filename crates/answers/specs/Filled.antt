-- What a call that writes elements into a lent buffer answers and leaves there.
--
--   length_given a         how many elements a call gives
--   front a xs            a buffer xs with what a call gives at its front; as it was, where the call refuses
--   FilledAs x r xs m     the answer x is given as r, and leaves the buffer xs as m
--   first_of, second_of     the two halves of an answer for two buffers
--   lengths_given a        how many elements a call gives each of two buffers
--   BothFilledAs x r xs ys m n     the answer x is given as r, and leaves the buffers xs and ys as m and n
use Rattle.std.specs.Prelude.{ℕ, ◌≡◌, List, ◌++◌, length, drop, Result}
use Rattle.trees.specs.Plain.{Answer, refused, gives}
use Rattle.answers.specs.Answers.{number_given, both_given}
use Rattle.answers.specs.declared.Refusal.{Refusal}

unfoldable pub length_given : {A : Type 0} → Answer (List A) → Answer ℕ
length_given (refused k) = refused k
length_given (gives xs) = gives (length xs)

-- "Every written answer stands at its buffer's front; the rest of a longer buffer keeps its values"
unfoldable pub front : {A : Type 0} → Answer (List A) → List A → List A
front (refused k) old = old
front (gives xs) old = xs ++ drop (length xs) old

abbrev pub FilledAs : Answer (List ℕ) → Result ℕ Refusal → List ℕ → List ℕ → Type 0
FilledAs x r old m = (number_given r ≡ length_given x) × (m ≡ front x old)

-- ---- two buffers

unfoldable pub first_of : {A B : Type 0} → Answer (A × B) → Answer A
first_of (refused k) = refused k
first_of (gives x) = gives x.0

unfoldable pub second_of : {A B : Type 0} → Answer (A × B) → Answer B
second_of (refused k) = refused k
second_of (gives x) = gives x.1

unfoldable pub lengths_given : {A B : Type 0} → Answer (List A × List B) → Answer (ℕ × ℕ)
lengths_given (refused k) = refused k
lengths_given (gives x) = gives (length x.0, length x.1)

abbrev pub BothFilledAs : Answer (List ℕ × List ℕ) → Result (ℕ × ℕ) Refusal → List ℕ → List ℕ → List ℕ → List ℕ → Type 0
BothFilledAs x r xs ys m n = (both_given r ≡ lengths_given x) × ((m ≡ front (first_of x) xs) × (n ≡ front (second_of x) ys))
