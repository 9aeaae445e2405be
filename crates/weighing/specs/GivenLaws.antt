-- Lengths that are all given. Assumes nothing.
--
--   AllProper o     the lengths o, if they are given, are finite and not minus zero
--   all-proper      so are good lengths, if all of them are given
use Rattle.std.specs.Prelude.{◌≡◌, refl, true, List, [], ◌∷◌, Float}
use Rattle.std.proofs.Math.Option.{Option, none, some}
use Rattle.trees.specs.Plain.{every}
use Rattle.trees.specs.Value.{Length, proper}
use Rattle.trees.specs.Whole.{good_length}
use Rattle.trees.specs.Questions.{with_given, all_given}
use Rattle.theorems.specs.ListLaws.{and-true, and_left, and_right}

abbrev pub AllProper : Option (List Float) → Type 0
AllProper none = Unit {0}
AllProper (some xs) = every proper xs ≡ true

more-proper : (x : Length) (o : Option (List Float)) → good_length x ≡ true → AllProper o → AllProper (with_given x o)
unfolding with_given good_length every
more-proper none o g h = tt
more-proper (some x) none g h = tt
more-proper (some x) (some xs) g h = and-true g h

none-proper : every proper [] ≡ true
unfolding every
none-proper = refl

pub all-proper : (xs : List Length) → every good_length xs ≡ true → AllProper (all_given xs)
unfolding all_given every
all-proper [] g = none-proper
all-proper (x ∷ xs) g =
    more-proper x (all_given xs) (and_left (good_length x) (every good_length xs) g) (all-proper xs (and_right (good_length x) (every good_length xs) g))
