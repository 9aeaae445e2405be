-- Whether a file is well formed, as a walk over its records finds it.
--
--   FormAs x r              the records x that a file gives, or its refusal, are found as r
--   counted_record t r       the record r is of t trees, and its count is from 1 to them
--   next_record t m r        such a record, whose mask is above m and has two taxa
--   rising_from t u m rs     the records rs are such, each above the one before and the first above m, and none has taxon 0, nor has u
use Rattle.std.specs.Prelude.{◌≡◌, ℕ, Bool, not, ◌&&◌, List, [], ◌∷◌, ◌==◌, bit_or, count_ones, nat_le, nat_lt, Result}
use Rattle.trees.specs.Plain.{Answer}
use Rattle.trees.specs.Mask.{has}
use Rattle.trees.specs.SplitFile.{Record}
use Rattle.answers.specs.Answers.{number_given}
use Rattle.answers.specs.Filled.{length_given}
use Rattle.answers.specs.declared.Refusal.{Refusal}

-- how many records they are, or the number of the refusal
abbrev pub FormAs : Answer (List Record) → Result ℕ Refusal → Type 0
FormAs x r = number_given r ≡ length_given x

-- "counts are from 1 to the trees", and the trees "the same in all"
unfoldable pub counted_record : ℕ → Record → Bool
counted_record t r = nat_le 1 r.count && (nat_le r.count r.trees && r.trees == t)

-- "Masks rise"
unfoldable pub next_record : ℕ → ℕ → Record → Bool
unfolding counted_record
next_record t m r = nat_lt m r.mask && (nat_le 2 (count_ones r.mask) && counted_record t r)

unfoldable pub rising_from : ℕ → ℕ → ℕ → List Record → Bool
unfolding next_record has
rising_from t u m [] = not (has u 0)
rising_from t u m (r ∷ rs) = next_record t m r && rising_from t (bit_or u r.mask) r.mask rs
