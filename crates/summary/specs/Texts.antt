-- The texts behind the first line: how the refused ones are counted.
--
--   part                   how many bytes are fed at once
--   capped n               n, as far as 64 bits can count
--   texts_fed h p           what feeding the texts of the piece p to lane 0 comes to
--   texts_count s n p       the answer of that feeding, behind n refused texts
--   TextsAs s n p r t      feeding answers r and leaves the lent bytes t, which were s
--   closed_count s n        the answer of the closing, behind n refused texts
--   ClosedAs s n r t       closing answers r and leaves the lent bytes t, which were s
use Rattle.std.specs.Prelude.{ℕ, ◌+◌, ◌≡◌, true, false, List, ltb, if◌then◌else◌, Result}
use Rattle.trees.specs.Plain.{Answer, gives}
use Rattle.trees.specs.Held.{Held, lane_of, open_in, closing}
use Rattle.trees.specs.Batch.{texts_in, none_accepted, Batched, batching, refused_in, refused_after}
use Rattle.answers.specs.Answers.{number_given}
use Rattle.layout.specs.Store.{held_at}
use Rattle.layout.specs.WholeStore.{whole_at}
use Rattle.store.specs.Lent.{if_whole, Holds}
use Rattle.feeding.specs.Feeding.{SameOutside}
use Rattle.feeding.specs.Texts.{texts_at}
use Rattle.answers.specs.declared.Refusal.{Refusal}

abbrev pub part : ℕ
part = 4096

-- 2 ^ 64 - 1 at most
unfoldable pub capped : ℕ → ℕ
capped n = if ltb n 18446744073709551616 then n else 18446744073709551615

abbrev pub texts_fed : Held → List ℕ → Batched
texts_fed h p = batching (texts_at h 0 p) h 0 p

-- 1: "the lent collection is not whole"
unfoldable pub texts_count : List ℕ → ℕ → List ℕ → Answer ℕ
unfolding if_whole capped refused_in batching texts_in open_in lane_of
texts_count s n p = if_whole s (λ h. gives (capped (n + refused_in (texts_fed h p).verdicts)))

-- "All lent memory stays as found, save the lane emptied by a verdict"
pub record TextsAs (s : List ℕ) (n : ℕ) (p : List ℕ) (r : Result ℕ Refusal) (t : List ℕ) : Type 0 where
  pub answer : number_given r ≡ texts_count s n p
  pub found : whole_at s ≡ false → t ≡ s
  pub holds : whole_at s ≡ true → Holds (texts_fed (held_at s) p).after s t
  pub outside : none_accepted (texts_fed (held_at s) p).verdicts ≡ true → SameOutside s 0 t

-- "a refused closing included"
unfoldable pub closed_count : List ℕ → ℕ → Answer ℕ
unfolding if_whole capped refused_after closing
closed_count s n = if_whole s (λ h. gives (capped (refused_after n (closing h 0).answer)))

-- "All lent memory stays as found, save the lane emptied by .. a closing"
pub record ClosedAs (s : List ℕ) (n : ℕ) (r : Result ℕ Refusal) (t : List ℕ) : Type 0 where
  pub answer : number_given r ≡ closed_count s n
  pub found : whole_at s ≡ false → t ≡ s
  pub holds : whole_at s ≡ true → Holds (closing (held_at s) 0).after s t
  pub outside : SameOutside s 0 t
