-- What the list of splits and counts answers and leaves in its two buffers. Assumes nothing.
--
--   ListedAs x r masks counts m c     the answer x is given as r, and leaves the buffers masks and counts as m and c
--   list-refused                      a refusal leaves both as found
--   list-short, list-given            of whole bytes: 4 where either is too short, else the splits and their counts
use Rattle.std.specs.Prelude.{ℕ, ◌≤◌, ◌<◌, ◌≡◌, refl, ◌⊎◌, true, ◌||◌, List, ◌++◌, ltb, length, drop, if◌then◌else◌, Result, Ok, Err}
use Rattle.std.proofs.Common.{◌∙◌, inl, inr}
use borrow.Author.Tests.{lt-ltb, le-ltb}
use Rattle.trees.specs.Plain.{Answer, refused, gives}
use Rattle.trees.specs.Questions.{split_list}
use Rattle.theorems.specs.ListLaws.{or_left, or_right}
use Rattle.answers.specs.declared.Refusal.{Refusal}
use Rattle.answers.specs.declared.Refusal.TheVariants as why
use Rattle.answers.specs.Answers.{refusal_number, refusing, number_given}
use Rattle.answers.specs.Filled.{length_given, front, first_of, second_of}
use Rattle.layout.specs.Store.{parts_at, splits_held_at, masks_at}
use Rattle.layout.specs.StoreLaws.{shaped-at}
use Rattle.layout.specs.WholeStore.{whole_at}
use Rattle.layout.specs.OrderLaws.{masks-length}
use Rattle.store.specs.RecordedAtLaws.{recorded-at, recorded-length}
use Rattle.store.specs.LentLaws.{when_whole}
use Rattle.store.specs.Counts.{counts_at}
use Rattle.store.specs.CountsLaws.{counts-length, counts-at}
use Rattle.table.specs.Asked.{split_list_asked}

abbrev pub ListedAs : Answer (List ℕ × List ℕ) → Result ℕ Refusal → List ℕ → List ℕ → List ℕ → List ℕ → Type 0
ListedAs x r masks counts m c = (number_given r ≡ length_given (first_of x)) × ((m ≡ front (first_of x) masks) × (c ≡ front (second_of x) counts))

pub list-refused : (x : Answer (List ℕ × List ℕ)) (masks counts : List ℕ) (r : Refusal) → x ≡ refusing r
    → ListedAs x (Err r) masks counts masks counts
unfolding number_given length_given first_of second_of front
list-refused x masks counts r e = rw e (refl, (refl, refl))

-- 4, for either buffer
either : (a b n : ℕ) → (a < n) ⊎ (b < n) → (ltb a n || ltb b n) ≡ true
either a b n (inl h) = or_left (ltb a n) (ltb b n) (lt-ltb a n h)
either a b n (inr h) = or_right (ltb a n) (ltb b n) (lt-ltb b n h)

module _ (s masks counts : List ℕ) (w : whole_at s ≡ true) where
  abbrev asked : Answer (List ℕ × List ℕ)
  asked = split_list_asked s (length masks) (length counts)

  list-found : asked
      ≡ (if ltb (length masks) (splits_held_at s) || ltb (length counts) (splits_held_at s) then refused 4 else gives (masks_at s, counts_at s))
  unfolding split_list
  list-found =
      when_whole s (λ z. split_list z (length masks) (length counts)) w ∙ rw (recorded-length s w, counts-at s w, recorded-at s w)

  pub list-short : (length masks < splits_held_at s) ⊎ (length counts < splits_held_at s) → ListedAs asked (Err why.TooShort) masks counts masks counts
  unfolding refusal_number
  list-short h = list-refused asked masks counts why.TooShort (list-found ∙ rw (either (length masks) (length counts) (splits_held_at s) h))

  pub list-given : (n : ℕ) (m c : List ℕ) → n ≡ splits_held_at s → n ≤ length masks → n ≤ length counts
      → m ≡ masks_at s ++ drop (splits_held_at s) masks → c ≡ counts_at s ++ drop (splits_held_at s) counts
      → ListedAs asked (Ok n) masks counts m c
  unfolding number_given length_given first_of second_of front
  list-given n m c e a b p q =
      rw (list-found, ← e, le-ltb (length masks) n a, le-ltb (length counts) n b, masks-length (parts_at s) (shaped-at s).order, counts-length s, ← e) (refl, (rw e p, rw e q))
