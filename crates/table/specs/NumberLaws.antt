-- The lengths of a split that are given are numbers, whatever the lent bytes are. Assumes nothing.
--
--   AreNumbers z        the shortest, the longest and the sum are no NaN
--   lengths-numbers     so are those that are given. The sum may be an infinity: whole asks that each length is finite, and somebody else
--                       may have written lengths whose sum is too large for a double
use Rattle.std.specs.Prelude.{ℕ, ◌<◌, ◌≡◌, true, not, List, [], ◌∷◌, T, ltb, eqb, length, Float}
use Rattle.std.proofs.Common.{arith, subst}
use Rattle.std.proofs.Math.Path.{refl}
use Rattle.std.proofs.Math.Option.{Option, none, some}
use Rattle.std.specs.Float.Ieee.{is_nan}
use Rattle.trees.specs.Plain.{every, member, Answer, refused, gives}
use Rattle.trees.specs.Value.{Length, proper}
use Rattle.trees.specs.Consensus.{recorded}
use Rattle.trees.specs.Sums.{Sums, sums}
use Rattle.trees.specs.Whole.{good_length, good_branches, good_lengths}
use Rattle.trees.specs.Questions.{if_kept, all_given, if_given, length_for, lengths_for, sums_of}
use Rattle.theorems.specs.ListLaws.{by-test, and-true, and_left, and_right, Mem, every-at}
use Rattle.theorems.specs.ProperDoubleLaws.{proper-number}
use Rattle.theorems.specs.SumLaws.{shortest-given, longest-given, sum_number}
use Rattle.theorems.specs.HeldLaws.{whole-facts}
use Rattle.weighing.specs.GivenLaws.{AllProper, all-proper}
use Rattle.layout.specs.Store.{held_at}
use Rattle.layout.specs.WholeStore.{whole_at}
use Rattle.store.specs.HeldWholeLaws.{held_whole}
use Rattle.store.specs.Lent.{if_whole}
use Rattle.table.specs.Asked.{split_lengths_asked}

abbrev IsNumber : Float → Type 0
IsNumber x = T (not (is_nan x))

abbrev pub AreNumbers : Sums → Type 0
AreNumbers z = IsNumber z.shortest × IsNumber z.longest × IsNumber z.sum

-- what an answer gives, if it gives any
abbrev GivesNumbers : Answer Sums → Type 0
GivesNumbers (refused k) = Unit {0}
GivesNumbers (gives z) = AreNumbers z

-- ---- the three of proper lengths

sums-numbers : (xs : List Float) → every proper xs ≡ true → AreNumbers (sums xs)
sums-numbers [] p = unfold sums is_nan in (tt, tt, tt)
sums-numbers (x ∷ xs) p = (number (shortest-given (x ∷ xs) some-there), number (longest-given (x ∷ xs) some-there), sum_number (x ∷ xs) p)
  where
    some-there : 0 < length (x ∷ xs)
    some-there = omega arith

    number : {z : Float} → Mem z (x ∷ xs) → IsNumber z
    number {z} h = proper-number z (every-at proper (x ∷ xs) p z h)

given-numbers : (xs : List Length) → every good_length xs ≡ true → GivesNumbers (if_given xs sums)
unfolding if_given
given-numbers xs g = go (all_given xs) (all-proper xs g)
  where
    go : (o : Option (List Float)) → AllProper o → GivesNumbers (elim o [ none ↦ refused 18 | some ys ↦ gives (sums ys) ])
    go none h = tt
    go (some ys) h = sums-numbers ys h

-- ---- the lengths of a split

length-good : (m : ℕ) (t : List ℕ) (xs : List Length) → every good_length xs ≡ true → good_length (length_for m t xs) ≡ true
unfolding length_for every
length-good m [] xs g = unfold good_length in refl
length-good m (a ∷ t) [] g = unfold good_length in refl
length-good m (a ∷ t) (x ∷ xs) g =
    by-test (λ (y : Length). good_length y ≡ true) (eqb m a) (λ _. and_left (good_length x) (every good_length xs) g) (λ _. length-good m t xs (and_right (good_length x) (every good_length xs) g))

branches-good : (kept : ℕ) (t : List ℕ) (xs : List Length) → good_branches kept t xs ≡ true → every good_length xs ≡ true
unfolding good_branches
branches-good kept t xs g = and_right (eqb (length xs) _) (every good_length xs) g

lengths-good : (kept m : ℕ) (ts : List (List ℕ)) (xss : List (List Length)) → good_lengths kept ts xss ≡ true → every good_length (lengths_for m ts xss) ≡ true
unfolding good_lengths lengths_for every
lengths-good kept m [] xss g = refl
lengths-good kept m (t ∷ ts) [] g = refl
lengths-good kept m (t ∷ ts) (xs ∷ xss) g =
    let first : good_length (length_for m t xs) ≡ true = length-good m t xs (branches-good kept t xs (and_left (good_branches kept t xs) (good_lengths kept ts xss) g)) in
    let rest : every good_length (lengths_for m ts xss) ≡ true = lengths-good kept m ts xss (and_right (good_branches kept t xs) (good_lengths kept ts xss) g) in
    by-test (λ (l : List Length). every good_length l ≡ true) (member m t) (λ _. and-true first rest) (λ _. rest)

module _ (s : List ℕ) (k : ℕ) where
  held-numbers : whole_at s ≡ true → GivesNumbers (sums_of (held_at s) k)
  unfolding sums_of if_kept
  held-numbers w =
      let h = held_at s in
      let kept = h.opening.numbers.kept in
      by-test GivesNumbers (ltb k (length (recorded h.trees)))
      (λ _. by-test GivesNumbers (eqb kept 0) (λ _. tt) (λ _. given-numbers _ (lengths-good kept _ h.trees h.lengths (whole-facts h (held_whole s w)).lengths-good)))
      (λ _. tt)

  asked-numbers : GivesNumbers (split_lengths_asked s k)
  unfolding if_whole
  asked-numbers = by-test GivesNumbers (whole_at s) held-numbers (λ _. tt)

  pub lengths-numbers : (z : Sums) → split_lengths_asked s k ≡ gives z → AreNumbers z
  lengths-numbers z e = subst GivesNumbers e asked-numbers
