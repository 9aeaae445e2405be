-- A weighted distance that is asked for is a number, and a distance, whatever the lent bytes are. Assumes nothing.
--
--   weighted-number     it is plus zero or above it: no NaN and no minus zero. It may be an infinity: whole asks that each length is finite,
--                       and somebody else may have written lengths whose sum is too large for a double
--   weighted-both-ways  it is the same both ways round, and so is a refusal
--   weighted-zero       it is plus zero for trees with the same splits and the same lengths
use Rattle.std.specs.Prelude.{ℕ, ◌≡◌, Bool, true, false, List, ltb, eqb, length, Float, if◌then◌else◌}
use Rattle.std.proofs.Common.{arith, sym, ap, subst, ◌∙◌}
use Rattle.std.proofs.Math.Path.{refl}
use Rattle.std.proofs.Math.Option.{Option, none, some}
use borrow.Author.Tests.{ltb-true}
use Rattle.trees.specs.Plain.{every, Answer, refused, gives}
use Rattle.trees.specs.Value.{Length}
use Rattle.trees.specs.Sums.{plus_zero}
use Rattle.trees.specs.Weighted.{weighted}
use Rattle.trees.specs.Held.{Held}
use Rattle.trees.specs.Whole.{good_length}
use Rattle.trees.specs.Questions.{if_tree, if_kept, all_given, if_both_given, tree_lengths, tree, weighted_of}
use Rattle.theorems.specs.ListLaws.{by-test}
use Rattle.theorems.specs.Size.{plus}
use Rattle.theorems.specs.WeightedLaws.{weighted-plus, weighted-sym, weighted-self}
use Rattle.weighing.specs.GivenLaws.{AllProper, all-proper}
use Rattle.layout.specs.Store.{held_at}
use Rattle.layout.specs.WholeStore.{whole_at}
use Rattle.layout.specs.WholeFacts.{whole-at-facts}
use Rattle.store.specs.RecordedAtLaws.{trees-length}
use Rattle.store.specs.HeldWholeLaws.{lengths-at}
use Rattle.store.specs.Lent.{if_whole}
use Rattle.comparing.specs.Asked.{weighted_asked}
use Rattle.comparing.specs.WeighedLaws.{of_both, both_of}

-- what an answer gives, if it gives any
abbrev IsPlus : Answer Float → Type 0
IsPlus (refused k) = Unit {0}
IsPlus (gives x) = plus x ≡ true

abbrev IsZero : Answer Float → Type 0
IsZero (refused k) = Unit {0}
IsZero (gives x) = x ≡ plus_zero

module _ (av bv : List ℕ) where
  abbrev distance : List Float → List Float → Float
  distance xs ys = weighted av xs bv ys

  of-both-plus : (o p : Option (List Float)) → AllProper o → AllProper p → IsPlus (of_both distance o p)
  of-both-plus none p g h = tt
  of-both-plus (some xs) none g h = tt
  of-both-plus (some xs) (some ys) g h = weighted-plus av xs g bv ys h

  given-plus : (xs ys : List Length) → every good_length xs ≡ true → every good_length ys ≡ true → IsPlus (if_both_given xs ys distance)
  given-plus xs ys g h = subst IsPlus (sym (both_of distance xs ys)) (of-both-plus (all_given xs) (all_given ys) (all-proper xs g) (all-proper ys h))

module _ (av bv : List ℕ) where
  of-both-ways : (o p : Option (List Float)) → AllProper o → AllProper p → of_both (distance av bv) o p ≡ of_both (distance bv av) p o
  of-both-ways none none g h = refl
  of-both-ways none (some ys) g h = refl
  of-both-ways (some xs) none g h = refl
  of-both-ways (some xs) (some ys) g h = ap gives (weighted-sym av xs g bv ys h)

  given-both-ways : (xs ys : List Length) → every good_length xs ≡ true → every good_length ys ≡ true
      → if_both_given xs ys (distance av bv) ≡ if_both_given ys xs (distance bv av)
  given-both-ways xs ys g h =
      both_of (distance av bv) xs ys ∙ of-both-ways (all_given xs) (all_given ys) (all-proper xs g) (all-proper ys h) ∙ sym (both_of (distance bv av) ys xs)

of-both-zero : (av : List ℕ) (o : Option (List Float)) → AllProper o → IsZero (of_both (distance av av) o o)
of-both-zero av none g = tt
of-both-zero av (some xs) g = weighted-self av xs g

given-zero : (av : List ℕ) (xs : List Length) → every good_length xs ≡ true → IsZero (if_both_given xs xs (distance av av))
given-zero av xs g = subst IsZero (sym (both_of (distance av av) xs xs)) (of-both-zero av (all_given xs) (all-proper xs g))

-- what the distance comes from, of the trees i and j
abbrev kept-weighted : Held → ℕ → ℕ → Answer Float
kept-weighted h i j = if_both_given (tree_lengths h i) (tree_lengths h j) (distance (tree h i) (tree h j))

module _ (s : List ℕ) (i j : ℕ) where
  held-good : whole_at s ≡ true → (k : ℕ) → ltb k (length (held_at s).trees) ≡ true → every good_length (tree_lengths (held_at s) k) ≡ true
  unfolding tree_lengths
  held-good w k e = rw (lengths-at s k) ((whole-at-facts s w).branches k (omega (arith, ltb-true k (length (held_at s).trees) e, trees-length s)))

  -- what holds of every refusal, and of the distance of good lengths
  module _ (P : Answer Float → Type 0) (r : (k : ℕ) → P (refused k))
      (g : every good_length (tree_lengths (held_at s) i) ≡ true → every good_length (tree_lengths (held_at s) j) ≡ true → P (kept-weighted (held_at s) i j)) where
    held_by : whole_at s ≡ true → P (weighted_of (held_at s) i j)
    unfolding weighted_of if_tree if_kept
    held_by w =
        let h = held_at s in
        by-test P (ltb i (length h.trees))
        (λ a. by-test P (ltb j (length h.trees))
        (λ b. by-test P (eqb h.opening.numbers.kept 0) (λ _. r 18) (λ _. g (held-good w i a) (held-good w j b)))
        (λ _. r 13))
        (λ _. r 13)

    asked_by : P (weighted_asked s i j)
    unfolding if_whole
    asked_by = by-test P (whole_at s) held_by (λ _. r 1)

  pub weighted-number : (x : Float) → weighted_asked s i j ≡ gives x → plus x ≡ true
  weighted-number x e =
      let h = held_at s in
      subst IsPlus e (asked_by IsPlus (λ k. tt) (given-plus (tree h i) (tree h j) (tree_lengths h i) (tree_lengths h j)))

  pub weighted-zero : tree (held_at s) i ≡ tree (held_at s) j → tree_lengths (held_at s) i ≡ tree_lengths (held_at s) j → (x : Float) → weighted_asked s i j ≡ gives x
      → x ≡ plus_zero
  weighted-zero t l x e =
      let h = held_at s in
      subst IsZero e (asked_by IsZero (λ k. tt) (λ a b. subst IsZero (λ z. if_both_given (tree_lengths h i) (l z) (distance (tree h i) (t z))) (given-zero (tree h i) (tree_lengths h i) a)))

  pub weighted-both-ways : weighted_asked s i j ≡ weighted_asked s j i
  unfolding if_whole weighted_of if_tree if_kept
  weighted-both-ways = go (whole_at s) (ltb i (length h.trees)) (ltb j (length h.trees)) (eqb h.opening.numbers.kept 0) refl refl refl
    where
      h : Held
      h = held_at s

      -- from their tests: whole, such trees, lengths kept
      go : (w a b k : Bool) → whole_at s ≡ w → ltb i (length h.trees) ≡ a → ltb j (length h.trees) ≡ b
          → (if w then if a then if b then if k then refused 18 else kept-weighted h i j else refused 13 else refused 13 else refused 1)
          ≡ (if w then if b then if a then if k then refused 18 else kept-weighted h j i else refused 13 else refused 13 else refused 1)
      go false a b k e f d = refl
      go true false false k e f d = refl
      go true false true k e f d = refl
      go true true false k e f d = refl
      go true true true true e f d = refl
      go true true true false e f d = given-both-ways (tree h i) (tree h j) (tree_lengths h i) (tree_lengths h j) (held-good e i f) (held-good e j d)
