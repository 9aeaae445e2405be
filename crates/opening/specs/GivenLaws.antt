-- The laws of an opening's numbers and constants. Assumes nothing.
--
--   flag-most                  whether lengths are kept is in its range
--   size-least, size-kept, size-not-kept     a store has at least its head; its size with lengths and without
--   failed, passed             what a test that the code negates says
--   between-most               a number in its range is at most the most
--   range-not-taxa, range-not-lanes, range-not-trees, range-not-splits, range-places     the ranges, one after another
--   constants-not-first, constants-not-second, constants-below     the constants, one list after another
--   every-none, every_more, every-not, every_all, every-all     a test of every member, as a loop makes it or the library
use Rattle.std.specs.Prelude.{ℕ, suc, ◌+◌, ◌*◌, ◌^◌, ◌≤◌, ◌<◌, ◌≡◌, refl, Bool, false, ◌&&◌, not, List, [], ◌∷◌, leb, length, get_or, drop}
use Rattle.std.specs.List.{list_all}
use Rattle.std.proofs.Math.Nat.{zero-mul, one-mul}
use Rattle.std.proofs.Common.{add-one, arith, sym, ap, ◌∙◌, drop_of_length-le}
use Rattle.std.proofs.Math.Bool.{true}
use Rattle.std.proofs.Math.Dec.{ltb}
use Rattle.std.proofs.Math.Seq.{drop-cons}
use borrow.Author.Tests.{leb-true, le-leb, lt-ltb, eq-eqb, ne_eqb, not-true, not-false}
use Rattle.trees.specs.Plain.{every}
use Rattle.trees.specs.Opening.{Numbers, between, in_range, store_size, good_constants, most_room, head_bytes, lane_bytes, tree_bytes, branch_bytes}
use Rattle.theorems.specs.ListLaws.{and_right}
use Rattle.opening.specs.Given.{flag_of, numbers_of}

-- ---- the size of a store

-- "at most 64 bytes per split of room, 256 per tree of room, 8,192 per lane and 8,192 besides"
pub size-least : (x : Numbers) → head_bytes ≤ store_size x
unfolding store_size
size-least x = omega arith

pub flag-most : (b : Bool) → flag_of b ≤ 1
unfolding flag_of
flag-most true = omega arith
flag-most false = omega arith

-- as the code adds it up
module _ (taxa lanes tree_room split_room places : ℕ) (b : Bool) where
  pub size-kept : b ≡ true
      → head_bytes + lane_bytes * lanes + tree_bytes * tree_room + 24 * split_room + 2 * places + branch_bytes * tree_room ≡ store_size (numbers_of taxa lanes tree_room split_room places b)
  unfolding store_size flag_of
  size-kept e = rw (e, one-mul tree_room)

  pub size-not-kept : b ≡ false
      → head_bytes + lane_bytes * lanes + tree_bytes * tree_room + 24 * split_room + 2 * places ≡ store_size (numbers_of taxa lanes tree_room split_room places b)
  unfolding store_size flag_of
  size-not-kept e = rw (e, zero-mul tree_room) (omega arith)

-- ---- the answer of a test

and_last : (b : Bool) → (b && true) ≡ b
and_last true = refl
and_last false = refl

module _ (r b : Bool) (e : r ≡ b) where
  pub failed : not r ≡ true → b ≡ false
  failed n = sym e ∙ not-true r n

  pub passed : not r ≡ false → b ≡ true
  passed n = sym e ∙ not-false r n

-- ---- the ranges

pub between-most : (least most x : ℕ) → between least most x ≡ true → x ≤ most
between-most least most x e = leb-true x most (and_right (leb least x) (leb x most) e)

module _ (x : Numbers) where
  pub range-not-taxa : between 4 64 x.taxa ≡ false → in_range x ≡ false
  unfolding in_range
  range-not-taxa a = rw a

  module _ (a : between 4 64 x.taxa ≡ true) where
    pub range-not-lanes : between 1 8 x.lanes ≡ false → in_range x ≡ false
    unfolding in_range
    range-not-lanes b = rw (a, b)

    module _ (b : between 1 8 x.lanes ≡ true) where
      pub range-not-trees : between 1 1024 x.tree_room ≡ false → in_range x ≡ false
      unfolding in_range
      range-not-trees d = rw (a, b, d)

      module _ (d : between 1 1024 x.tree_room ≡ true) where
        pub range-not-splits : between 1 most_room x.split_room ≡ false → in_range x ≡ false
        unfolding in_range
        range-not-splits e = rw (a, b, d, e)

        pub range-places : between 1 most_room x.split_room ≡ true → x.kept ≤ 1 → in_range x ≡ between 1 (2 * x.split_room) x.places
        unfolding in_range
        range-places e k = rw (a, b, d, e, le-leb _ _ k) (and_last (between 1 (2 * x.split_room) x.places))

-- ---- a test of every member

module _ {A : Type 0} (p : A → Bool) (l : List A) (d : A) (i : ℕ) where
  every-cons : i < length l → every p (drop i l) ≡ (p (get_or l i d) && every p (drop (i + 1) l))
  unfolding every
  every-cons h = rw (add-one, drop-cons l i d)

  pub every_more : i < length l → p (get_or l i d) ≡ true → every p (drop i l) ≡ every p (drop (i + 1) l)
  every_more h q = every-cons h ∙ rw q

  pub every-not : i < length l → p (get_or l i d) ≡ false → every p (drop i l) ≡ false
  every-not h q = every-cons h ∙ rw q

  pub every-none : length l ≤ i → every p (drop i l) ≡ true
  unfolding every
  every-none h = rw (drop_of_length-le l h)

pub every_all : {A : Type 0} (p : A → Bool) (l : List A) → list_all p l ≡ every p l
unfolding every
every_all p [] = refl
every_all p (x ∷ l) = ap (λ b. p x && b) (every_all p l)

pub every-all : {A : Type 0} (p : A → Bool) (l : List A) (d : A) → ((i : ℕ) → p (get_or l i d) ≡ true) → every p l ≡ true
unfolding every
every-all p [] d f = refl
every-all p (x ∷ l) d f = ap (λ b. b && every p l) (f 0) ∙ every-all p l d (λ i. f (suc i))

-- ---- the constants

module _ (x : Numbers) (first second : List ℕ) where
  pub constants-not-first : (length first ≡ x.taxa → ⊥) → good_constants x first second ≡ false
  unfolding good_constants
  constants-not-first n = rw (ne_eqb _ _ n)

  module _ (p : length first ≡ x.taxa) where
    pub constants-not-second : (length second ≡ x.taxa → ⊥) → good_constants x first second ≡ false
    unfolding good_constants
    constants-not-second n = rw (eq-eqb _ _ p, ne_eqb _ _ n)

    -- the second list's are 64-bit numbers by their type
    pub constants-below : length second ≡ x.taxa → ((i : ℕ) → get_or second i 0 < 2 ^ 64)
        → good_constants x first second ≡ every (λ c. ltb c x.places) first
    unfolding good_constants
    constants-below q b =
        let w : every (λ c. ltb c (2 ^ 64)) second ≡ true = every-all _ second 0 (λ i. lt-ltb _ _ (b i)) in
        rw (eq-eqb _ _ p, eq-eqb _ _ q, w) (and_last (every (λ c. ltb c x.places) first))
