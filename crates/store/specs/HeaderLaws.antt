-- The laws of the head's test, in the order of the code. Assumes nothing.
--
--   head-short, head-refused, head_small, head-trees, head-splits     the head
--   opening-range, opening-constants, opening-names, opening-ranges   the opening that it holds
--   constants-first       the constants: the second list's are any
--   numbers-kept          whether lengths are kept
--   numbers-read          the numbers, one by one
use Rattle.std.specs.Prelude.{◌≡◌, ℕ, zero, suc, ◌+◌, ◌-◌, ◌*◌, ◌^◌, ◌<◌, ◌≤◌, Bool, true, false, ◌⊎◌, List, length, ◌==◌, nat_le, nat_lt, slice_index, slice_index_or}
use Rattle.std.proofs.Math.Path.{refl}
use Rattle.std.proofs.Common.{inl, inr, ⊎_elim, eq-zero-or-pos, arith}
use Rattle.std.proofs.Math.ListN.{get_or-eq_default}
use borrow.Author.Tests.{le-leb, lt-leb}
use Rattle.trees.specs.Plain.{every}
use Rattle.trees.specs.Names.{good_names}
use Rattle.trees.specs.Opening.{in_range, good_constants, head_bytes}
use Rattle.trees.specs.Whole.{good_opening}
use Rattle.theorems.specs.ListLaws.{and_left}
use Rattle.theorems.specs.OpeningLaws.{in-range}
use Rattle.fields.specs.Field.{number}
use Rattle.fields.specs.FieldLaws.{number-below}
use Rattle.head.specs.Head.{up_to, numbers_at, names_at, first_at, second_at, opening_at}
use Rattle.head.specs.HeadLaws.{up_to-length, up_to-at, first-length, second-length}
use Rattle.opening.specs.Given.{flag_of, numbers_of}
use Rattle.opening.specs.GivenLaws.{constants-below}
use Rattle.opening.specs.Places.{first_names}
use Rattle.layout.specs.Store.{trees_held_at, splits_held_at, size_at}
use Rattle.layout.specs.WholeStore.{good_head}

-- ---- a list of numbers that are all below a bound

up_to-below : (f : ℕ → ℕ) (m n : ℕ) → 0 < m → ((j : ℕ) → f j < m) → (i : ℕ) → slice_index (up_to f n) i < m
up_to-below f m n z b i =
    ⊎_elim
    (λ (h : n ≤ i).
    let l = up_to-length f n in
    let e : slice_index_or (up_to f n) i 0 ≡ 0 = get_or-eq_default (up_to f n) 0 (omega arith) in
    rw e z)
    (λ (h : i < n). rw (up_to-at f n i 0 h) (b i))
    (le-or-lt n i)
  where
    le-or-lt : (a b : ℕ) → (a ≤ b) ⊎ (b < a)
    le-or-lt a b = ⊎_elim (λ (e : a - b ≡ 0). inl (omega arith)) (λ (h : 0 < a - b). inr (omega arith)) (eq-zero-or-pos (a - b))

flag_one : (k : ℕ) → k ≤ 1 → flag_of (k == 1) ≡ k
unfolding flag_of
flag_one zero h = refl
flag_one (suc zero) h = refl
flag_one (suc (suc k)) h = absurd (omega arith)

-- ---- the head

module _ (s : List ℕ) where
  pub head-short : length s < head_bytes → good_head s ≡ false
  unfolding good_head
  head-short h = rw (lt-leb _ _ h)

  module _ (a : head_bytes ≤ length s) where
    pub head-refused : good_opening (opening_at s) ≡ false → good_head s ≡ false
    unfolding good_head
    head-refused e = rw (le-leb _ _ a, e)

    module _ (b : good_opening (opening_at s) ≡ true) where
      pub head_small : length s < size_at s → good_head s ≡ false
      unfolding good_head
      head_small h = rw (le-leb _ _ a, b, lt-leb _ _ h)

      module _ (d : size_at s ≤ length s) where
        pub head-trees : (numbers_at s).tree_room < trees_held_at s → good_head s ≡ false
        unfolding good_head
        head-trees h = rw (le-leb _ _ a, b, le-leb _ _ d, lt-leb _ _ h)

        pub head-splits : trees_held_at s ≤ (numbers_at s).tree_room → good_head s ≡ nat_le (splits_held_at s) (numbers_at s).split_room
        unfolding good_head
        head-splits h = rw (le-leb _ _ a, b, le-leb _ _ d, le-leb _ _ h)

  -- ---- the opening that it holds

  pub opening-range : in_range (numbers_at s) ≡ false → good_opening (opening_at s) ≡ false
  unfolding good_opening opening_at
  opening-range e = rw e

  pub opening-constants : in_range (numbers_at s) ≡ true → good_constants (numbers_at s) (first_at s) (second_at s) ≡ false
      → good_opening (opening_at s) ≡ false
  unfolding good_opening opening_at
  opening-constants a e = rw (a, e)

  names-first : names_at s ≡ first_names (numbers_at s).taxa s
  unfolding names_at numbers_at
  names-first = refl

  pub opening-names : in_range (numbers_at s) ≡ true → good_constants (numbers_at s) (first_at s) (second_at s) ≡ true
      → (n : ℕ) → n ≡ (numbers_at s).taxa → good_opening (opening_at s) ≡ good_names n (first_names n s)
  unfolding good_opening opening_at
  opening-names a e n q = rw (a, e, names-first, q)

  pub opening-ranges : good_opening (opening_at s) ≡ true → in_range (numbers_at s) ≡ true
  unfolding good_opening opening_at
  opening-ranges e = and_left (in_range (numbers_at s)) _ e

  pub constants-first : ((i : ℕ) → slice_index s i < 256)
      → good_constants (numbers_at s) (first_at s) (second_at s) ≡ every (λ c. nat_lt c (numbers_at s).places) (first_at s)
  unfolding second_at
  constants-first b =
      constants-below (numbers_at s) (first_at s) (second_at s) (first-length s) (second-length s) (λ i. below i)
    where
      below : (i : ℕ) → slice_index (second_at s) i < 2 ^ 64
      below i = up_to-below (λ j. number 8 s (2256 + 8 * j)) (2 ^ 64) (number 2 s 0) (omega arith) (λ j. number-below 8 s (2256 + 8 * j) b) i

  -- ---- the numbers, one by one

  pub numbers-kept : (k : ℕ) → k ≡ (numbers_at s).kept → 1 < k → in_range (numbers_at s) ≡ false
  numbers-kept k e h = go (in_range (numbers_at s)) refl
    where
      go : (b : Bool) → in_range (numbers_at s) ≡ b → b ≡ false
      go true q = absurd (omega (arith, (in-range (numbers_at s) q).most-kept))
      go false q = refl

  pub numbers-read : (n l t p m k : ℕ) → n ≡ (numbers_at s).taxa → l ≡ (numbers_at s).lanes → t ≡ (numbers_at s).tree_room
      → p ≡ (numbers_at s).split_room → m ≡ (numbers_at s).places → k ≡ (numbers_at s).kept → k ≤ 1 → numbers_of n l t p m (k == 1) ≡ numbers_at s
  numbers-read n l t p m k a b c d e f h = rw (flag_one k h, a, b, c, d, e, f)
