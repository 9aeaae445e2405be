-- The laws of the test of stored lengths, in the order of the code. Assumes nothing.
--
--   branches-none                             where lengths are not kept there are none
--   branches-full                             where they are, a tree has one for each split
--   lengths-start, lengths-end                the loop over a tree's lengths begins and ends
--   length-fails, length-passes               one turn of it
use Rattle.std.specs.Prelude.{◌≡◌, ℕ, ◌+◌, ◌*◌, ◌<◌, ◌≤◌, true, false, List, length, drop, slice_index_or}
use Rattle.std.proofs.Common.{arith, sym, ap, ◌∙◌, eq-eqb, ne_eqb}
use Rattle.std.proofs.Math.Path.{refl}
use Rattle.std.proofs.Math.Option.{none}
use Rattle.trees.specs.Plain.{every}
use Rattle.trees.specs.Whole.{good_length}
use Rattle.theorems.specs.ListLaws.{if-true, if-false}
use Rattle.doubles.specs.Stored.{good_length_at}
use Rattle.head.specs.Head.{numbers_at}
use Rattle.opening.specs.GivenLaws.{every-none, every_more, every-not}
use Rattle.layout.specs.Store.{lengths_from, branches_of, trees_held_at, list_at, branches_at}
use Rattle.layout.specs.StoreLaws.{shaped-at, branch-is}
use Rattle.layout.specs.WholeStore.{all_below, branches_good, good_branches_at}
use Rattle.layout.specs.AllLaws.{all-intro}

module _ (s : List ℕ) where
  none_kept : (i : ℕ) → i < trees_held_at s → (numbers_at s).kept ≡ 0 → length (branches_at s i) ≡ 0
  unfolding branches_of
  none_kept i h z = (shaped-at s).branches-each i h ∙ if-true 0 (length (list_at s i)) (eq-eqb (numbers_at s).kept 0 z)

  pub branches-full : (i : ℕ) → i < trees_held_at s → 1 ≤ (numbers_at s).kept → length (branches_at s i) ≡ length (list_at s i)
  unfolding branches_of
  branches-full i h k = (shaped-at s).branches-each i h ∙ if-false 0 (length (list_at s i)) (ne_eqb (numbers_at s).kept 0 (λ z. omega arith))

  module _ (i : ℕ) where
    pub lengths-start : good_branches_at s i ≡ every good_length (drop 0 (branches_at s i))
    unfolding branches_good
    lengths-start = refl

    module _ (j : ℕ) (g : good_branches_at s i ≡ every good_length (drop j (branches_at s i))) where
      pub lengths-end : length (branches_at s i) ≤ j → good_branches_at s i ≡ true
      lengths-end h = g ∙ every-none good_length (branches_at s i) none j h

      module _ (h : i < trees_held_at s) (from : ℕ) (is : from ≡ lengths_from (numbers_at s) i) (l : j < length (branches_at s i)) where
        test : good_length_at s (from + 8 * j) ≡ good_length (slice_index_or (branches_at s i) j none)
        unfolding good_length_at
        test = rw is (ap good_length (sym (branch-is s i h j l)))

        pub length-fails : good_length_at s (from + 8 * j) ≡ false → good_branches_at s i ≡ false
        length-fails e = g ∙ every-not good_length (branches_at s i) none j l (sym test ∙ e)

        pub length-passes : good_length_at s (from + 8 * j) ≡ true → good_branches_at s i ≡ every good_length (drop (j + 1) (branches_at s i))
        length-passes e = g ∙ every_more good_length (branches_at s i) none j l (sym test ∙ e)

  pub branches-none : (numbers_at s).kept ≡ 0 → all_below (good_branches_at s) (trees_held_at s) ≡ true
  branches-none z = all-intro (good_branches_at s) (trees_held_at s) (λ i h. lengths-end i 0 (lengths-start i) (omega (arith, none_kept i h z)))
