-- A list without one of its elements, as a store's parts have it. Assumes nothing.
--
--   old_number k i                    the number that the element i of a list without its element k had
--   old-before, old-behind           it is i before k, and one more from k on
--   old-most                         it is at most one more
--   without_at_lem, without-below        the element i, and that it was there
--   count_less                       the count of a split, with the list that is not there
use Prim.Native.Nat.{ℕ, suc, ◌+◌, ◌≤◌, ◌<◌}
use Rattle.std.proofs.Common.{arith, sym, ap, ◌∙◌, inl, inr, lt-ltb, le-ltb}
use Rattle.std.specs.Prelude.{◌≡◌, ◌⊎◌, List, [], ltb, length, get_or, if◌then◌else◌}
use Rattle.trees.specs.Plain.{member}
use Rattle.trees.specs.Consensus.{count}
use Rattle.trees.specs.Withdrawing.{without_at}
use Rattle.theorems.specs.ListLaws.{less-or-not, by-test, if-true, if-false}
use Rattle.theorems.specs.WithdrawLaws.{without_fewer, without-before, without-behind, count-without}
use Rattle.layout.specs.UpToLaws.{one_if, one-if}

-- "trees after it move down by one number"
unfoldable pub old_number : ℕ → ℕ → ℕ
old_number k i = if ltb i k then i else suc i

module _ (k i : ℕ) where
  pub old-before : i < k → old_number k i ≡ i
  unfolding old_number
  old-before h = if-true _ _ (lt-ltb i k h)

  pub old-behind : k ≤ i → old_number k i ≡ suc i
  unfolding old_number
  old-behind h = if-false _ _ (le-ltb i k h)

  pub old-most : old_number k i ≤ suc i
  unfolding old_number
  old-most = by-test (λ (j : ℕ). j ≤ suc i) (ltb i k) (λ _. omega arith) (λ _. omega arith)

module _ {A : Type 0} (k : ℕ) (l : List A) (i : ℕ) where
  pub without_at_lem : (d : A) → get_or (without_at k l) i d ≡ get_or l (old_number k i) d
  without_at_lem d = go (less-or-not i k)
    where
      go : (i < k) ⊎ (k ≤ i) → get_or (without_at k l) i d ≡ get_or l (old_number k i) d
      go (inl h) = without-before k l i d h ∙ ap (λ (j : ℕ). get_or l j d) (sym (old-before k i h))
      go (inr h) = without-behind k l i d h ∙ ap (λ (j : ℕ). get_or l j d) (sym (old-behind k i h))

  pub without-below : k < length l → i < length (without_at k l) → old_number k i < length l
  without-below a b = go (less-or-not i k)
    where
      go : (i < k) ⊎ (k ≤ i) → old_number k i < length l
      go (inl h) = omega (arith, old-before k i h)
      go (inr h) = omega (arith, old-behind k i h, without_fewer k l a)

pub count_less : (k : ℕ) (ts : List (List ℕ)) (m : ℕ) → k < length ts → count ts m ≡ count (without_at k ts) m + one_if (member m (get_or ts k []))
count_less k ts m h = count-without k ts m h ∙ one-if (member m (get_or ts k [])) (count (without_at k ts) m)
