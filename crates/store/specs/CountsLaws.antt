-- The counts of the recorded splits of a whole store. Assumes nothing.
--
--   counts-length, number-count     the counts, by the splits' numbers
--   row_count                       the count in the row of number k is that of split number k
--   map-up_to                        a list made by `up_to`, its members replaced
-- of whole bytes:
--   split-count                     the count of split number k
--   counts-at                       the counts of the recorded splits, in order of mask
use Rattle.std.specs.Prelude.{◌≡◌, ℕ, zero, suc, ◌<◌, true, List, ◌∷◌, map, length, slice_index}
use Rattle.std.proofs.Math.Path.{refl, ap}
use Rattle.std.proofs.Common.{◌∙◌}
use Rattle.trees.specs.Consensus.{recorded, count}
use Rattle.head.specs.Head.{from_to, up_to}
use Rattle.head.specs.HeadLaws.{up_to-length, up_to-at, up_to-same}
use Rattle.layout.specs.Store.{parts_at, splits_held_at, count_at, order_at, split_at, held_at}
use Rattle.layout.specs.StoreLaws.{shaped-at}
use Rattle.layout.specs.WholeStore.{whole_at}
use Rattle.layout.specs.WholeFacts.{whole-at-facts}
use Rattle.layout.specs.OrderLaws.{masks-numbered}
use Rattle.store.specs.RecordedAtLaws.{count_at_lem, recorded-at}
use Rattle.store.specs.Counts.{split_count, counts_at}

module _ (s : List ℕ) where
  pub counts-length : length (counts_at s) ≡ splits_held_at s
  unfolding counts_at
  counts-length = up_to-length (split_count s) (splits_held_at s)

  pub number-count : (k : ℕ) → k < splits_held_at s → slice_index (counts_at s) k ≡ split_count s k
  unfolding counts_at
  number-count k h = up_to-at (split_count s) (splits_held_at s) k 0 h

  pub row_count : (k row c : ℕ) → row ≡ order_at s k → c ≡ count_at s row → c ≡ split_count s k
  unfolding split_count
  row_count k row c e q = q ∙ ap (count_at s) e

module _ (f g : ℕ → ℕ) where
  map-from : (k n : ℕ) → map f (from_to g k n) ≡ from_to (λ i. f (g i)) k n
  unfolding from_to
  map-from k zero = refl
  map-from k (suc n) = ap (λ (l : List ℕ). f (g k) ∷ l) (map-from (suc k) n)

  pub map-up_to : (n : ℕ) → map f (up_to g n) ≡ up_to (λ i. f (g i)) n
  unfolding up_to
  map-up_to n = map-from 0 n

module _ (s : List ℕ) (w : whole_at s ≡ true) where
  pub split-count : (k : ℕ) → k < splits_held_at s → count (held_at s).trees (split_at s k) ≡ split_count s k
  unfolding split_count
  split-count k h = count_at_lem s w (order_at s k) ((whole-at-facts s w).splits.rows-below k h)

  pub counts-at : map (count (held_at s).trees) (recorded (held_at s).trees) ≡ counts_at s
  unfolding counts_at
  counts-at =
      rw (recorded-at s w, masks-numbered (parts_at s) (shaped-at s).order)
      (map-up_to (count (held_at s).trees) (split_at s) (splits_held_at s)
      ∙ up_to-same (λ k. count (held_at s).trees (split_at s k)) (split_count s) (splits_held_at s) split-count)
