-- The laws of finding the groups of the majority tree, split by split. Assumes nothing.
--
--   majority-few                  there are at most 62 groups
--   count_small, read_small       a count is at most the number of trees, and so below 65,536
--   group-start, group-end        before the first split, and behind the last
--   group-takes, group-leaves     split k is in the majority tree, or not
--   groups-good                   they are splits of a tree
--   groups-are, counts-are        they and their counts, as they stand at the front of the lists
--   group-few, group-room         at most 62 are found; and where one is, the lists have a place for it
use Rattle.std.specs.Prelude.{ℕ, ◌+◌, ◌/◌, ◌≤◌, ◌<◌, ◌≡◌, refl, true, List, [], ◌∷◌, ◌++◌, map, length, set, take, drop}
use Rattle.std.proofs.Common.{arith, sym, ap, subst, ◌∙◌, take_at}
use Rattle.std.proofs.lemmas.List.{length-map}
use Rattle.trees.specs.Consensus.{count, majority}
use Rattle.trees.specs.Whole.{good_tree}
use Rattle.theorems.specs.ConsensusLaws.{count_most, majority-good}
use Rattle.head.specs.Head.{numbers_at}
use Rattle.layout.specs.Store.{trees_held_at, splits_held_at, mask_at, held_at}
use Rattle.layout.specs.WholeStore.{whole_at}
use Rattle.layout.specs.WholeFacts.{whole-at-facts}
use Rattle.layout.specs.InsideLaws.{trees-few}
use Rattle.store.specs.RecordedAtLaws.{trees-length, count_at_lem}
use Rattle.putting.specs.Put.{Putting}
use Rattle.putting.specs.PutLaws.{put_one, put_front, putting-start, putting-more, putting-end}
use Rattle.consensus.specs.Chosen.{chosen_from, ReadSplit}
use Rattle.consensus.specs.ChooseLaws.{read_below, from_start, from_end, from-takes, from-leaves}
use Rattle.consensus.specs.FewLaws.{tree-few, trees-good, majority-chosen}
use Rattle.grouping.specs.Majority.{Grouping}

-- what is left may be named otherwise
left_as : {l w out v u : List ℕ} {at e : ℕ} → v ≡ u → Putting l at w out e v → Putting l at w out e u
left_as {l} {w} {out} {at = at} {e} q p = subst (λ (x : List ℕ). Putting l at w out e x) q p

module _ (s : List ℕ) (w : whole_at s ≡ true) where
  abbrev ts : List (List ℕ)
  ts = (held_at s).trees

  abbrev least : ℕ
  least = trees_held_at s / 2 + 1

  pub majority-few : length (majority ts) ≤ 62
  majority-few = tree-few s w (majority ts) (majority-good (numbers_at s).taxa ts (trees-good s w))

  pub count_small : (m : ℕ) → count ts m < 65536
  count_small m = omega (arith, count_most ts m, trees-length s, trees-few s (whole-at-facts s w).head)

  read_count : {k row c : ℕ} → ReadSplit s k row c → count ts (mask_at s row) ≡ c
  read_count {k} {row} r = count_at_lem s w row (read_below s w r.held r.row_is) ∙ sym r.count-is

  pub read_small : {k row c : ℕ} → ReadSplit s k row c → c < 65536
  read_small {k} {row} r = omega (arith, read_count r, count_small (mask_at s row))

  pub groups-good : {ms : List ℕ} → ms ≡ majority ts → good_tree (numbers_at s).taxa ms ≡ true
  groups-good e = rw e (majority-good (numbers_at s).taxa ts (trees-good s w))

  -- the lists, as they are found
  module _ {k : ℕ} (h : k ≡ length (majority ts)) where
    pub groups-are : {masks : List ℕ} (old : List ℕ) → masks ≡ majority ts ++ drop k old → take k masks ≡ majority ts
    groups-are old e = rw e (take_at (majority ts) (drop k old) k (sym h))

    pub counts-are : {counts : List ℕ} (old : List ℕ) → counts ≡ map (count ts) (majority ts) ++ drop k old → take k counts ≡ map (count ts) (majority ts)
    counts-are old e = rw e (take_at (map (count ts) (majority ts)) (drop k old) k (length-map (majority ts) (count ts) ∙ sym h))

  module _ (a b : List ℕ) where
    pub group-start : Grouping s a b a b 0 0
    group-start =
        let q : majority ts ≡ chosen_from least s 0 = sym (from_start s w least ∙ majority-chosen s w (trees_held_at s) refl) in
        record {
          groups = left_as q (putting-start a 0 (majority ts));
          counted = left_as (ap (map (count ts)) q) (putting-start b 0 (map (count ts) (majority ts)));
        }

    module _ {masks counts : List ℕ} {n k : ℕ} (g : Grouping s a b masks counts n k) where
      pub group-end : splits_held_at s ≤ k → 64 ≤ length a → 64 ≤ length b
          → (n ≡ length (majority ts)) × (masks ≡ majority ts ++ drop n a) × (counts ≡ map (count ts) (majority ts) ++ drop n b)
      group-end h l d =
          let none = from_end s w least k h in
          let p = putting-end g.groups none in
          let q = putting-end g.counted (ap (map (count ts)) none) in
          let e : n ≡ length (majority ts) = omega (arith, p.ends) in
          let f : length (map (count ts) (majority ts)) ≡ n = omega (arith, q.ends) in
          let few = majority-few in (
            e,
            put_front a (majority ts) masks n p (omega arith) ∙ ap (λ (i : ℕ). majority ts ++ drop i a) (sym e),
            put_front b (map (count ts) (majority ts)) counts n q (omega arith) ∙ ap (λ (i : ℕ). map (count ts) (majority ts) ++ drop i b) f,
          )

      pub group-few : n ≤ 62
      group-few = omega (arith, g.groups.ends, majority-few)

      module _ {row c : ℕ} (r : ReadSplit s k row c) where
        pub group-leaves : c < least → Grouping s a b masks counts n (k + 1)
        group-leaves h =
            let q = from-leaves s w r least h in
            record { groups = left_as q g.groups; counted = left_as (ap (map (count ts)) q) g.counted }

        module _ (h : least ≤ c) where
          taken : chosen_from least s k ≡ (mask_at s row ∷ []) ++ chosen_from least s (k + 1)
          taken = from-takes s w r least h

          pub group-room : n < 64
          group-room = omega (arith, g.groups.ends, ap length taken, majority-few)

          pub group-takes : {m : ℕ} → m ≡ mask_at s row → Grouping s a b (set masks n m) (set counts n c) (n + 1) (k + 1)
          group-takes {m} e = record {
            groups = putting-more g.groups (taken ∙ ap (λ (x : ℕ). x ∷ chosen_from least s (k + 1)) (sym e)) (put_one refl);
            counted = putting-more g.counted (ap (map (count ts)) taken ∙ ap (λ (x : ℕ). x ∷ map (count ts) (chosen_from least s (k + 1))) (read_count r)) (put_one refl);
          }
