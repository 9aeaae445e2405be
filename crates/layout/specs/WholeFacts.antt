-- What the test of whole bytes says, as facts, both ways. Assumes nothing.
--
--   HeadAt s                        the head is in order, the lent bytes reach the size, rooms hold
--   SplitsIn taxa second p          the splits have rows, are proper, rising, and have their identifiers
--   ListIn p i                      the list of tree i is in order
--   CountIn p k                     the count of split k is right
--   ChainsIn h places p             every link and every start is right
--   SplitsAt, ListAt, CountAt, ChainsAt     the same of bytes
--   WholeAt s                       all of it
--   head-facts, facts-head, splits-facts ..     each test gives its facts, and the facts the test
--   whole-at-facts, facts-whole-at  all of it
use Rattle.std.specs.Prelude.{ℕ, ◌≤◌, ◌<◌, ◌≡◌, true, List, leb, ltb, eqb, length}
use Rattle.std.proofs.Common.{leb-true, le-leb, ltb-true, lt-ltb, eqb-true, eq-eqb}
use Rattle.trees.specs.Opening.{head_bytes}
use Rattle.trees.specs.Plain.{every}
use Rattle.trees.specs.Mask.{proper}
use Rattle.trees.specs.Hash.{identifier}
use Rattle.trees.specs.Whole.{rising, agree_in_pairs, good_length, good_opening}
use Rattle.theorems.specs.ListLaws.{and-true, Mem, every-at, every-intro}
use Rattle.theorems.specs.OpeningLaws.{both}
use Rattle.head.specs.Head.{numbers_at, second_at, opening_at}
use Rattle.layout.specs.Store.{size_at, Parts, parts_at, splits_in, trees_in, mask_in, masks_in, identifier_in, count_in, link_in, start_in, order_in, list_in, tree_in, trees_held_at, splits_held_at, branches_at, length_at, most_splits, ran_over_open}
use Rattle.layout.specs.AllLaws.{all-at, all-intro}
use Rattle.layout.specs.WholeStore.{all_below, order_good, identifier_good, splits_good, list_good, listed_in, count_good, highest_in, link_good, start_good, chains_good, lane_good, branches_good, whole_in, good_head, whole_at, place_in, good_splits, good_chains}

-- ---- the head

pub record HeadAt (s : List ℕ) : Type 0 where
  pub head-there : head_bytes ≤ length s
  pub opening-good : good_opening (opening_at s) ≡ true
  pub reached : size_at s ≤ length s
  pub trees-fit : trees_held_at s ≤ (numbers_at s).tree_room
  pub splits-fit : splits_held_at s ≤ (numbers_at s).split_room

pub head-facts : (s : List ℕ) → good_head s ≡ true → HeadAt s
unfolding good_head
head-facts s e =
    let a = both (leb head_bytes (length s)) _ e in
    let b = both (good_opening (opening_at s)) _ a.1 in
    let c = both (leb (size_at s) (length s)) _ b.1 in
    let d = both (leb (trees_held_at s) (numbers_at s).tree_room) _ c.1 in
    record {
      head-there = leb-true _ _ a.0;
      opening-good = b.0;
      reached = leb-true _ _ c.0;
      trees-fit = leb-true _ _ d.0;
      splits-fit = leb-true _ _ d.1;
    }

pub facts-head : (s : List ℕ) → HeadAt s → good_head s ≡ true
unfolding good_head
facts-head s h =
    and-true (le-leb _ _ h.head-there)
    (and-true h.opening-good (and-true (le-leb _ _ h.reached) (and-true (le-leb _ _ h.trees-fit) (le-leb _ _ h.splits-fit))))

-- ---- splits

pub record SplitsIn (taxa : ℕ) (second : List ℕ) (p : Parts) : Type 0 where
  pub rows-below : (k : ℕ) → k < splits_in p → order_in p k < splits_in p
  pub masks-proper : every (proper taxa) (masks_in p) ≡ true
  pub masks-rising : rising (masks_in p) ≡ true
  pub identifiers : (k : ℕ) → k < splits_in p → identifier_in p k ≡ identifier second (mask_in p k)

abbrev pub SplitsAt : List ℕ → Type 0
SplitsAt s = SplitsIn (numbers_at s).taxa (second_at s) (parts_at s)

pub splits-facts : (taxa : ℕ) (second : List ℕ) (p : Parts) → splits_good taxa second p ≡ true → SplitsIn taxa second p
unfolding splits_good order_good identifier_good
splits-facts taxa second p e =
    let o = both (all_below (order_good p) (splits_in p)) _ e in
    let a = both (every (proper taxa) (masks_in p)) _ o.1 in
    let b = both (rising (masks_in p)) (all_below (identifier_good second p) (splits_in p)) a.1 in
    record {
      rows-below = λ k h. ltb-true _ _ (all-at (order_good p) (splits_in p) o.0 k h);
      masks-proper = a.0;
      masks-rising = b.0;
      identifiers = λ k h. eqb-true _ _ (all-at (identifier_good second p) (splits_in p) b.1 k h);
    }

pub facts-splits : (taxa : ℕ) (second : List ℕ) (p : Parts) → SplitsIn taxa second p → splits_good taxa second p ≡ true
unfolding splits_good order_good identifier_good
facts-splits taxa second p f =
    and-true (all-intro (order_good p) (splits_in p) (λ k h. lt-ltb _ _ (f.rows-below k h)))
    (and-true f.masks-proper
    (and-true f.masks-rising (all-intro (identifier_good second p) (splits_in p) (λ k h. eq-eqb _ _ (f.identifiers k h)))))

-- ---- trees

pub record ListIn (p : Parts) (i : ℕ) : Type 0 where
  pub few : length (list_in p i) ≤ most_splits
  pub numbers-below : (k : ℕ) → Mem k (list_in p i) → k < splits_in p
  pub tree-rising : rising (tree_in p i) ≡ true
  pub agreeing : agree_in_pairs (tree_in p i) ≡ true

abbrev pub ListAt : List ℕ → ℕ → Type 0
ListAt s i = ListIn (parts_at s) i

pub list-facts : (p : Parts) (i : ℕ) → list_good p i ≡ true → ListIn p i
unfolding list_good
list-facts p i e =
    let a = both (leb (length (list_in p i)) most_splits) _ e in
    let b = both (every (λ k. ltb k (splits_in p)) (list_in p i)) _ a.1 in
    let c = both (rising (tree_in p i)) (agree_in_pairs (tree_in p i)) b.1 in
    record {
      few = leb-true _ _ a.0;
      numbers-below = λ k h. ltb-true _ _ (every-at (λ j. ltb j (splits_in p)) (list_in p i) b.0 k h);
      tree-rising = c.0;
      agreeing = c.1;
    }

pub facts-list : (p : Parts) (i : ℕ) → ListIn p i → list_good p i ≡ true
unfolding list_good
facts-list p i f =
    and-true (le-leb _ _ f.few)
    (and-true (every-intro (λ k. ltb k (splits_in p)) (list_in p i) (λ k h. lt-ltb _ _ (f.numbers-below k h)))
    (and-true f.tree-rising f.agreeing))

pub record CountIn (p : Parts) (k : ℕ) : Type 0 where
  pub some-tree : 1 ≤ count_in p k
  pub counted : count_in p k ≡ listed_in p k (trees_in p)

abbrev pub CountAt : List ℕ → ℕ → Type 0
CountAt s k = CountIn (parts_at s) k

pub count-facts : (p : Parts) (k : ℕ) → count_good p k ≡ true → CountIn p k
unfolding count_good
count-facts p k e =
    let a = both (leb 1 (count_in p k)) (eqb (count_in p k) (listed_in p k (trees_in p))) e in
    record { some-tree = leb-true _ _ a.0; counted = eqb-true _ _ a.1 }

pub facts-count : (p : Parts) (k : ℕ) → CountIn p k → count_good p k ≡ true
unfolding count_good
facts-count p k f = and-true (le-leb _ _ f.some-tree) (eq-eqb _ _ f.counted)

-- ---- chains

pub record ChainsIn (h : ℕ → ℕ) (places : ℕ) (p : Parts) : Type 0 where
  pub links : (k : ℕ) → k < splits_in p → link_in p k ≡ highest_in h p (h (mask_in p k)) k
  pub starts : (q : ℕ) → q < places → start_in p q ≡ highest_in h p q (splits_in p)

abbrev pub ChainsAt : List ℕ → Type 0
ChainsAt s = ChainsIn (place_in s) (numbers_at s).places (parts_at s)

pub chains-facts : (h : ℕ → ℕ) (places : ℕ) (p : Parts) → chains_good h places p ≡ true → ChainsIn h places p
unfolding chains_good link_good start_good
chains-facts h places p e =
    let a = both (all_below (link_good h p) (splits_in p)) (all_below (start_good h p) places) e in
    record {
      links = λ k l. eqb-true _ _ (all-at (link_good h p) (splits_in p) a.0 k l);
      starts = λ q l. eqb-true _ _ (all-at (start_good h p) places a.1 q l);
    }

pub facts-chains : (h : ℕ → ℕ) (places : ℕ) (p : Parts) → ChainsIn h places p → chains_good h places p ≡ true
unfolding chains_good link_good start_good
facts-chains h places p f =
    and-true (all-intro (link_good h p) (splits_in p) (λ k l. eq-eqb _ _ (f.links k l)))
    (all-intro (start_good h p) places (λ q l. eq-eqb _ _ (f.starts q l)))

-- ---- all of it

pub record WholeAt (s : List ℕ) : Type 0 where
  pub head : HeadAt s
  pub splits : SplitsAt s
  pub lists : (i : ℕ) → i < trees_held_at s → ListAt s i
  pub counts : (k : ℕ) → k < splits_held_at s → CountAt s k
  pub chains : ChainsAt s
  pub lanes : (l : ℕ) → l < (numbers_at s).lanes → length_at s l ≤ ran_over_open
  pub branches : (i : ℕ) → i < trees_held_at s → every good_length (branches_at s i) ≡ true

pub whole-at-facts : (s : List ℕ) → whole_at s ≡ true → WholeAt s
unfolding whole_at whole_in opening_at lane_good branches_good
whole-at-facts s e =
    let p = parts_at s in
    let a = both (good_head s) _ e in
    let b = both (good_splits s) _ a.1 in
    let c = both (all_below (list_good p) (trees_in p)) _ b.1 in
    let d = both (all_below (count_good p) (splits_in p)) _ c.1 in
    let f = both (good_chains s) _ d.1 in
    let g = both (all_below (lane_good p) (numbers_at s).lanes) (all_below (branches_good p) (trees_in p)) f.1 in
    record {
      head = head-facts s a.0;
      splits = splits-facts _ _ p b.0;
      lists = λ i h. list-facts p i (all-at (list_good p) (trees_in p) c.0 i h);
      counts = λ k h. count-facts p k (all-at (count_good p) (splits_in p) d.0 k h);
      chains = chains-facts _ _ p f.0;
      lanes = λ l h. leb-true _ _ (all-at (lane_good p) (numbers_at s).lanes g.0 l h);
      branches = λ i h. all-at (branches_good p) (trees_in p) g.1 i h;
    }

pub facts-whole-at : (s : List ℕ) → WholeAt s → whole_at s ≡ true
unfolding whole_at whole_in opening_at lane_good branches_good
facts-whole-at s w =
    let p = parts_at s in
    and-true (facts-head s w.head)
    (and-true (facts-splits _ _ p w.splits)
    (and-true (all-intro (list_good p) (trees_in p) (λ i h. facts-list p i (w.lists i h)))
    (and-true (all-intro (count_good p) (splits_in p) (λ k h. facts-count p k (w.counts k h)))
    (and-true (facts-chains _ _ p w.chains)
    (and-true (all-intro (lane_good p) (numbers_at s).lanes (λ l h. le-leb _ _ (w.lanes l h))) (all-intro (branches_good p) (trees_in p) w.branches))))))
