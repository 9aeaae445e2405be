-- Whole bytes in which one lane alone changes. Assumes nothing.
--
--   with_text l n x p     the parts p with the length n and the text x in lane l
--   sound-with           they are sound, as p is
--   parts-with           the parts of bytes that differ in lane l alone
--   lane-changed         such bytes stay whole, and hold the same but for that lane, which is what its bytes say
use Prim.Native.Nat.{ℕ, zero, suc, ◌+◌, ◌*◌, ◌≤◌, ◌<◌}
use Rattle.std.proofs.Common.{arith, sym, ◌∙◌, inl, inr, get_or-set_other, eqb-true}
use Rattle.std.specs.Prelude.{◌≡◌, ◌⊎◌, Bool, List, length, set, if◌then◌else◌}
use Rattle.std.proofs.Math.Path.{refl, ap}
use Rattle.std.proofs.Math.Bool.{true, false}
use Rattle.std.proofs.Math.Dec.{eqb}
use Rattle.std.proofs.Math.ListN.{get_or}
use Rattle.std.proofs.Math.Seq.{get_or-set_same}
use Rattle.std.proofs.lemmas.Bool.{eqb-false}
use Rattle.theorems.specs.ListLaws.{less-or-not}
use Rattle.trees.specs.Opening.{Numbers, Opening, lane_bytes, head_bytes}
use Rattle.trees.specs.Held.{Lane, with_lane}
use Rattle.fields.specs.Field.{number}
use Rattle.head.specs.Head.{up_to, numbers_at, opening_at}
use Rattle.head.specs.HeadLaws.{numbers-same, head-same, up_to-same}
use Rattle.layout.specs.Columns.{column_at, column-same, up_to-set}
use Rattle.layout.specs.Store.{lane_from, tree_from, masks_from, identifiers_from, counts_from, links_from, order_from, places_from, lengths_from, Parts, list_from, branches_of, lengths_at, text_from, parts_at, mask_in, held_in, held_at, ran_over_open}
use Rattle.layout.specs.StoreLaws.{lane-from, tree-from, masks-from, identifiers-from, counts-from, links-from, order_from_lem, places-from, branches-from, lengths-from, lengths-same, Shaped, shaped-at}
use Rattle.layout.specs.KeptLaws.{Kept, number-kept, list-kept, text-kept}
use Rattle.layout.specs.WholeStore.{highest_in, listed_in, whole_at}
use Rattle.layout.specs.WholeFacts.{WholeAt, whole-at-facts}
use Rattle.layout.specs.InsideLaws.{ranges}
use Rattle.layout.specs.Sound.{Sound, whole-sound, parts_whole}
use Rattle.lanes.specs.Lanes.{LaneIs}
use Rattle.lanes.specs.LaneLaws.{lane-end, lane-fits}

-- ---- the parts

abbrev with_text : ℕ → ℕ → Lane → Parts → Parts
with_text l n x p = record {
  masks = p.masks;
  identifiers = p.identifiers;
  counts = p.counts;
  links = p.links;
  order = p.order;
  starts = p.starts;
  lists = p.lists;
  branches = p.branches;
  lengths = set p.lengths l n;
  texts = set p.texts l x;
}

module _ (o : Opening) (p : Parts) (l n : ℕ) (x : Lane) where
  highest-with : (h : ℕ → ℕ) (q k : ℕ) → highest_in h p q k ≡ highest_in h (with_text l n x p) q k
  unfolding highest_in
  highest-with h q zero = refl
  highest-with h q (suc k) = ap (λ (r : ℕ). if eqb (h (mask_in p k)) q then suc k else r) (highest-with h q k)

  sound-with : Sound o p → Shaped o.numbers (with_text l n x p) → l < o.numbers.lanes → n ≤ ran_over_open → Sound o (with_text l n x p)
  unfolding listed_in
  sound-with f a m h =
      let b = f.splits in
      record {
        shaped = a;
        splits = record { rows-below = b.rows-below; masks-proper = b.masks-proper; masks-rising = b.masks-rising; identifiers = b.identifiers };
        lists = λ i q. let c = f.lists i q in record { few = c.few; numbers-below = c.numbers-below; tree-rising = c.tree-rising; agreeing = c.agreeing };
        counts = f.counts;
        chains = record { links = λ k q. f.chains.links k q ∙ highest-with _ _ k; starts = λ k q. f.chains.starts k q ∙ highest-with _ k _ };
        lanes = λ j q. go j q (eqb j l) refl;
        branches = f.branches;
      }
    where
      go : (j : ℕ) → j < o.numbers.lanes → (c : Bool) → eqb j l ≡ c → get_or (set p.lengths l n) j 0 ≤ ran_over_open
      go j q true e = rw (eqb-true j l e, get_or-set_same p.lengths l n 0 (omega (arith, f.shaped.lengths))) h
      go j q false e = rw (get_or-set_other p.lengths l j n 0 (eqb-false j l e)) (f.lanes j q)

-- ---- the bytes

module _ (s : List ℕ) (w : whole_at s ≡ true) (l : ℕ) (m : l < (numbers_at s).lanes) (bytes : (i : ℕ) → get_or s i 0 < 256)
    (t : List ℕ) (size : length t ≡ length s) (outside : (i : ℕ) → (i < lane_from l) ⊎ (lane_from l + lane_bytes ≤ i) → get_or t i 0 ≡ get_or s i 0) where
  facts : WholeAt s
  facts = whole-at-facts s w

  front : Kept s t 0 head_bytes
  front i a b = outside i (inl (omega (arith, lane-from l)))

  behind : (hi : ℕ) → Kept s t (lane_from (numbers_at s).lanes) hi
  behind hi i a b = outside i (inr (omega (arith, lane-from l, lane-from (numbers_at s).lanes)))

  -- another lane lies before or behind
  apart : (j : ℕ) → (j ≡ l → ⊥) → Kept s t (lane_from j) (lane_from j + lane_bytes)
  apart j d i a b = outside i (go (less-or-not j l))
    where
      go : (j < l) ⊎ (l ≤ j) → (i < lane_from l) ⊎ (lane_from l + lane_bytes ≤ i)
      go (inl q) = inl (omega (arith, lane-from l, lane-from j))
      go (inr q) = inr (omega (arith, lane-from l, lane-from j))

  opening-kept : opening_at t ≡ opening_at s
  opening-kept =
      let h = facts.head.head-there in
      sym (head-same s t (λ i q. sym (front i (omega arith) q)) h (omega arith) bytes (ranges s facts.head).most-taxa)

  numbers-kept : numbers_at t ≡ numbers_at s
  numbers-kept = sym (numbers-same s t (λ i q. sym (front i (omega arith) q)))

  column-kept : (k : ℕ) (from : Numbers → ℕ) (n o : ℕ) → n ≡ o → lane_from (numbers_at s).lanes ≤ from (numbers_at s)
      → column_at k (from (numbers_at t)) n t ≡ column_at k (from (numbers_at s)) o s
  column-kept k from n o e h = rw (numbers-kept, e) (column-same k (from (numbers_at s)) o t s (λ i p q. behind (suc i) i (omega arith) (omega arith)))

  lists-kept : up_to (λ i. list_from t (tree_from (numbers_at t) i)) (number 2 t 10) ≡ up_to (λ i. list_from s (tree_from (numbers_at s) i)) (number 2 s 10)
  lists-kept =
      let n = numbers_at s in
      rw (numbers-kept, number-kept s t 0 head_bytes front 2 10 (omega arith) (omega arith))
      (up_to-same _ _ (number 2 s 10) (λ i h.
      let a = tree_from n i in
      list-kept s t _ (a + 2 + 2 * number 2 s a) (behind _) a (omega (arith, lane-from n.lanes, tree-from n i)) (omega arith)))

  branches-kept : up_to (λ i. lengths_at t (lengths_from (numbers_at t) i) (branches_of (numbers_at t) (number 2 t (tree_from (numbers_at t) i)))) (number 2 t 10)
      ≡ up_to (λ i. lengths_at s (lengths_from (numbers_at s) i) (branches_of (numbers_at s) (number 2 s (tree_from (numbers_at s) i)))) (number 2 s 10)
  branches-kept =
      let n = numbers_at s in
      rw (numbers-kept, number-kept s t 0 head_bytes front 2 10 (omega arith) (omega arith))
      (up_to-same _ _ (number 2 s 10) (λ i h.
      let a = tree_from n i in
      let b = lengths_from n i in
      rw (number-kept s t _ (a + 2) (behind _) 2 a (omega (arith, lane-from n.lanes, tree-from n i)) (omega arith))
      (lengths-same t s b b _ (λ j q.
      number-kept s t _ (b + 8 * j + 8) (behind _) 8 (b + 8 * j) (omega (arith, lane-from n.lanes, masks-from n, branches-from n, lengths-from n i)) (omega arith)))))

  lengths-with : up_to (λ j. number 2 t (lane_from j)) (numbers_at t).lanes ≡ set (up_to (λ j. number 2 s (lane_from j)) (numbers_at s).lanes) l (number 2 t (lane_from l))
  lengths-with =
      rw numbers-kept
      (up_to-set (λ j. number 2 t (lane_from j)) _ (numbers_at s).lanes l m (λ j h d. number-kept s t _ _ (apart j d) 2 (lane_from j) (omega arith) (omega arith)))

  texts-with : up_to (λ j. text_from t (lane_from j)) (numbers_at t).lanes ≡ set (up_to (λ j. text_from s (lane_from j)) (numbers_at s).lanes) l (text_from t (lane_from l))
  texts-with =
      rw numbers-kept
      (up_to-set (λ j. text_from t (lane_from j)) _ (numbers_at s).lanes l m (λ j h d.
      text-kept s t _ _ (apart j d) (lane-end s w j h) size (lane_from j) (omega arith) (lane-fits s w j h) (omega arith)))

  parts-with : parts_at t ≡ with_text l (number 2 t (lane_from l)) (text_from t (lane_from l)) (parts_at s)
  unfolding parts_at
  parts-with i =
      let n = numbers_at s in
      let h : lane_from n.lanes ≤ masks_from n = omega (arith, lane-from n.lanes, masks-from n) in
      let e = number-kept s t 0 head_bytes front 2 12 (omega arith) (omega arith) in
      record {
        masks = column-kept 8 masks_from _ _ e h i;
        identifiers = column-kept 8 identifiers_from _ _ e (omega (arith, identifiers-from n)) i;
        counts = column-kept 4 counts_from _ _ e (omega (arith, counts-from n)) i;
        links = column-kept 2 links_from _ _ e (omega (arith, links-from n)) i;
        order = column-kept 2 order_from _ _ e (omega (arith, order_from_lem n)) i;
        starts = column-kept 2 places_from _ _ (ap (λ (x : Numbers). x.places) numbers-kept) (omega (arith, places-from n)) i;
        lists = lists-kept i;
        branches = branches-kept i;
        lengths = lengths-with i;
        texts = texts-with i;
      }

  module _ (n : ℕ) (x : Lane) (e : number 2 t (lane_from l) ≡ n) (fits : n ≤ ran_over_open) (f : text_from t (lane_from l) ≡ x) where
    parts_are : parts_at t ≡ with_text l n x (parts_at s)
    parts_are = rw (← e, ← f) parts-with

    held_with : held_at t ≡ with_lane (held_at s) l x
    unfolding held_in with_lane
    held_with = rw (parts_are, opening-kept)

    sound-now : Sound (opening_at s) (with_text l n x (parts_at s))
    unfolding opening_at
    sound-now = sound-with (opening_at s) (parts_at s) l n x (whole-sound s w) (rw (parts_are, numbers-kept) at (shaped-at t)) m fits

    pub lane-changed : LaneIs s l x t
    lane-changed =
        let h = facts.head in
        record {
          whole = parts_whole s t _ h size opening-kept parts_are sound-now h.trees-fit h.splits-fit (λ k q. (facts.counts k q).some-tree);
          held = held_with;
          size = size;
          outside = outside;
        }
