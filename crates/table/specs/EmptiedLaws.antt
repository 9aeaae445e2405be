-- The laws of lent bytes that are emptied behind their head. Assumes nothing.
--
--   lanes-none, lanes-more           lanes emptied one after another
--   lane_inside, head-inside, places-inside     the lanes, the head and the places are lent
--   emptied-places                   every place emptied, behind the lanes
--   emptied-parts                    the parts of a head with nothing behind it
--   emptied-whole, emptied-held      where that head is good they are whole, and hold what was opened
use Rattle.std.specs.Prelude.{ℕ, ◌+◌, ◌*◌, ◌≤◌, ◌<◌, ◌≡◌, refl, ◌⊎◌, true, List, [], length, get_or, replicate}
use Rattle.std.proofs.Common.{arith, sym, ◌∙◌, inl, inr, ext_get_or}
use Rattle.std.proofs.lemmas.List.{length-replicate, get_or-replicate}
use Rattle.theorems.specs.ListLaws.{less-or-not}
use Rattle.trees.specs.Plain.{every}
use Rattle.trees.specs.Opening.{Opening, head_bytes}
use Rattle.trees.specs.Held.{holding, opened}
use Rattle.trees.specs.Whole.{rising}
use Rattle.fields.specs.Field.{number, put}
use Rattle.fields.specs.FieldLaws.{put-length, put-outside, number_put, number-put-outside}
use Rattle.fields.specs.Run.{cleared}
use Rattle.fields.specs.RunLaws.{cleared-length, cleared-outside, number-cleared-inside, number-cleared-outside}
use Rattle.head.specs.Head.{numbers_at, opening_at, up_to, from_to}
use Rattle.head.specs.HeadLaws.{numbers-same, head-same, up_to-length, up_to-at}
use Rattle.layout.specs.Store.{lane_from, masks_from, places_from, size_at, held_at, held_in, tree_from, identifiers_from, counts_from, links_from, order_from, lengths_from, list_from, branches_of, lengths_at, text_from, parts_at}
use Rattle.layout.specs.StoreLaws.{lane-from, masks-from, places-from, size_is, Shaped, shaped-at}
use Rattle.layout.specs.WholeStore.{whole_at, highest_in}
use Rattle.table.specs.Emptied.{LanesEmptied, Emptied, empty_parts}
use Rattle.layout.specs.Columns.{column_at}
use Rattle.layout.specs.KeptLaws.{number-kept}
use Rattle.layout.specs.WholeFacts.{HeadAt}
use Rattle.layout.specs.Sound.{Sound, parts_whole}
use Rattle.layout.specs.InsideLaws.{ranges}

-- ---- lanes emptied one after another

pub lanes-none : (s : List ℕ) → LanesEmptied s 0 s
lanes-none s = record { size = refl; head = λ i h. refl; lanes = λ l h. absurd (omega arith); behind = λ i h. refl }

module _ (s t : List ℕ) (n : ℕ) (p : LanesEmptied s n t) (f : size_at s ≤ length s) (b : n < (numbers_at s).lanes) where
  pub lane_inside : lane_from n + 2 ≤ length t
  lane_inside = omega (arith, p.size, lane-from n, masks-from (numbers_at s), size_is s)

  put_lane : (l : ℕ) → l < n + 1 → number 2 (put 2 t (lane_from n) 0) (lane_from l) ≡ 0
  put_lane l h = go (less-or-not l n)
    where
      go : (l < n) ⊎ (n ≤ l) → number 2 (put 2 t (lane_from n) 0) (lane_from l) ≡ 0
      go (inl q) = number-put-outside 2 2 t (lane_from n) 0 (lane_from l) (inl (omega (arith, lane-from l, lane-from n))) ∙ p.lanes l q
      go (inr q) =
          let z : l ≡ n = omega arith in
          rw z (number_put 2 t (lane_from n) 0 lane_inside (omega arith))

  pub lanes-more : (from : ℕ) (u : List ℕ) → from ≡ lane_from n → u ≡ put 2 t from 0 → LanesEmptied s (n + 1) u
  lanes-more from u d e =
      let x = lane-from n in
      let y = lane-from (n + 1) in
      rw (e, d)
      record {
        size = put-length 2 t (lane_from n) 0 ∙ p.size;
        head = λ i h. p.head i h ∙ sym (put-outside 2 t (lane_from n) 0 i (inl (omega arith)));
        lanes = put_lane;
        behind = λ i h. put-outside 2 t (lane_from n) 0 i (inr (omega arith)) ∙ p.behind i (omega arith);
      }

-- ---- then the places, which the store has whole

module _ (s t : List ℕ) (p : LanesEmptied s (numbers_at s).lanes t) (f : size_at s ≤ length s) where
  places-end : places_from (numbers_at s) + 2 * (numbers_at s).places ≤ size_at s
  places-end = omega (arith, places-from (numbers_at s), size_is s)

  pub head-inside : head_bytes ≤ length t
  head-inside = omega (arith, p.size, masks-from (numbers_at s), size_is s)

  pub places-inside : places_from (numbers_at t) + 2 * (numbers_at t).places ≤ length t
  places-inside = rw (← numbers-same s t p.head) (omega (arith, p.size, places-end))

  pub emptied-places : (u : List ℕ) → u ≡ cleared t (places_from (numbers_at t)) (2 * (numbers_at t).places) → Emptied s u
  emptied-places u e =
      let n = numbers_at s in
      let a = places-from n in
      let b = masks-from n in
      let z = places-end in
      let v = p.size in
      rw (e, ← numbers-same s t p.head)
      record {
        size = cleared-length t (places_from n) (2 * n.places) ∙ p.size;
        head = λ i h. p.head i h ∙ sym (cleared-outside t (places_from n) (2 * n.places) i (inl (omega arith)));
        lanes = λ l h. number-cleared-outside t (places_from n) (2 * n.places) 2 (lane_from l) (inl (omega (arith, lane-from l))) ∙ p.lanes l h;
        starts = λ q h. number-cleared-inside t (places_from n) (2 * n.places) 2 (places_from n + 2 * q) (omega arith) (omega arith) (omega arith);
        behind = λ i h. cleared-outside t (places_from n) (2 * n.places) i (inr (omega arith)) ∙ p.behind i (omega (arith, lane-from n.lanes));
      }

-- ---- a store that holds nothing

empty-sound : (o : Opening) → Shaped o.numbers (empty_parts o.numbers) → Sound o (empty_parts o.numbers)
unfolding every rising highest_in
empty-sound o a =
    let n = o.numbers in
    record {
      shaped = a;
      splits = record { rows-below = λ k h. absurd (omega arith); masks-proper = refl; masks-rising = refl; identifiers = λ k h. absurd (omega arith) };
      lists = λ i h. absurd (omega arith);
      counts = λ k h. absurd (omega arith);
      chains = record { links = λ k h. absurd (omega arith); starts = λ q h. get_or-replicate {A = ℕ} n.places q 0 0 h };
      lanes = λ l h. omega (arith, get_or-replicate {A = ℕ} n.lanes l 0 0 h);
      branches = λ i h. absurd (omega arith);
    }

-- ---- a good head, and nothing behind it

up_to-replicate : {A : Type 0} (f : ℕ → A) (n : ℕ) (x : A) → ((i : ℕ) → i < n → f i ≡ x) → up_to f n ≡ replicate n x
up_to-replicate f n x h =
    ext_get_or x _ _ (up_to-length f n ∙ sym (length-replicate n x)) (λ i l.
    let b : i < n = omega (arith, up_to-length f n) in
    up_to-at f n i x b ∙ h i b ∙ sym (get_or-replicate n i x x b))

module _ (s t : List ℕ) (p : Emptied s t) (h : HeadAt s) (trees : number 2 s 10 ≡ 0) (splits : number 2 s 12 ≡ 0) (bytes : (i : ℕ) → get_or s i 0 < 256) where
  same-opening : opening_at t ≡ opening_at s
  same-opening = sym (head-same s t p.head h.head-there (omega (arith, h.head-there, p.size)) bytes (ranges s h).most-taxa)

  same_numbers : numbers_at t ≡ numbers_at s
  same_numbers = sym (numbers-same s t p.head)

  same-held : (a : ℕ) → a + 2 ≤ head_bytes → number 2 t a ≡ number 2 s a
  same-held a h = number-kept s t 0 head_bytes (λ i q l. sym (p.head i l)) 2 a (omega arith) h

  no-column : (w a : ℕ) → column_at w a (number 2 t 12) t ≡ []
  unfolding column_at up_to from_to
  no-column w a = rw (same-held 12 (omega arith), splits)

  no-starts : column_at 2 (places_from (numbers_at t)) (numbers_at t).places t ≡ replicate (numbers_at s).places 0
  unfolding column_at
  no-starts = rw same_numbers (up_to-replicate _ (numbers_at s).places 0 p.starts)

  no-lists : up_to (λ i. list_from t (tree_from (numbers_at t) i)) (number 2 t 10) ≡ []
  unfolding up_to from_to
  no-lists = rw (same-held 10 (omega arith), trees)

  no-branches : up_to (λ i. lengths_at t (lengths_from (numbers_at t) i) (branches_of (numbers_at t) (number 2 t (tree_from (numbers_at t) i)))) (number 2 t 10) ≡ []
  unfolding up_to from_to
  no-branches = rw (same-held 10 (omega arith), trees)

  no_lengths : up_to (λ l. number 2 t (lane_from l)) (numbers_at t).lanes ≡ replicate (numbers_at s).lanes 0
  no_lengths = rw same_numbers (up_to-replicate _ (numbers_at s).lanes 0 p.lanes)

  no-texts : up_to (λ l. text_from t (lane_from l)) (numbers_at t).lanes ≡ replicate (numbers_at s).lanes (holding [])
  unfolding text_from
  no-texts = rw same_numbers (up_to-replicate _ (numbers_at s).lanes (holding []) (λ l h. rw (p.lanes l h)))

  emptied-parts : parts_at t ≡ empty_parts (numbers_at s)
  unfolding parts_at
  emptied-parts i =
      let n = numbers_at t in
      record {
        masks = no-column 8 (masks_from n) i;
        identifiers = no-column 8 (identifiers_from n) i;
        counts = no-column 4 (counts_from n) i;
        links = no-column 2 (links_from n) i;
        order = no-column 2 (order_from n) i;
        starts = no-starts i;
        lists = no-lists i;
        branches = no-branches i;
        lengths = no_lengths i;
        texts = no-texts i;
      }

  pub emptied-whole : whole_at t ≡ true
  unfolding opening_at
  emptied-whole =
      let a = empty-sound (opening_at s) (rw (emptied-parts, same_numbers) at (shaped-at t)) in
      parts_whole s t (empty_parts (numbers_at s)) h p.size same-opening emptied-parts a (omega arith) (omega arith) (λ k q. absurd (omega arith))

  pub emptied-held : held_at t ≡ opened (opening_at s)
  unfolding held_in opened opening_at
  emptied-held = rw (emptied-parts, same-opening)
