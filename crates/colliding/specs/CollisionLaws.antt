-- The laws of the collision number, as the code counts it. Assumes nothing.
--
--   row_below                      the row of a number is one of the rows
--   numbered-none, numbered_more   the splits by their numbers, one more
--   count-more, count-done, from-most, count_most     a count, a number at a time
--   pairs-more, pairs-done         the pairs, a number at a time
--   collisions-counted             the pairs that are counted are the collisions
use Prim.Native.Nat.{ℕ, zero, suc, ◌+◌, ◌-◌, ◌≤◌, ◌<◌}
use Rattle.std.proofs.Common.{add-one, sym, ◌∙◌, inl, inr, length-set, get_or-set_same, get_or-set_other}
use native.Mathlib.Omega.{arith}
use Rattle.std.specs.Prelude.{◌≡◌, ◌⊎◌, Bool, true, false, List, ◌∷◌, length, get_or, set, replicate, if◌then◌else◌}
use Rattle.std.proofs.Math.Path.{refl, ap, ap₂}
use Rattle.std.proofs.lemmas.List.{length-replicate}
use Rattle.trees.specs.Opening.{most_room}
use Rattle.theorems.specs.ListLaws.{equal_or_not}
use Rattle.trees.specs.Plain.{keep}
use Rattle.trees.specs.Hash.{identifier, collide, collisions}
use Rattle.head.specs.Head.{from_to, up_to, numbers_at, first_at, second_at}
use Rattle.layout.specs.Store.{parts_at, splits_held_at, mask_at, order_at, split_at, masks_at, identifier_at}
use Rattle.layout.specs.StoreLaws.{shaped-at}
use Rattle.layout.specs.WholeStore.{whole_at, place_in}
use Rattle.layout.specs.WholeFacts.{SplitsAt, whole-at-facts}
use Rattle.layout.specs.UpToLaws.{one_if, one-most}
use Rattle.layout.specs.OrderLaws.{masks-numbered}
use Rattle.colliding.specs.Collisions.{Placed, Numbered, alike, alike_to, count_from, pairs_from}
use Rattle.colliding.specs.PlacedLaws.{held-most, placed-all}

-- ---- places and identifiers by the splits' numbers

-- a list that has f up to k, with one more
set_more : (f : ℕ → ℕ) (l : List ℕ) (k x : ℕ) → k < length l → ((j : ℕ) → j < k → get_or l j 0 ≡ f j) → x ≡ f k
    → (j : ℕ) → j < k + 1 → get_or (set l k x) j 0 ≡ f j
set_more f l k x h g e j i = go (equal_or_not j k)
  where
    go : (j ≡ k) ⊎ (j ≡ k → ⊥) → get_or (set l k x) j 0 ≡ f j
    go (inl q) = rw q (get_or-set_same l k x 0 h ∙ e)
    go (inr q) = get_or-set_other l k j x 0 q ∙ g j (omega arith)

pub numbered-none : (s : List ℕ) → Numbered s 0 (replicate most_room 0) (replicate most_room 0)
numbered-none s =
    record {
      places-size = length-replicate {A = ℕ} most_room 0;
      identifiers-size = length-replicate {A = ℕ} most_room 0;
      each-place = λ j h. absurd (omega arith);
      each-identifier = λ j h. absurd (omega arith);
    }

module _ (s : List ℕ) (whole : whole_at s ≡ true) where
  splits : SplitsAt s
  splits = (whole-at-facts s whole).splits

  pub row_below : (k row : ℕ) → k < splits_held_at s → row ≡ order_at s k → row < splits_held_at s
  row_below k row h r = rw r (splits.rows-below k h)

  pub numbered_more : (rows places identifiers : List ℕ) (k row x : ℕ) → Placed s (numbers_at s).places rows
      → Numbered s k places identifiers → k < splits_held_at s → row ≡ order_at s k → x ≡ identifier_at s row
      → Numbered s (k + 1) (set places k (get_or rows row 0)) (set identifiers k x)
  numbered_more rows places identifiers k row x d f h r i =
      let l = row_below k row h r in
      let m = held-most s whole in
      let e : split_at s k ≡ mask_at s row = sym (ap (mask_at s) r) in
      record {
        places-size = length-set places k _ ∙ f.places-size;
        identifiers-size = length-set identifiers k x ∙ f.identifiers-size;
        each-place =
            set_more (λ j. place_in s (split_at s j)) places k _ (omega (arith, f.places-size)) f.each-place
            (placed-all s whole rows d row l ∙ sym (ap (place_in s) e));
        each-identifier =
            set_more (λ j. identifier (second_at s) (split_at s j)) identifiers k x (omega (arith, f.identifiers-size)) f.each-identifier
            (i ∙ splits.identifiers row l ∙ sym (ap (identifier (second_at s)) e));
      }

-- ---- counts and pairs, a number at a time

module _ (t : ℕ → Bool) where
  pub count-more : (j n : ℕ) → j < n → count_from t j (n - j) ≡ one_if (t j) + count_from t (j + 1) (n - (j + 1))
  unfolding count_from
  count-more j n h =
      let e : n - j ≡ suc (n - (j + 1)) = omega arith in
      ap (count_from t j) e ∙ ap (λ (i : ℕ). one_if (t j) + count_from t i (n - (j + 1))) (sym (add-one j))

  pub count-done : (j n : ℕ) → n ≤ j → count_from t j (n - j) ≡ 0
  unfolding count_from
  count-done j n h = let e : n - j ≡ 0 = omega arith in ap (count_from t j) e

  pub from-most : (j n : ℕ) → count_from t j n ≤ n
  unfolding count_from
  from-most j zero = omega arith
  from-most j (suc n) = omega (arith, one-most (t j), from-most (suc j) n)

  pub count_most : (j n r : ℕ) → r ≡ count_from t j n → r ≤ n
  count_most j n r e = rw e (from-most j n)

module _ (places identifiers : List ℕ) where
  pub pairs-more : (k n : ℕ) → k < n
      → pairs_from places identifiers k (n - k)
      ≡ count_from (alike_to places identifiers k) (k + 1) (n - (k + 1)) + pairs_from places identifiers (k + 1) (n - (k + 1))
  unfolding pairs_from
  pairs-more k n h =
      let e : n - k ≡ suc (n - (k + 1)) = omega arith in
      ap (pairs_from places identifiers k) e
      ∙ ap (λ (i : ℕ). count_from (alike_to places identifiers k) i (n - (k + 1)) + pairs_from places identifiers i (n - (k + 1))) (sym (add-one k))

  pub pairs-done : (k n : ℕ) → n ≤ k → pairs_from places identifiers k (n - k) ≡ 0
  unfolding pairs_from
  pairs-done k n h = let e : n - k ≡ 0 = omega arith in ap (pairs_from places identifiers k) e

-- ---- the pairs are the collisions

kept-count : (q t : ℕ → Bool) (f : ℕ → ℕ) (j n : ℕ) → ((i : ℕ) → i < j + n → t i ≡ q (f i)) → length (keep q (from_to f j n)) ≡ count_from t j n
unfolding keep from_to count_from one_if
kept-count q t f j zero h = refl
kept-count q t f j (suc n) h =
    go (q (f j)) (kept-count q t f (suc j) n (λ i l. h i (omega arith)))
    ∙ ap (λ (b : Bool). one_if b + count_from t (suc j) n) (sym (h j (omega arith)))
  where
    go : (b : Bool) → length (keep q (from_to f (suc j) n)) ≡ count_from t (suc j) n
        → length (if b then f j ∷ keep q (from_to f (suc j) n) else keep q (from_to f (suc j) n)) ≡ one_if b + count_from t (suc j) n
    go true r = omega (arith, r)
    go false r = omega (arith, r)

module _ (s places identifiers : List ℕ) (h : ℕ) (d : Numbered s h places identifiers) where
  abbrev collides : ℕ → ℕ → Bool
  collides = collide (first_at s) (second_at s) (numbers_at s).places

  alike-collides : (i j : ℕ) → i < h → j < h → alike_to places identifiers i j ≡ collides (split_at s i) (split_at s j)
  unfolding alike collide
  alike-collides i j a b = rw (d.each-place i a, d.each-identifier i a, d.each-place j b, d.each-identifier j b)

  from-collisions : (k n : ℕ) → k + n ≤ h
      → pairs_from places identifiers k n ≡ collisions (first_at s) (second_at s) (numbers_at s).places (from_to (split_at s) k n)
  unfolding pairs_from from_to collisions
  from-collisions k zero l = refl
  from-collisions k (suc n) l =
      ap₂ (λ (x y : ℕ). x + y)
      (sym (kept-count (collides (split_at s k)) _ (split_at s) (suc k) n (λ i a. alike-collides k i (omega arith) (omega arith))))
      (from-collisions (suc k) n (omega arith))

pub collisions-counted : (s places identifiers : List ℕ) → Numbered s (splits_held_at s) places identifiers
    → pairs_from places identifiers 0 (splits_held_at s) ≡ collisions (first_at s) (second_at s) (numbers_at s).places (masks_at s)
unfolding up_to
collisions-counted s places identifiers d =
    from-collisions s places identifiers (splits_held_at s) d 0 (splits_held_at s) (omega arith)
    ∙ ap (collisions (first_at s) (second_at s) (numbers_at s).places) (sym (masks-numbered (parts_at s) (shaped-at s).order))
