-- What numbers, lists and lanes in a store's bytes depend on: their own bytes. Assumes nothing.
--
--   Kept s t lo hi                        t has the bytes of s from lo up to hi
--   number-kept, list-kept, text-kept     a number, a tree's list and a lane that lie there
--   lists-kept, branches-kept, lengths-kept, texts-kept     those of all trees and lanes, and the trees' lengths
--   numbers-kept, opening-kept            the opening's numbers, where the first 10 bytes and the flag at 14 are kept; the opening, where those
--                                         from 16 on are too
--   numbers-put                           the numbers where something is put behind them
--   run-same                              equal bytes, in two lists and at two places
use Rattle.std.specs.Prelude.{ℕ, ◌+◌, ◌*◌, ◌≤◌, ◌<◌, ◌≡◌, Bool, List, length, get_or, take, drop, if◌then◌else◌}
use Rattle.std.proofs.Common.{mul-le-mul_right, arith, sym, ◌∙◌, inl, length-drop, length-take-le, get_or-take, get_or-drop, ext_get_or}
use Rattle.std.proofs.Math.Path.{refl, ap}
use Rattle.std.proofs.Math.Bool.{true, false}
use Rattle.std.proofs.Math.Dec.{eqb}
use borrow.Author.Tests.{eqb-false}
use Rattle.trees.specs.Opening.{Numbers, lane_bytes, head_bytes, branch_bytes}
use Rattle.trees.specs.Held.{holding, overrun}
use Rattle.fields.specs.Field.{number, put}
use Rattle.fields.specs.FieldLaws.{put-outside, number_same}
use Rattle.head.specs.Head.{up_to, numbers_at, name_at, names_at, first_at, second_at, opening_at}
use Rattle.head.specs.HeadLaws.{up_to-same}
use Rattle.layout.specs.Columns.{column_at, column-same}
use Rattle.layout.specs.Store.{lane_from, tree_from, branches_from, lengths_from, list_from, branches_of, lengths_at, text_from, ran_over, ran_over_open, most_splits}
use Rattle.layout.specs.StoreLaws.{lane-from, tree-from, lengths-from, branches-some, lengths-same}

pub run-same : (s t : List ℕ) (a b n : ℕ) → a + n ≤ length s → b + n ≤ length t → ((i : ℕ) → i < n → get_or s (a + i) 0 ≡ get_or t (b + i) 0)
    → take n (drop a s) ≡ take n (drop b t)
run-same s t a b n f g h =
    let u : length (take n (drop a s)) ≡ n = length-take-le n (drop a s) (omega (arith, length-drop a s)) in
    ext_get_or 0 _ _ (u ∙ sym (length-take-le n (drop b t) (omega (arith, length-drop b t)))) (λ i l.
    let k : i < n = omega arith in
    rw (get_or-take n (drop a s), get_or-take n (drop b t), get_or-drop a s, get_or-drop b t) (h i k))

abbrev pub Kept : List ℕ → List ℕ → ℕ → ℕ → Type 0
Kept s t lo hi = (i : ℕ) → lo ≤ i → i < hi → get_or t i 0 ≡ get_or s i 0

module _ (s t : List ℕ) (lo hi : ℕ) (same : Kept s t lo hi) where
  pub number-kept : (w a : ℕ) → lo ≤ a → a + w ≤ hi → number w t a ≡ number w s a
  number-kept w a p q = number_same w t s a a (λ i h. same (a + i) (omega arith) (omega arith))

  pub list-kept : (a : ℕ) → lo ≤ a → a + 2 + 2 * number 2 s a ≤ hi → list_from t a ≡ list_from s a
  unfolding list_from
  list-kept a p q = rw (number-kept 2 a p (omega arith)) (column-same 2 (a + 2) (number 2 s a) t s (λ i g h. same i (omega arith) (omega arith)))

  pub text-kept : hi ≤ length s → length t ≡ length s → (a : ℕ) → lo ≤ a → number 2 s a ≤ ran_over_open → a + lane_bytes ≤ hi → text_from t a ≡ text_from s a
  unfolding text_from
  text-kept long size a p q r = rw (number-kept 2 a p (omega arith)) (go (eqb (number 2 s a) ran_over) (eqb (number 2 s a) ran_over_open) refl refl)
    where
      go : (b c : Bool) → eqb (number 2 s a) ran_over ≡ b → eqb (number 2 s a) ran_over_open ≡ c
          → (if b then overrun false else if c then overrun true else holding (take (number 2 s a) (drop (a + 8) t)))
          ≡ (if b then overrun false else if c then overrun true else holding (take (number 2 s a) (drop (a + 8) s)))
      go true c e f = refl
      go false true e f = refl
      go false false e f =
          let x = eqb-false (number 2 s a) ran_over e in
          let y = eqb-false (number 2 s a) ran_over_open f in
          ap holding (run-same t s (a + 8) (a + 8) (number 2 s a) (omega arith) (omega arith) (λ i h. same (a + 8 + i) (omega arith) (omega arith)))

  -- ---- all trees, of at most 62 splits each, and all lanes

  module _ (n : Numbers) where
    pub lists-kept : (trees : ℕ) → lo ≤ tree_from n 0 → tree_from n trees ≤ hi → ((i : ℕ) → i < trees → number 2 s (tree_from n i) ≤ most_splits)
        → up_to (λ i. list_from t (tree_from n i)) trees ≡ up_to (λ i. list_from s (tree_from n i)) trees
    lists-kept trees p q few =
        let z = tree-from n 0 in
        let y = tree-from n trees in
        up_to-same _ _ trees (λ i h. let x = tree-from n i in list-kept (tree_from n i) (omega arith) (omega (arith, few i h)))

    -- 512 bytes a tree where lengths are kept, and none where not
    pub branches-kept : (trees : ℕ) (k : ℕ → ℕ) → lo ≤ branches_from n → branches_from n + branch_bytes * (n.kept * trees) ≤ hi
        → ((i : ℕ) → i < trees → k i ≤ most_splits)
        → up_to (λ i. lengths_at t (lengths_from n i) (branches_of n (k i))) trees ≡ up_to (λ i. lengths_at s (lengths_from n i) (branches_of n (k i))) trees
    branches-kept trees k p q few =
        up_to-same _ _ trees (λ i h.
        lengths-same t s (lengths_from n i) (lengths_from n i) (branches_of n (k i)) (λ j l.
        let b = branches-some n (k i) j l in
        let m : 1 * trees ≤ n.kept * trees = mul-le-mul_right trees b.0 in
        number-kept 8 (lengths_from n i + 8 * j) (omega (arith, lengths-from n i)) (omega (arith, lengths-from n i, few i h, b.1))))

    module _ (p : lo ≤ head_bytes) (q : tree_from n 0 ≤ hi) where
      pub lengths-kept : up_to (λ l. number 2 t (lane_from l)) n.lanes ≡ up_to (λ l. number 2 s (lane_from l)) n.lanes
      lengths-kept = let z = tree-from n 0 in up_to-same _ _ n.lanes (λ l h. let x = lane-from l in number-kept 2 (lane_from l) (omega arith) (omega arith))

      pub texts-kept : hi ≤ length s → length t ≡ length s → ((l : ℕ) → l < n.lanes → number 2 s (lane_from l) ≤ ran_over_open)
          → up_to (λ l. text_from t (lane_from l)) n.lanes ≡ up_to (λ l. text_from s (lane_from l)) n.lanes
      texts-kept long size fits =
          let z = tree-from n 0 in
          up_to-same _ _ n.lanes (λ l h. let x = lane-from l in text-kept long size (lane_from l) (omega arith) (fits l h) (omega arith))

-- ---- the opening

module _ (s t : List ℕ) (front : Kept s t 0 10) where
  pub numbers-kept : Kept s t 14 16 → numbers_at t ≡ numbers_at s
  unfolding numbers_at
  numbers-kept flag =
      let e = number-kept s t 0 10 front 2 in
      rw (
        e 0 (omega arith) (omega arith),
        e 2 (omega arith) (omega arith),
        e 4 (omega arith) (omega arith),
        e 6 (omega arith) (omega arith),
        e 8 (omega arith) (omega arith),
        number-kept s t 14 16 flag 2 14 (omega arith) (omega arith),
      )

  -- with at most 64 taxa, and bytes below 256, so that a name of any length ends inside
  module _ (back : Kept s t 14 head_bytes) (long : head_bytes ≤ length s) (size : length t ≡ length s) (bytes : (i : ℕ) → get_or s i 0 < 256) (few : (numbers_at s).taxa ≤ 64) where
    name-kept : (i : ℕ) → i < 64 → name_at t i ≡ name_at s i
    unfolding name_at
    name-kept i h =
        let b = bytes (16 + 33 * i) in
        rw (back (16 + 33 * i) (omega arith) (omega arith))
        (run-same t s (17 + 33 * i) (17 + 33 * i) (get_or s (16 + 33 * i) 0) (omega arith) (omega arith) (λ j k. back (17 + 33 * i + j) (omega arith) (omega arith)))

    pub opening-kept : opening_at t ≡ opening_at s
    unfolding opening_at numbers_at names_at first_at second_at column_at
    opening-kept =
        rw (
          numbers-kept (λ i p q. back i p (omega arith)),
          number-kept s t 0 10 front 2 0 (omega arith) (omega arith),
          up_to-same (name_at t) (name_at s) (number 2 s 0) (λ i h. name-kept i (omega arith)),
          column-same 2 2128 (number 2 s 0) t s (λ i g h. back i (omega arith) (omega arith)),
          column-same 8 2256 (number 2 s 0) t s (λ i g h. back i (omega arith) (omega arith)),
        )

pub numbers-put : (j at v : ℕ) (s : List ℕ) → 16 ≤ at → numbers_at (put j s at v) ≡ numbers_at s
numbers-put j at v s h = numbers-kept s _ (λ b g l. put-outside j s at v b (inl (omega arith))) (λ b g l. put-outside j s at v b (inl (omega arith)))
