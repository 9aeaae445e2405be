-- Columns: numbers of one width, one behind another, in a list of bytes. Assumes nothing.
--
--   column_at w a n s                n numbers of w bytes each, from a on
--   column-length, column-at        how long a column is, and its k-th number
--   column-same                     it depends on its own bytes alone
--   column-beside                   what is put before or behind it changes nothing
--   column-more                     a number put behind it is its next
--   column-set                      a number put over its k-th takes its place
--   up_to-more, up_to-set             one more at the end of a list made by `up_to`; one element changed
use Prim.Native.Nat.{ℕ, zero, suc, ◌+◌, ◌*◌, ◌^◌, ◌≤◌, ◌<◌}
use Rattle.std.proofs.Common.{mul-le-mul_left, mul-suc, sym, ◌∙◌, inl, inr, length-set, ext_get_or, get_or-set_same, get_or-set_other, ltb-true, ltb-false, eqb-true}
use Rattle.std.proofs.Math.Nat.{add-zero, zero-add}
use native.Mathlib.Omega.{arith}
use Rattle.std.specs.Prelude.{◌≡◌, refl, ◌⊎◌, Bool, true, false, ltb, eqb, length, get_or, set}
use Rattle.std.proofs.Math.Path.{ap, ap₂}
use mathlib.Core.List.{List, [], ◌∷◌, ◌++◌}
use Rattle.std.proofs.lemmas.Bool.{eqb-false}
use Rattle.fields.specs.Field.{number, put}
use Rattle.fields.specs.FieldLaws.{put-outside, number_put, number-put-outside, number_same}
use Rattle.head.specs.Head.{from_to, up_to}
use Rattle.head.specs.HeadLaws.{up_to-length, up_to-at, up_to-same}

unfoldable pub column_at : ℕ → ℕ → ℕ → List ℕ → List ℕ
unfolding up_to number
column_at w a n s = up_to (λ k. number w s (a + w * k)) n

-- the k-th number ends inside, and before any later one
ends : (w k n : ℕ) → k < n → w * k + w ≤ w * n
ends w k n h = rw (mul-suc w k) at (mul-le-mul_left w h)

module _ (w a n : ℕ) (s : List ℕ) where
  pub column-length : length (column_at w a n s) ≡ n
  unfolding column_at
  column-length = up_to-length (λ k. number w s (a + w * k)) n

  pub column-at : (k : ℕ) → k < n → get_or (column_at w a n s) k 0 ≡ number w s (a + w * k)
  unfolding column_at
  column-at k h = up_to-at (λ i. number w s (a + w * i)) n k 0 h

pub column-same : (w a n : ℕ) (s t : List ℕ) → ((i : ℕ) → a ≤ i → i < a + w * n → get_or s i 0 ≡ get_or t i 0) → column_at w a n s ≡ column_at w a n t
unfolding column_at
column-same w a n s t h =
    up_to-same (λ k. number w s (a + w * k)) (λ k. number w t (a + w * k)) n
    (λ k l. number_same w s t (a + w * k) (a + w * k) (λ i m. let f = ends w k n l in h (a + w * k + i) (omega arith) (omega arith)))

-- ---- what is put

pub column-beside : (w a n j at v : ℕ) (s : List ℕ) → (at + j ≤ a) ⊎ (a + w * n ≤ at) → column_at w a n (put j s at v) ≡ column_at w a n s
column-beside w a n j at v s (inl h) = column-same w a n _ s (λ i p q. put-outside j s at v i (inr (omega arith)))
column-beside w a n j at v s (inr h) = column-same w a n _ s (λ i p q. put-outside j s at v i (inl (omega arith)))

module _ {A : Type 0} (f : ℕ → A) where
  from_more : (k n : ℕ) → from_to f k (suc n) ≡ from_to f k n ++ f (k + n) ∷ []
  unfolding from_to
  from_more k zero = rw add-zero
  from_more k (suc n) =
      let e : suc k + n ≡ k + suc n = omega arith in
      ap (λ (l : List A). f k ∷ l) (from_more (suc k) n ∙ rw e)

  pub up_to-more : (n : ℕ) → up_to f (suc n) ≡ up_to f n ++ f n ∷ []
  unfolding up_to
  up_to-more n = from_more 0 n ∙ rw zero-add

-- the lists of two functions that differ at k alone
pub up_to-set : {A : Type 0} (f g : ℕ → A) (n k : ℕ) → k < n → ((i : ℕ) → i < n → (i ≡ k → ⊥) → f i ≡ g i) → up_to f n ≡ set (up_to g n) k (f k)
up_to-set {A} f g n k h same =
    ext_get_or (f k) _ _ (up_to-length f n ∙ sym (length-set (up_to g n) k (f k) ∙ up_to-length g n)) (λ i l.
    let b : i < n = omega (arith, up_to-length f n) in
    up_to-at f n i (f k) b ∙ go i b (eqb i k) refl)
  where
    go : (i : ℕ) → i < n → (t : Bool) → eqb i k ≡ t → f i ≡ get_or (set (up_to g n) k (f k)) i (f k)
    go i b true e = rw (eqb-true i k e) (sym (get_or-set_same (up_to g n) k (f k) (f k) (omega (arith, up_to-length g n))))
    go i b false e =
        let d = eqb-false i k e in
        same i b d ∙ sym (get_or-set_other (up_to g n) k i (f k) (f k) d ∙ up_to-at g n i (f k) b)

module _ (w a n v : ℕ) (s : List ℕ) (l : v < 256 ^ w) where
  pub column-more : a + w * n + w ≤ length s → column_at w a (suc n) (put w s (a + w * n) v) ≡ column_at w a n s ++ v ∷ []
  unfolding column_at
  column-more h =
      up_to-more (λ k. number w (put w s (a + w * n) v) (a + w * k)) n
      ∙ ap₂ (λ (x : List ℕ) (y : ℕ). x ++ y ∷ []) (column-beside w a n w (a + w * n) v s (inr (omega arith))) (number_put w s (a + w * n) v h l)

  module _ (k : ℕ) (h : k < n) (fits : a + w * n ≤ length s) where
    others : (i : ℕ) → i < n → (i ≡ k → ⊥) → number w (put w s (a + w * k) v) (a + w * i) ≡ number w s (a + w * i)
    others i b d = number-put-outside w w s (a + w * k) v (a + w * i) (go (ltb i k) refl)
      where
        go : (t : Bool) → ltb i k ≡ t → (a + w * i + w ≤ a + w * k) ⊎ (a + w * k + w ≤ a + w * i)
        go true e = inl (omega (arith, ends w i k (ltb-true i k e)))
        go false e = inr (let c = ltb-false i k e in omega (arith, ends w k i (omega arith)))

    pub column-set : column_at w a n (put w s (a + w * k) v) ≡ set (column_at w a n s) k v
    unfolding column_at
    column-set =
        up_to-set _ (λ i. number w s (a + w * i)) n k h others
        ∙ ap (set (column_at w a n s) k) (number_put w s (a + w * k) v (omega (arith, ends w k n h)) l)
