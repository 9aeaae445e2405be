-- Numbers of a column moved or named anew, one after another. Assumes nothing.
--
--   column-end                       one number more at the end of a column
--   gathered_none, gathered-more     no number is moved; one more
--   renamed-none, renamed-more       no number is named anew; one more
--   renamed-next                     the number behind those named anew is as it was
use Rattle.std.specs.Prelude.{ℕ, suc, ◌+◌, ◌*◌, ◌≤◌, ◌<◌, ◌≡◌, ◌⊎◌, List, [], ◌∷◌, ◌++◌, map, length, get_or}
use Rattle.std.proofs.Common.{mul-le-mul_left, mul-suc, arith, sym, ap, ap₂, ◌∙◌, inl, inr, length-append}
use Rattle.std.proofs.Math.Path.{refl}
use Rattle.std.proofs.lemmas.List.{map-append}
use Rattle.fields.specs.Field.{number, put}
use Rattle.fields.specs.FieldLaws.{put-length, put-outside, number_same}
use Rattle.fields.specs.Run.{copied}
use Rattle.fields.specs.RunLaws.{copied-length, copied-inside, copied-outside}
use Rattle.head.specs.Head.{up_to, from_to}
use Rattle.layout.specs.Columns.{column_at, column-same, column-more, up_to-more}
use Rattle.withdrawing.specs.Moved.{Gathered, renamed, Renamed}

-- one number more at the end of a column
pub column-end : (w a n : ℕ) (s : List ℕ) → column_at w a (suc n) s ≡ column_at w a n s ++ number w s (a + w * n) ∷ []
unfolding column_at
column-end w a n s = up_to-more (λ k. number w s (a + w * k)) n

-- ---- moved

pub gathered_none : (w a : ℕ) (s : List ℕ) → Gathered w a [] s s
unfolding column_at up_to from_to
gathered_none w a s = record { column = refl; outside = λ i h. refl; size = refl }

-- the number of row r comes next; it lies behind those of the rows rs, so that it is as it was
module _ (w a : ℕ) (rs s u : List ℕ) (g : Gathered w a rs s u) (r : ℕ) (behind : length rs ≤ r) (fits : a + w * r + w ≤ length s) where
  abbrev n : ℕ
  n = length rs

  abbrev t : List ℕ
  t = copied u (a + w * n) u (a + w * r) w

  far : w * n ≤ w * r
  far = mul-le-mul_left w behind

  next : number w t (a + w * n) ≡ number w s (a + w * r)
  next = number_same w t s (a + w * n) (a + w * r) (λ i l.
      copied-inside u _ u _ w (a + w * n + i) (a + w * r + i) (omega (arith, far, g.size)) (omega (arith, g.size)) (omega arith) (omega arith) (omega arith)
      ∙ g.outside (a + w * r + i) (inr (omega (arith, far))))

  before : column_at w a n t ≡ column_at w a n u
  before = column-same w a n t u (λ i p q. copied-outside u _ u _ w i (inl (omega arith)))

  kept : (i : ℕ) → (i < a) ⊎ (a + w * suc n ≤ i) → get_or t i 0 ≡ get_or s i 0
  kept i (inl h) = copied-outside u _ u _ w i (inl (omega arith)) ∙ g.outside i (inl h)
  kept i (inr h) =
      let e : a + w * n + w ≤ i = omega (arith, mul-suc w n) in
      copied-outside u _ u _ w i (inr e) ∙ g.outside i (inr (omega arith))

  pub gathered-more : Gathered w a (rs ++ r ∷ []) s t
  gathered-more =
      let l : length (rs ++ r ∷ []) ≡ suc n = length-append rs (r ∷ []) ∙ omega arith in
      record {
        column = ap (λ (k : ℕ). column_at w a k t) l ∙ column-end w a n t
            ∙ ap₂ (λ (x : List ℕ) (y : ℕ). x ++ y ∷ []) (before ∙ g.column) next ∙ sym (map-append (λ k. number w s (a + w * k)) rs (r ∷ []));
        outside = λ i h. kept i (rw l at h);
        size = copied-length u _ u _ w ∙ g.size;
      }

-- ---- named anew

module _ (a : ℕ) (es : List ℕ) (add : ℕ) (s : List ℕ) where
  pub renamed-none : Renamed a 0 es add s s
  unfolding column_at up_to from_to
  renamed-none = record { column = refl; outside = λ i h. refl; size = refl }

  module _ (n : ℕ) (u : List ℕ) (g : Renamed a n es add s u) where
    pub renamed-next : number 2 u (a + 2 * n) ≡ number 2 s (a + 2 * n)
    renamed-next = number_same 2 u s (a + 2 * n) (a + 2 * n) (λ i l. g.outside (a + 2 * n + i) (inr (omega arith)))

    pub renamed-more : (v : ℕ) → v ≡ renamed es add (number 2 s (a + 2 * n)) → v < 65536 → a + 2 * n + 2 ≤ length s
        → Renamed a (suc n) es add s (put 2 u (a + 2 * n) v)
    renamed-more v e small fits =
        record {
          column = column-more 2 a n v u small (omega (arith, g.size))
              ∙ ap₂ (λ (x : List ℕ) (y : ℕ). x ++ y ∷ []) g.column e
              ∙ sym (ap (map (renamed es add)) (column-end 2 a n s) ∙ map-append (renamed es add) (column_at 2 a n s) (number 2 s (a + 2 * n) ∷ []));
          outside = kept;
          size = put-length 2 u _ v ∙ g.size;
        }
      where
        kept : (i : ℕ) → (i < a) ⊎ (a + 2 * suc n ≤ i) → get_or (put 2 u (a + 2 * n) v) i 0 ≡ get_or s i 0
        kept i (inl h) = put-outside 2 u _ v i (inl (omega arith)) ∙ g.outside i (inl h)
        kept i (inr h) = put-outside 2 u _ v i (inr (omega arith)) ∙ g.outside i (inr (omega arith))
