-- The order closed: its rows that count, one after another, in front of it. Assumes nothing.
--
--   kept-none, kept_more, kept_same     how many rows count: of none, and of one more, which counts or not
--   kept-few                      no more rows count than there are
--   order-none                    before the first row
--   order-stays, order-leaves     one row more, which counts or not
--   order-next, counts-next       the next row and the counts are as they were
use Rattle.std.specs.Prelude.{ℕ, suc, ◌+◌, ◌*◌, ◌≤◌, ◌<◌, ◌≡◌, true, false, length}
use Rattle.std.proofs.Common.{arith, sym, ap₂, ◌∙◌, inl, inr}
use Rattle.std.proofs.Math.Path.{refl, ap}
use Rattle.std.proofs.Math.Logic.{⊎_map}
use mathlib.Core.List.{List, [], ◌∷◌, ◌++◌, append-nil}
use Rattle.trees.specs.Plain.{keep}
use Rattle.theorems.specs.ListLaws.{keep_append, keep-most, map-append, if-true, if-false}
use Rattle.fields.specs.Field.{number, put}
use Rattle.fields.specs.FieldLaws.{put-length, put-outside, number_same}
use Rattle.head.specs.Head.{up_to, from_to, numbers_at}
use Rattle.layout.specs.Columns.{column_at, column-length, column-more}
use Rattle.layout.specs.Store.{order_from}
use Rattle.layout.specs.UpToLaws.{one_more}
use Rattle.withdrawing.specs.Moved.{renamed}
use Rattle.withdrawing.specs.MovedLaws.{column-end}
use Rattle.withdrawing.specs.Dropping.{counts_at, rows_kept, OrderClosed}

module _ (s : List ℕ) where
  abbrev from : ℕ
  from = order_from (numbers_at s)

  -- the row that comes next
  abbrev row : ℕ → ℕ
  row k = number 2 s (from + 2 * k)

  pub kept-few : (k : ℕ) → length (rows_kept k s) ≤ k
  unfolding rows_kept
  kept-few k = omega (arith, keep-most (counts_at s) (column_at 2 from k s), column-length 2 from k s)

  kept_next : (k : ℕ) → rows_kept (suc k) s ≡ rows_kept k s ++ keep (counts_at s) (row k ∷ [])
  unfolding rows_kept
  kept_next k = ap (keep (counts_at s)) (column-end 2 from k s) ∙ keep_append (counts_at s) (column_at 2 from k s) (row k ∷ [])

  kept-end : (k : ℕ) → counts_at s (row k) ≡ true → rows_kept (suc k) s ≡ rows_kept k s ++ row k ∷ []
  unfolding keep
  kept-end k e = kept_next k ∙ ap (λ (l : List ℕ). rows_kept k s ++ l) (if-true _ _ e)

  pub kept-none : 0 ≡ length (rows_kept 0 s)
  unfolding rows_kept column_at up_to from_to keep
  kept-none = refl

  pub kept_more : (k : ℕ) → counts_at s (row k) ≡ true → length (rows_kept (suc k) s) ≡ suc (length (rows_kept k s))
  kept_more k e = ap (λ (l : List ℕ). length l) (kept-end k e) ∙ one_more (rows_kept k s) (row k)

  kept-still : (k : ℕ) → counts_at s (row k) ≡ false → rows_kept (suc k) s ≡ rows_kept k s
  unfolding keep
  kept-still k e = kept_next k ∙ ap (λ (l : List ℕ). rows_kept k s ++ l) (if-false _ _ e) ∙ append-nil (rows_kept k s)

  pub kept_same : (k : ℕ) → counts_at s (row k) ≡ false → length (rows_kept (suc k) s) ≡ length (rows_kept k s)
  kept_same k e = ap (λ (l : List ℕ). length l) (kept-still k e)

  module _ (es : List ℕ) where
    pub order-none : OrderClosed 0 es s s
    unfolding rows_kept column_at up_to from_to keep
    order-none = record { column = refl; outside = λ i h. refl; size = refl }

    module _ (k : ℕ) (u : List ℕ) (g : OrderClosed k es s u) where
      pub order-next : number 2 u (from + 2 * k) ≡ row k
      order-next = number_same 2 u s _ _ (λ i l. g.outside (from + 2 * k + i) (inr (omega (arith, kept-few k))))

      pub counts-next : (a : ℕ) → a + 4 ≤ from → number 4 u a ≡ number 4 s a
      counts-next a h = number_same 4 u s a a (λ i l. g.outside (a + i) (inl (omega arith)))

      pub order-leaves : counts_at s (row k) ≡ false → OrderClosed (suc k) es s u
      order-leaves e = let i = kept-still k e in record { column = rw i g.column; outside = rw i g.outside; size = g.size }

      pub order-stays : (m v : ℕ) → counts_at s (row k) ≡ true → m ≡ length (rows_kept k s) → v ≡ renamed es 1 (row k) → v < 65536 → from + 2 * m + 2 ≤ length s
          → OrderClosed (suc k) es s (put 2 u (from + 2 * m) v)
      order-stays m v e c d small fits =
          let l = one_more (rows_kept k s) (row k) in
          rw c
          record {
            column =
                rw (kept-end k e, l)
                (column-more 2 from (length (rows_kept k s)) v u small (omega (arith, g.size))
                ∙ ap₂ (λ (x : List ℕ) (y : ℕ). x ++ y ∷ []) g.column d ∙ sym (map-append (renamed es 1) (rows_kept k s) (row k ∷ [])));
            outside =
                rw (kept-end k e, l)
                (λ i h. put-outside 2 u _ v i (⊎_map (λ q. omega arith) (λ q. omega arith) h) ∙ g.outside i (⊎_map (λ q. q) (λ q. omega arith) h));
            size = put-length 2 u _ v ∙ g.size;
          }
