-- The columns of masks, identifiers, counts and links closed, one after another. Assumes nothing.
--
--   rows-within         the rows of a column lie inside
--   columns-closed      what all four steps leave
use Rattle.std.specs.Prelude.{ℕ, ◌+◌, ◌*◌, ◌≤◌, ◌≡◌, List, length, get_or}
use Rattle.std.proofs.Common.{mul-le-mul_left, mul-suc, arith, ◌∙◌, inl, inr}
use Rattle.std.proofs.Math.Logic.{⊎_map}
use Rattle.trees.specs.Opening.{Numbers}
use Rattle.theorems.specs.ListLaws.{map_same}
use Rattle.fields.specs.Field.{number}
use Rattle.fields.specs.FieldLaws.{number_same}
use Rattle.head.specs.Head.{numbers_at}
use Rattle.layout.specs.Columns.{column_at, column-same}
use Rattle.layout.specs.Store.{masks_from, identifiers_from, counts_from, links_from, order_from}
use Rattle.layout.specs.StoreLaws.{identifiers-from, counts-from, links-from, order_from_lem}
use Rattle.withdrawing.specs.Moved.{Gathered, Within}
use Rattle.withdrawing.specs.Dropping.{Columned, ColumnsClosed}

-- ---- a column that is gathered, and another one

module _ (w a : ℕ) (rs s t : List ℕ) (g : Gathered w a rs s t) where
  -- behind it
  number_behind : (v b : ℕ) → a + w * length rs ≤ b → number v t b ≡ number v s b
  number_behind v b h = number_same v t s b b (λ i l. g.outside (b + i) (inr (omega arith)))

  -- before it
  column-before : (v b k : ℕ) → b + v * k ≤ a → column_at v b k t ≡ column_at v b k s
  column-before v b k h = column-same v b k t s (λ i p q. g.outside i (inl (omega arith)))

-- ---- all four

module _ (s rs : List ℕ) (f : Columned s rs) where
  abbrev n : Numbers
  n = numbers_at s

  abbrev k : ℕ
  k = length rs

  pub rows-within : (w a : ℕ) (t : List ℕ) → length t ≡ length s → a + w * n.split_room ≤ order_from n → Within w a rs t
  rows-within w a t size h j l =
      let r = f.rows j l in
      let m = mul-le-mul_left w r.1 in
      (r.0, omega (arith, mul-suc w (get_or rs j 0), m, f.reached, size))

  module _ (t u v z : List ℕ) (first : Gathered 8 (masks_from n) rs s t) (second : Gathered 8 (identifiers_from n) rs t u)
      (third : Gathered 4 (counts_from n) rs u v) (last : Gathered 2 (links_from n) rs v z) where
    abbrev i : identifiers_from n ≡ masks_from n + 8 * n.split_room
    i = identifiers-from n

    abbrev c : counts_from n ≡ masks_from n + 16 * n.split_room
    c = counts-from n

    abbrev l : links_from n ≡ masks_from n + 20 * n.split_room
    l = links-from n

    abbrev o : order_from n ≡ masks_from n + 22 * n.split_room
    o = order_from_lem n

    pub columns-closed : ColumnsClosed rs s z
    columns-closed = record {
      masks =
          column-before 2 _ rs v z last 8 (masks_from n) k (omega (arith, f.few, l))
          ∙ column-before 4 _ rs u v third 8 (masks_from n) k (omega (arith, f.few, c))
          ∙ column-before 8 _ rs t u second 8 (masks_from n) k (omega (arith, f.few, i)) ∙ first.column;
      identifiers =
          column-before 2 _ rs v z last 8 (identifiers_from n) k (omega (arith, f.few, i, l))
          ∙ column-before 4 _ rs u v third 8 (identifiers_from n) k (omega (arith, f.few, i, c)) ∙ second.column
          ∙ map_same _ _ rs (λ r h. number_behind 8 _ rs s t first 8 (identifiers_from n + 8 * r) (omega (arith, f.few, i)));
      counts =
          column-before 2 _ rs v z last 4 (counts_from n) k (omega (arith, f.few, c, l)) ∙ third.column
          ∙ map_same _ _ rs (λ r h.
          number_behind 8 _ rs t u second 4 (counts_from n + 4 * r) (omega (arith, f.few, i, c))
          ∙ number_behind 8 _ rs s t first 4 (counts_from n + 4 * r) (omega (arith, f.few, c)));
      links =
          last.column
          ∙ map_same _ _ rs (λ r h.
          number_behind 4 _ rs u v third 2 (links_from n + 2 * r) (omega (arith, f.few, c, l))
          ∙ number_behind 8 _ rs t u second 2 (links_from n + 2 * r) (omega (arith, f.few, i, l))
          ∙ number_behind 8 _ rs s t first 2 (links_from n + 2 * r) (omega (arith, f.few, l)));
      outside =
          λ b h.
          last.outside b (⊎_map (λ q. omega (arith, l)) (λ q. omega (arith, f.few, l, o)) h)
          ∙ third.outside b (⊎_map (λ q. omega (arith, c)) (λ q. omega (arith, f.few, c, o)) h)
          ∙ second.outside b (⊎_map (λ q. omega (arith, i)) (λ q. omega (arith, f.few, i, o)) h)
          ∙ first.outside b (⊎_map (λ q. q) (λ q. omega (arith, f.few, o)) h);
      size = last.size ∙ third.size ∙ second.size ∙ first.size;
    }
