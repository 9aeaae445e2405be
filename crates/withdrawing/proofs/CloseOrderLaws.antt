-- How far `leaving::close_order` has come, and what one turn of its loop does. Assumes nothing.
use Prim.Native.Nat.{ℕ, ◌+◌, ◌*◌, ◌≤◌, ◌<◌, ◌-◌}
use native.Mathlib.Numerals.{add-one}
use native.Mathlib.Omega.{arith}
use mathlib.Core.Path.{◌≡◌, sym, ap, ◌∙◌}
use mathlib.Core.Bool.{true, false}
use mathlib.Core.List.{List}
use lib.ListN.{length, get_or}
use borrow.Author.Tests.{lt-ltb, le-ltb}
use Rattle.fields.specs.Field.{number, put}
use Rattle.head.specs.Head.{numbers_at}
use Rattle.layout.specs.Store.{counts_from, order_from}
use Rattle.withdrawing.specs.Moved.{renamed}
use Rattle.withdrawing.specs.Dropping.{counts_at, Ordered, rows_kept, OrderClosed}
use Rattle.withdrawing.specs.ClosingLaws.{kept_more, kept_same, order-next, counts-next, order-stays, order-leaves}

-- what is known before the loop
pub record Given (s : List ℕ) (n : ℕ) (entries : List ℕ) (counts from : ℕ) : Type 0 where
  pub ordered : Ordered s n entries
  pub counts-is : counts ≡ counts_from (numbers_at s)
  pub from_is : from ≡ order_from (numbers_at s)
  pub inside : from + 2 * n ≤ length s
  pub apart : counts + 4 * n ≤ from

-- how far the walk has come
pub record State (s : List ℕ) (n : ℕ) (entries u : List ℕ) (m k : ℕ) : Type 0 where
  pub below : k ≤ n
  pub fewer : m ≤ k
  pub count : m ≡ length (rows_kept k s)
  pub closed : OrderClosed k entries s u
  pub same : length u ≡ length s

-- one turn of the loop, for the row that it reads
module _ {s : List ℕ} {n : ℕ} {entries : List ℕ} {counts from : ℕ} (g : Given s n entries counts from) {u : List ℕ} {m k : ℕ}
    (x : State s n entries u m k) (h : k < n) (row : ℕ) (d : row ≡ number 2 u (from + 2 * k)) where
  pub row_is : row ≡ number 2 s (order_from (numbers_at s) + 2 * k)
  row_is = d ∙ ap (λ (a : ℕ). number 2 u (a + 2 * k)) g.from_is ∙ order-next s entries k u x.closed

  pub row_below : row < n
  row_below = rw row_is (g.ordered.rows k h)

  module _ (v : ℕ) (e : v ≡ number 4 u (counts + 4 * row)) where
    pub count-is : v ≡ number 4 s (counts_from (numbers_at s) + 4 * row)
    count-is =
        e ∙ ap (λ (a : ℕ). number 4 u (a + 4 * row)) g.counts-is
        ∙ counts-next s entries k u x.closed (counts_from (numbers_at s) + 4 * row) (omega (arith, row_below, g.ordered.counts))

    pub counts-here : (v ≡ 0 → ⊥) → counts_at s row ≡ true
    unfolding counts_at
    counts-here z = lt-ltb 0 (number 4 s (counts_from (numbers_at s) + 4 * row)) (omega (arith, count-is))

    pub counts-not : v ≡ 0 → counts_at s row ≡ false
    unfolding counts_at
    counts-not z = le-ltb 0 (number 4 s (counts_from (numbers_at s) + 4 * row)) (omega (arith, count-is))

    pub named : (v ≡ 0 → ⊥) → 1 ≤ get_or entries (row + 1) 0
    named z = g.ordered.named row row_below (counts-here z)

    pub state-stays : (v ≡ 0 → ⊥) → (w : List ℕ) (m' : ℕ) → get_or entries (row + 1) 0 < 65536 → m' ≡ m + 1 → w ≡ put 2 u (from + 2 * m) (get_or entries (row + 1) 0 - 1)
        → State s n entries w m' (k + 1)
    unfolding renamed
    state-stays z w m' small i j =
        let c = rw row_is at (counts-here z) in
        let q = order-stays s entries k u x.closed m (get_or entries (row + 1) 0 - 1) c x.count (rw row_is) (omega arith) (omega (arith, x.fewer, g.from_is, g.inside)) in
        rw (add-one k, i, j, g.from_is)
        record {
          below = omega arith;
          fewer = omega (arith, x.fewer);
          count = omega (arith, x.count, kept_more s k c);
          closed = q;
          same = q.size;
        }

    pub state-leaves : v ≡ 0 → (w : List ℕ) (m' : ℕ) → m' ≡ m → w ≡ u → State s n entries w m' (k + 1)
    state-leaves z w m' i j =
        let c = rw row_is at (counts-not z) in
        rw (add-one k, i, j)
        record {
          below = omega arith;
          fewer = omega (arith, x.fewer);
          count = x.count ∙ sym (kept_same s k c);
          closed = order-leaves s entries k u x.closed c;
          same = x.same;
        }
