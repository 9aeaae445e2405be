-- How far `leaving::rows_left` has come, and what one turn of its loop does. Assumes nothing.
use Prim.Native.Nat.{ℕ, ◌+◌, ◌*◌, ◌≤◌, ◌<◌}
use native.Mathlib.Omega.{arith}
use mathlib.Core.Path.{◌≡◌, sym, ap, ◌∙◌}
use mathlib.Core.Bool.{true, false}
use mathlib.Core.List.{List}
use lib.ListN.{length, get_or, set, length-set}
use borrow.Author.Tests.{lt-ltb, le-ltb}
use Rattle.trees.specs.Opening.{most_room}
use Rattle.fields.specs.Field.{number}
use Rattle.head.specs.Head.{numbers_at, opening_at}
use Rattle.layout.specs.Store.{counts_from, links_from, parts_at, splits_held_at, count_at, link_at}
use Rattle.layout.specs.StoreLaws.{count-is, link-is}
use Rattle.layout.specs.WholeFacts.{HeadAt}
use Rattle.layout.specs.Sound.{Sound}
use Rattle.withdrawing.specs.Left.{stays}
use Rattle.withdrawing.specs.LeavingLaws.{link-lower}
use Rattle.withdrawing.specs.Dropping.{LeftIn}
use Rattle.withdrawing.specs.LeftInLaws.{walk-stays, walk-leaves}

-- what is known before the loop
pub record Given (s : List ℕ) (n counts links : ℕ) (rows entries : List ℕ) : Type 0 where
  pub head : HeadAt s
  pub sound : Sound (opening_at s) (parts_at s)
  pub held : n ≡ splits_held_at s
  pub few : n ≤ most_room
  pub counts-is : counts ≡ counts_from (numbers_at s)
  pub links-is : links ≡ links_from (numbers_at s)
  pub counts-in : counts + 4 * n ≤ length s
  pub links-in : links + 2 * n ≤ length s
  pub room : (n ≤ length rows) × (n < length entries)

-- how far the walk has come
pub record State (s : List ℕ) (n m r : ℕ) (rows₀ entries₀ rows entries : List ℕ) : Type 0 where
  pub below : r ≤ n
  pub fewer : m ≤ r
  pub left : LeftIn (parts_at s) r m rows entries
  pub rows-size : length rows ≡ length rows₀
  pub entries-size : length entries ≡ length entries₀

-- one turn of the loop: what the count and the link of row r say
module _ {s rows entries : List ℕ} {n counts links : ℕ} (g : Given s n counts links rows entries) (r : ℕ) (h : r < n) where
  pub held : r < splits_held_at s
  held = omega (arith, g.held)

  pub count-here : (x : ℕ) → x ≡ number 4 s (counts + 4 * r) → x ≡ count_at s r
  count-here x e = e ∙ ap (λ (a : ℕ). number 4 s (a + 4 * r)) g.counts-is ∙ sym (count-is s r held)

  pub stays_here : (x : ℕ) → x ≡ number 4 s (counts + 4 * r) → (x ≡ 0 → ⊥) → stays (parts_at s) r ≡ true
  unfolding stays
  stays_here x e z = lt-ltb 0 (count_at s r) (omega (arith, count-here x e))

  pub leaves-here : (x : ℕ) → x ≡ number 4 s (counts + 4 * r) → x ≡ 0 → stays (parts_at s) r ≡ false
  unfolding stays
  leaves-here x e z = le-ltb 0 (count_at s r) (omega (arith, count-here x e))

  pub link_here : (x : ℕ) → x ≡ number 2 s (links + 2 * r) → (x ≡ link_at s r) × (x ≤ r)
  link_here x e =
      let i = e ∙ ap (λ (a : ℕ). number 2 s (a + 2 * r)) g.links-is ∙ sym (link-is s r held) in
      (i, omega (arith, link-lower (opening_at s) (parts_at s) g.sound r held))

-- the state behind it
module _ {s rows₀ entries₀ rows entries rows' entries' : List ℕ} {n counts links m m' r : ℕ} (g : Given s n counts links rows₀ entries₀)
    (x : State s n m r rows₀ entries₀ rows entries) (h : r < n) where
  pub state-stays : stays (parts_at s) r ≡ true → m' ≡ m + 1 → rows' ≡ set rows m r → entries' ≡ set entries (r + 1) (m + 1)
      → State s n m' (r + 1) rows₀ entries₀ rows' entries'
  state-stays e i j k =
      rw (i, j, k)
      record {
        below = omega arith;
        fewer = omega (arith, x.fewer);
        left = walk-stays (parts_at s) r m rows entries x.left (omega (arith, x.entries-size, g.room)) e (omega (arith, x, g.room));
        rows-size = length-set rows m r ∙ x.rows-size;
        entries-size = length-set entries (r + 1) (m + 1) ∙ x.entries-size;
      }

  pub state-leaves : stays (parts_at s) r ≡ false → (link : ℕ) → (link ≡ link_at s r) × (link ≤ r) → m' ≡ m → rows' ≡ rows → entries' ≡ set entries (r + 1) (get_or entries link 0)
      → State s n m' (r + 1) rows₀ entries₀ rows' entries'
  state-leaves e link f i j k =
      rw (i, j, k)
      record {
        below = omega arith;
        fewer = omega (arith, x.fewer);
        left = walk-leaves (parts_at s) r m rows entries x.left (omega (arith, x.entries-size, g.room)) e link f.0 f.1;
        rows-size = x.rows-size;
        entries-size = length-set entries (r + 1) (get_or entries link 0) ∙ x.entries-size;
      }
