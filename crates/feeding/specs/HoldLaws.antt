-- What a store holds when one of its lanes has changed, and what a call finds that is refused. Assumes nothing.
--
--   size-held, lane_below     the size of what is held is the store's, and a lane ends below it
--   lane-holds         a lane changed: the rest is held as before, and bytes past the size are kept
--   not-whole, no-lane, in_place     whether the lent bytes are whole and have the lane
--   both-ways          a test that fails does not pass
use Rattle.std.specs.Prelude.{ℕ, ◌+◌, ◌≤◌, ◌<◌, ◌≡◌, Bool, true, false, List}
use Rattle.std.proofs.Common.{arith, sym, ap, ◌∙◌, inr, true≢false, lt-ltb, le-ltb}
use Rattle.std.proofs.Math.Bool.{and-false}
use Rattle.trees.specs.Opening.{store_size, lane_bytes}
use Rattle.trees.specs.Held.{Lane, with_lane}
use Rattle.theorems.specs.ListLaws.{and-true}
use Rattle.head.specs.Head.{numbers_at}
use Rattle.layout.specs.Store.{lane_from, size_at, held_at}
use Rattle.layout.specs.StoreLaws.{lane-from, masks-from, size_is}
use Rattle.layout.specs.WholeStore.{whole_at}
use Rattle.store.specs.HeldWholeLaws.{held-numbers}
use Rattle.store.specs.Lent.{Holds}
use Rattle.lanes.specs.Lanes.{LaneIs}
use Rattle.feeding.specs.Feeding.{reached}

-- the size of what is held is the store's
pub size-held : (s : List ℕ) → store_size (held_at s).opening.numbers ≡ size_at s
unfolding size_at
size-held s = ap store_size (held-numbers s)

pub lane_below : (s : List ℕ) (l : ℕ) → l < (numbers_at s).lanes → lane_from l + lane_bytes ≤ size_at s
lane_below s l h = omega (arith, lane-from l, masks-from (numbers_at s), size_is s)

pub lane-holds : (s : List ℕ) (l : ℕ) (x : Lane) (t : List ℕ) → l < (numbers_at s).lanes → LaneIs s l x t → Holds (with_lane (held_at s) l x) s t
unfolding with_lane
lane-holds s l x t h c = record {
  whole = c.whole;
  held = c.held;
  size = c.size;
  behind = λ i b. c.outside i (inr (omega (arith, lane_below s l h, size-held s)));
}

-- ---- whether a call comes to a lane

module _ (s : List ℕ) (l : ℕ) where
  pub not-whole : whole_at s ≡ false → reached s l ≡ false
  unfolding reached
  not-whole e = rw e

  pub no-lane : (numbers_at s).lanes ≤ l → reached s l ≡ false
  unfolding reached
  no-lane h = rw (le-ltb l (numbers_at s).lanes h) (and-false (whole_at s))

  pub in_place : whole_at s ≡ true → l < (numbers_at s).lanes → reached s l ≡ true
  unfolding reached
  in_place e h = and-true e (lt-ltb l (numbers_at s).lanes h)

-- a test that fails does not pass
pub both_ways : (b : Bool) → b ≡ false → b ≡ true → ⊥
both_ways b e f = true≢false (sym f ∙ e)
