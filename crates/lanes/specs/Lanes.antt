-- One lane of a store is changed.
--
--   LaneIs s l x t      the bytes t are whole and hold what s holds, but for lane l, which is x
--   over_length q        the length that says of a lane that it ran over, and whether quotes are open
use Rattle.std.specs.Prelude.{ℕ, ◌+◌, ◌≤◌, ◌<◌, ◌≡◌, ◌⊎◌, Bool, true, List, length, get_or, if◌then◌else◌}
use Rattle.trees.specs.Opening.{lane_bytes}
use Rattle.trees.specs.Held.{Lane, with_lane}
use Rattle.layout.specs.Store.{lane_from, held_at, ran_over, ran_over_open}
use Rattle.layout.specs.WholeStore.{whole_at}

-- the bytes t are whole and hold what s holds, but for lane l, which is x; outside that lane's own bytes nothing changed
pub record LaneIs (s : List ℕ) (l : ℕ) (x : Lane) (t : List ℕ) : Type 0 where
  pub whole : whole_at t ≡ true
  pub held : held_at t ≡ with_lane (held_at s) l x
  pub size : length t ≡ length s
  pub outside : (i : ℕ) → (i < lane_from l) ⊎ (lane_from l + lane_bytes ≤ i) → get_or t i 0 ≡ get_or s i 0

unfoldable pub over_length : Bool → ℕ
over_length q = if q then ran_over_open else ran_over
