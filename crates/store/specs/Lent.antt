-- What the calls say of lent bytes.
--
--   if_whole s f           1 where the lent bytes s are not whole, else what f gives of what they hold
--   Holds h s t           the lent bytes t are whole and hold h; those past the store's size are as in s
use Rattle.std.specs.Prelude.{◌≡◌, ℕ, ◌≤◌, true, List, length, slice_index, if◌then◌else◌}
use Rattle.trees.specs.Plain.{Answer, refused}
use Rattle.trees.specs.Opening.{store_size}
use Rattle.trees.specs.Held.{Held}
use Rattle.layout.specs.Store.{held_at, held_in}
use Rattle.layout.specs.WholeStore.{whole_at}

-- 1: "the lent collection is not whole"; every call on a collection checks it first
unfoldable pub if_whole : {A : Type 0} → List ℕ → (Held → Answer A) → Answer A
unfolding whole_at held_in
if_whole s f = if whole_at s then f (held_at s) else refused 1

-- "Lent bytes past that size keep their values"
pub record Holds (h : Held) (s t : List ℕ) : Type 0 where
  pub whole : whole_at t ≡ true
  pub held : held_at t ≡ h
  pub size : length t ≡ length s
  pub behind : (i : ℕ) → store_size h.opening.numbers ≤ i → slice_index t i ≡ slice_index s i
