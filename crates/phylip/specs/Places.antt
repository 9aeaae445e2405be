-- What stands at a place of the text f, as the code finds it.
--
--   NumberAt f i r      r is the number in the digits at i, and the place behind it
--   ValueAt f i r       r is the value at i, behind spaces, and the place behind it
use Rattle.std.specs.Prelude.{ℕ, ◌≡◌, List}
use Rattle.trees.specs.Length.{is_digit}
use Rattle.trees.specs.Nexus.{behind_run}
use Rattle.phylip.specs.declared.values.Reached.{Reached}
use Rattle.phylip.specs.Walk.{rest, number, value, next}

pub record NumberAt (f : List ℕ) (i : ℕ) (r : Reached) : Type 0 where
  pub is : r.value ≡ number (rest f i)
  pub behind : rest f r.at ≡ behind_run is_digit (rest f i)

pub record ValueAt (f : List ℕ) (i : ℕ) (r : Reached) : Type 0 where
  pub is : r.value ≡ value (rest f i)
  pub behind : rest f r.at ≡ next (rest f i)
