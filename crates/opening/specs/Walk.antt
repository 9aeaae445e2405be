-- A walk through a name list, from the start of one name to the start of the next.
--
--   names_from s i      the names of the list s from place i on; none past its end
--   NameEnd s b e      the name that begins at b ends at e; e is past the list where no label stands there up to a space or the end
use Rattle.std.specs.Prelude.{ℕ, ◌+◌, ◌≤◌, ◌<◌, ◌≡◌, false, List, [], ◌∷◌, leb, length, drop, if◌then◌else◌}
use Rattle.std.proofs.Math.Seq.{slice}
use Rattle.trees.specs.Plain.{every}
use Rattle.trees.specs.Text.{read_as}
use Rattle.trees.specs.Names.{names_in, is_name}

unfoldable pub names_from : List ℕ → ℕ → List (List ℕ)
unfolding names_in
names_from s i = if leb i (length s) then names_in (drop i s) else []

pub record NameEnd (s : List ℕ) (b e : ℕ) : Type 0 where
  pub past : b ≤ e
  pub good : e ≤ length s → names_from s b ≡ read_as (slice b e s) ∷ names_from s (e + 1)
  pub bad : length s < e → every is_name (names_from s b) ≡ false
