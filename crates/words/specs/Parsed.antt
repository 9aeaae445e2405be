-- The answers of the readers of words, from what the definitions say.
use Rattle.std.specs.Prelude.{ℕ, None, Some, Option as CodeOption}
use Rattle.std.proofs.Math.Option.{Option, none, some}

unfoldable pub number_of : Option ℕ → CodeOption ℕ
number_of none = None
number_of (some v) = Some v
