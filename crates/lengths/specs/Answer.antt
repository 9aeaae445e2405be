-- The answer of `length_of`, as crate trees has it.
--
--   value_given r   the value of a length; none outside the exact range
use Rattle.std.proofs.Math.Option.{Option, none, some}
use Rattle.std.specs.Prelude.{Float, None, Some, Option as CodeOption}

unfoldable pub value_given : CodeOption Float → Option Float
value_given None = none
value_given (Some x) = some x
