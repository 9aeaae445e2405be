-- Names, as they are written.
--
--   is_plain w     no byte of the name w wants quotes
use Rattle.std.specs.Prelude.{ℕ, Bool, not, List}
use Rattle.trees.specs.Plain.{every}
use Rattle.trees.specs.Written.{wants_quotes}

unfoldable pub is_plain : List ℕ → Bool
unfolding every wants_quotes
is_plain w = every (λ b. not (wants_quotes b)) w
