-- The names of a line, counted (`name_count` of crate trees says how many they are).
--
--   taxa_of n           as many taxa as there are names; none, where they are more than there can be
--   spaces_at q b       1, where the byte b is a space outside quotes; else 0. q: whether quotes are open before it
use Rattle.std.specs.Prelude.{ℕ, Bool, Option, Some, None, not, ◌&&◌, ◌==◌, nat_lt, if◌then◌else◌}
use Rattle.trees.specs.Plain.{byte}

unfoldable pub taxa_of : ℕ → Option ℕ
taxa_of n = if nat_lt 64 n then None else Some n

unfoldable pub spaces_at : Bool → ℕ → ℕ
spaces_at q b = if not q && b == (byte " ") then 1 else 0
