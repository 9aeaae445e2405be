-- What a writing leaves.
--
--   Wrote t before r after     the answer r and the bytes `after`, of the text t and the bytes `before`
use Rattle.std.specs.Prelude.{ℕ, ◌≤◌, ◌<◌, ◌≡◌, List, ◌++◌, length, drop, Option, None, Some}

-- the text and what lay behind it; or nothing, where there is too little room
unfoldable pub Wrote : List ℕ → List ℕ → Option ℕ → List ℕ → Type 0
Wrote t before (Some n) after = (n ≡ length t) × (n ≤ length before) × (after ≡ t ++ drop n before)
Wrote t before None after = (length before < length t) × (after ≡ before)
