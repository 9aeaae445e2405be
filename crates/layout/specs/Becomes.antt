-- What a step inside a call makes of lent bytes.
--
--   Becomes s p t     the lent bytes t have the parts p, and of s the opening, the length and what lies behind the store
use Rattle.std.specs.Prelude.{ℕ, ◌≤◌, ◌≡◌, List, length, get_or}
use Rattle.head.specs.Head.{opening_at}
use Rattle.layout.specs.Store.{size_at, Parts, parts_at}

pub record Becomes (s : List ℕ) (p : Parts) (t : List ℕ) : Type 0 where
  pub parts : parts_at t ≡ p
  pub opening : opening_at t ≡ opening_at s
  pub size : length t ≡ length s
  pub behind : (i : ℕ) → size_at s ≤ i → get_or t i 0 ≡ get_or s i 0
