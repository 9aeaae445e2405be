-- Bytes that are stored one after another, as far as there is room.
--
--   Put before at w after e         the bytes w were stored from `at` up to e
--   Putting before at w out e v     halfway: the bytes v are left, to be stored from e on
use Rattle.std.specs.Prelude.{ℕ, ◌+◌, ◌≡◌, List, length}
use Rattle.std.proofs.lemmas.List.Edits.{sets}

pub record Put (before : List ℕ) (at : ℕ) (w after : List ℕ) (e : ℕ) : Type 0 where
  pub stored : after ≡ sets before at w
  pub ends : e ≡ at + length w

pub record Putting (before : List ℕ) (at : ℕ) (w out : List ℕ) (e : ℕ) (v : List ℕ) : Type 0 where
  pub room : length out ≡ length before
  pub stored : sets before at w ≡ sets out e v
  pub ends : at + length w ≡ e + length v
