-- What reading a label leaves.
--
--   opens_quotes w                        the bytes w begin with a quote
--   ReadUpTo most before at w r after    the bytes w that a label is read as were stored from `at` on, as far as `most` of them, and r
--                                        says how many they are: one more than `most`, if they are more
--   ReadInto before at w r after         so they were, as far as a name reaches
--   Reading most before at w out n v     halfway: n bytes are stored, and v are left
use Rattle.std.specs.Prelude.{ℕ, ◌+◌, ◌-◌, ◌≤◌, min, ◌≡◌, Bool, false, List, [], ◌∷◌, eqb, length, take}
use Rattle.std.proofs.lemmas.List.Edits.{sets}
use Rattle.trees.specs.Text.{apostrophe}
use Rattle.trees.specs.Names.{most_name}

unfoldable pub opens_quotes : List ℕ → Bool
opens_quotes [] = false
opens_quotes (b ∷ w) = eqb b apostrophe

pub record ReadUpTo (most : ℕ) (before : List ℕ) (at : ℕ) (w : List ℕ) (r : ℕ) (after : List ℕ) : Type 0 where
  pub stored : after ≡ sets before at (take most w)
  pub counted : r ≡ min (length w) (most + 1)

abbrev pub ReadInto : List ℕ → ℕ → List ℕ → ℕ → List ℕ → Type 0
ReadInto before at w r after = ReadUpTo most_name before at w r after

pub record Reading (most : ℕ) (before : List ℕ) (at : ℕ) (w out : List ℕ) (n : ℕ) (v : List ℕ) : Type 0 where
  pub room : length out ≡ length before
  pub within : n ≤ most
  pub stored : sets before at (take most w) ≡ sets out (at + n) (take (most - n) v)
  pub counted : length w ≡ n + length v
