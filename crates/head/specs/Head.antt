-- The head of a store: its first 4,096 bytes, which hold the numbers, names and constants of the opening. docs/STORE.md has every byte.
--
--   up_to f n         the list f 0, f 1, .. of n elements
--   numbers_at s      the opening's numbers
--   name_at s i       the name of taxon i
--   names_at s        the names, in list order
--   first_at s, second_at s     the two lists of constants
--   opening_at s      all of it
use Rattle.std.specs.Prelude.{ℕ, zero, suc, ◌+◌, ◌*◌, List, [], ◌∷◌, take, drop, slice_index}
use Rattle.trees.specs.Opening.{Numbers, Opening}
use Rattle.fields.specs.Field.{number}

-- f k, f (k + 1), .. of n elements
unfoldable pub from_to : {A : Type 0} → (ℕ → A) → ℕ → ℕ → List A
from_to f k zero = []
from_to f k (suc n) = f k ∷ from_to f (suc k) n

unfoldable pub up_to : {A : Type 0} → (ℕ → A) → ℕ → List A
unfolding from_to
up_to f n = from_to f 0 n

-- six numbers of two bytes each; those of trees and splits held stand before the last
unfoldable pub numbers_at : List ℕ → Numbers
unfolding number
numbers_at s = record { taxa = number 2 s 0; lanes = number 2 s 2; tree_room = number 2 s 4; split_room = number 2 s 6; places = number 2 s 8; kept = number 2 s 14 }

-- 64 places of 33 bytes: a byte for the name's length, then the name
unfoldable pub name_at : List ℕ → ℕ → List ℕ
name_at s i = take (slice_index s (16 + 33 * i)) (drop (17 + 33 * i) s)

unfoldable pub names_at : List ℕ → List (List ℕ)
unfolding up_to name_at number
names_at s = up_to (name_at s) (number 2 s 0)

-- two bytes a constant
unfoldable pub first_at : List ℕ → List ℕ
unfolding up_to number
first_at s = up_to (λ i. number 2 s (2128 + 2 * i)) (number 2 s 0)

-- eight bytes a constant
unfoldable pub second_at : List ℕ → List ℕ
unfolding up_to number
second_at s = up_to (λ i. number 8 s (2256 + 8 * i)) (number 2 s 0)

unfoldable pub opening_at : List ℕ → Opening
unfolding numbers_at names_at first_at second_at
opening_at s = record { numbers = numbers_at s; names = names_at s; first = first_at s; second = second_at s }
