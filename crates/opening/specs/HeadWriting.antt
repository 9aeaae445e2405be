-- The head of a store, written step by step.
--
--   clear s            s with every byte of its head 0
--   numbered s o       then with the numbers of the opening o
--   called s o         then with its names
--   firsts s o         then with the first list's constants
--   written s o        then with the second list's: the opening, and no other byte
use Rattle.std.specs.Prelude.{ℕ, List}
use Rattle.trees.specs.Opening.{Opening, head_bytes}
use Rattle.fields.specs.Run.{cleared}
use Rattle.opening.specs.Writing.{puts, with_names, with_numbers}

unfoldable pub clear : List ℕ → List ℕ
unfolding cleared
clear s = cleared s 0 head_bytes

unfoldable pub numbered : List ℕ → Opening → List ℕ
unfolding clear with_numbers
numbered s o = with_numbers (clear s) o.numbers

unfoldable pub called : List ℕ → Opening → List ℕ
unfolding numbered with_names
called s o = with_names (numbered s o) 0 o.names

unfoldable pub firsts : List ℕ → Opening → List ℕ
unfolding called puts
firsts s o = puts 2 (called s o) 2128 o.first

unfoldable pub written : List ℕ → Opening → List ℕ
unfolding firsts puts
written s o = puts 8 (firsts s o) 2256 o.second
