-- The calls of the summary on an input that comes in pieces. Nothing here speaks of code: a step is whatever the call's promise allows.
--
--   whole ps                     the pieces ps, one behind another
--   Takes a names s ps b after t     taking the pieces ps one by one, from the state a, the buffer names and the lent bytes s to b, after and t
--   LinesGiven answer s from ps     asking for the lines from number `from` on, and for those behind the ones that are given, up to a refusal,
--                                each time into a buffer of 8,192 bytes or more, gives the bytes ps
--   Summarised names lent ps printed     what is printed when the calls are made in order: begin, take the pieces ps, finish, the lines
use Rattle.std.specs.Prelude.{ℕ, ◌+◌, ◌≤◌, ◌≡◌, length, take, Result, Ok, Err}
use mathlib.Core.List.{List, [], ◌∷◌, flat_map}
use Rattle.answers.specs.declared.Refusal.{Refusal}
use Rattle.summary.specs.declared.Summing.{Summing}
use Rattle.summary.specs.Summing.{BegunAs, TookAs, FinishedAs, PrintedAs}

unfoldable pub whole : List (List ℕ) → List ℕ
unfolding flat_map
whole ps = flat_map (λ p. p) ps

unfoldable pub Takes : Summing → List ℕ → List ℕ → List (List ℕ) → Summing → List ℕ → List ℕ → Type 0
Takes a names s [] b after t = (b ≡ a) × (after ≡ names) × (t ≡ s)
Takes a names s (p ∷ ps) b after t = (c : Summing) × (m : List ℕ) × (u : List ℕ) × TookAs a names s p c m u × Takes c m u ps b after t

unfoldable pub LinesGiven : Result ℕ Refusal → List ℕ → ℕ → List (List ℕ) → Type 0
LinesGiven answer s from [] = (w : Refusal) × (out : List ℕ) × (after : List ℕ) × (8192 ≤ length out) × PrintedAs answer s from (Err w) out after
LinesGiven answer s from (p ∷ ps) =
    (bytes : ℕ) × (lines : ℕ) × (out : List ℕ) × (after : List ℕ)
    × (8192 ≤ length out)
    × PrintedAs answer s from (Ok (bytes, lines)) out after
    × (p ≡ take bytes after)
    × LinesGiven answer s (from + lines) ps

pub record Summarised (names lent : List ℕ) (ps : List (List ℕ)) (printed : List ℕ) : Type 0 where
  pub first : Summing
  pub begins : BegunAs names lent first
  pub last : Summing
  pub kept : List ℕ
  pub store : List ℕ
  pub takes : Takes first names lent ps last kept store
  pub answer : Result ℕ Refusal
  pub sheet : List ℕ
  pub finishes : FinishedAs last kept store answer sheet
  pub parts : List (List ℕ)
  pub prints : LinesGiven answer sheet 0 parts
  pub all : printed ≡ whole parts
