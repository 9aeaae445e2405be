-- Walks along the chains of a store.
--
--   met s p              the splits met along the place p, by their rows
--   of_place s p n        the rows below n whose splits have the place p, the highest first
--   Falling l            each number is less than the one before
-- An entry is a row and one more, or 0 at a chain's end. Links fall, so as many steps as the entry is high are enough.
use Rattle.std.specs.Prelude.{ℕ, zero, suc, ◌<◌, List, [], ◌∷◌, ◌==◌, if◌then◌else◌}
use Rattle.trees.specs.Hash.{place}
use Rattle.theorems.specs.ListLaws.{Mem}
use Rattle.head.specs.Head.{numbers_at, first_at}
use Rattle.layout.specs.Store.{mask_at, link_at, start_at}
use Rattle.layout.specs.WholeStore.{place_in}

-- ---- all that are met

-- in at most f steps from an entry
unfoldable pub met_from : List ℕ → ℕ → ℕ → List ℕ
met_from s zero e = []
met_from s (suc f) zero = []
met_from s (suc f) (suc k) = k ∷ met_from s f (link_at s k)

unfoldable pub met : List ℕ → ℕ → List ℕ
unfolding met_from
met s p = met_from s (start_at s p) (start_at s p)

-- ---- what should be met

-- of the rows below n
unfoldable pub of_place : List ℕ → ℕ → ℕ → List ℕ
unfolding place first_at numbers_at
of_place s p zero = []
of_place s p (suc k) = if place_in s (mask_at s k) == p then k ∷ of_place s p k else of_place s p k

abbrev pub Falling : List ℕ → Type 0
Falling [] = Unit {0}
Falling (x ∷ l) = ((y : ℕ) → Mem y l → y < x) × Falling l
