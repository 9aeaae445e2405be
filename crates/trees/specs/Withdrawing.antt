-- Withdrawing a tree.
--
--   without_at k xs       the list xs without its element k, from 0; each one behind it moves down by one number
--   without_tree h k      what is held without tree k
--   Withdrawn            what withdrawing answers, and what is held afterwards
--   withdrawing h k      withdrawing tree k
use Rattle.std.specs.Prelude.{ℕ, zero, suc, List, [], ◌∷◌, ltb, length, if◌then◌else◌}
use Rattle.trees.specs.Plain.{Answer, refused, gives}
use Rattle.trees.specs.Held.{Held}

-- "trees after it move down by one number"
unfoldable pub without_at : {A : Type 0} → ℕ → List A → List A
without_at k [] = []
without_at zero (x ∷ xs) = xs
without_at (suc k) (x ∷ xs) = x ∷ without_at k xs

-- "Wherever these papers say accepted trees, a withdrawn one is no longer among them"; "Lanes in mid-text are untouched"
unfoldable pub without_tree : Held → ℕ → Held
unfolding without_at
without_tree h k = record { opening = h.opening; trees = without_at k h.trees; lengths = without_at k h.lengths; texts = h.texts }

pub record Withdrawn : Type 0 where
  pub answer : Answer (Unit {0})
  pub after : Held

-- "Refusals: 13 as before": no such tree
unfoldable pub withdrawing : Held → ℕ → Withdrawn
unfolding without_tree
withdrawing h k =
    if ltb k (length h.trees) then record { answer = gives tt; after = without_tree h k }
    else record { answer = refused 13; after = h }
