-- The laws of the taxa that pass a test, taxon by taxon. Assumes nothing.
--
--   up-to-takes, up-to-leaves     taxon i passes, or not
--   up-to-length                  there are n taxa
use Rattle.std.specs.Prelude.{ℕ, zero, suc, ◌+◌, ◌≡◌, refl, Bool, true, false, [], ◌∷◌, ◌++◌, length, if◌then◌else◌}
use Rattle.std.proofs.Common.{add-one, arith, ◌∙◌, append-nil, length-append}
use Rattle.trees.specs.Plain.{keep}
use Rattle.trees.specs.Groups.{up_to}
use Rattle.theorems.specs.ListLaws.{keep_append}

module _ (t : ℕ → Bool) (i : ℕ) where
  step : keep t (up_to (i + 1)) ≡ keep t (up_to i) ++ (if t i then i ∷ [] else [])
  unfolding up_to keep
  step = rw (add-one i) (keep_append t (up_to i) (i ∷ []))

  pub up-to-takes : t i ≡ true → keep t (up_to (i + 1)) ≡ keep t (up_to i) ++ i ∷ []
  up-to-takes h = rw h at step

  pub up-to-leaves : t i ≡ false → keep t (up_to (i + 1)) ≡ keep t (up_to i)
  up-to-leaves h = (rw h at step) ∙ append-nil (keep t (up_to i))

pub up-to-length : (n : ℕ) → length (up_to n) ≡ n
unfolding up_to
up-to-length zero = refl
up-to-length (suc n) = omega (arith, length-append (up_to n) (n ∷ []), up-to-length n)
