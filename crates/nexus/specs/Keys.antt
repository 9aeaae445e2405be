-- The keys of a list, looked up.
--
--   key_in s ps i         the key of pair i, whose places are ps, in the list s
--   FoundAs ks w r       the look for the token w among the keys ks answers r: its number, or none
use Rattle.std.specs.Prelude.{ℕ, ◌+◌, ◌*◌, ◌<◌, ◌≡◌, List, get_or, length, Option as CodeOption, Some, None}
use Rattle.std.proofs.Math.Option.{none, some}
use Rattle.trees.specs.Names.{taxon_from}
use Rattle.nexus.specs.Places.{part}

abbrev pub key_in : List ℕ → List ℕ → ℕ → List ℕ
key_in s ps i = part (get_or ps (4 * i) 0) (get_or ps (4 * i + 1) 0) s

unfoldable pub FoundAs : List (List ℕ) → List ℕ → CodeOption ℕ → Type 0
FoundAs ks w (Some i) = (i < length ks) × (taxon_from 0 ks w ≡ some i)
FoundAs ks w None = taxon_from 0 ks w ≡ none
