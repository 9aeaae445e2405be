-- What is answered of lent bytes and a text that is claimed to be their majority tree.
--
--   claim_asked s t     1 where the lent bytes s are not whole, else what crate trees says of what they hold and the text t
use Rattle.std.specs.Prelude.{ℕ, List}
use Rattle.trees.specs.Plain.{Answer}
use Rattle.trees.specs.Claim.{Claimed, claim_of}
use Rattle.store.specs.Lent.{if_whole}

abbrev pub claim_asked : List ℕ → List ℕ → Answer Claimed
claim_asked s t = if_whole s (λ h. claim_of h t)
