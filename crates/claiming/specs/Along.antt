-- Halfway through comparing the splits of a text with the majority's.
--
--   Along least s records k i j     comparing the masks of the first k records with the splits that at least `least` trees of a store s have
--                                   answers what comparing those from record i on with those of the number j or more does
use Rattle.std.specs.Prelude.{ℕ, ◌≡◌, List, drop}
use Rattle.trees.specs.Claim.{compared}
use Rattle.records.specs.Records.{masks_of}
use Rattle.layout.specs.Store.{held_at}
use Rattle.consensus.specs.Chosen.{chosen, chosen_from}

pub record Along (least : ℕ) (s records : List ℕ) (k i j : ℕ) : Type 0 where
  pub rest : compared (masks_of k records) (chosen least (held_at s).trees) ≡ compared (drop i (masks_of k records)) (chosen_from least s j)
