-- The calls on matrices in PHYLIP's layout. Neither changes what a collection holds; reading needs none. `room` is how many elements a lent buffer has.
--
--   phylip_of h room          the doubled distances of the collection's trees, written
--   read_phylip_of f room      the matrix that the text f is
use Rattle.std.specs.Prelude.{ℕ, List, map, ltb, length, if◌then◌else◌}
use Rattle.std.proofs.Math.Option.{none, some}
use Rattle.trees.specs.Plain.{Answer, refused, gives}
use Rattle.trees.specs.Distance.{doubled}
use Rattle.trees.specs.Held.{Held}
use Rattle.trees.specs.Questions.{if_room}
use Rattle.trees.specs.Phylip.{square_text, Square, square_in, symmetric}

-- "the number of trees, then for each .. its values": the doubled distances from all trees
unfoldable pub phylip_text : List (List ℕ) → List ℕ
unfolding square_text doubled
phylip_text ts = square_text (map (λ t. map (doubled t) ts) ts)

unfoldable pub phylip_of : Held → ℕ → Answer (List ℕ)
unfolding if_room phylip_text
phylip_of h room = if_room room (phylip_text h.trees)

-- "24 malformed, 25 not symmetric or diagonal not zero, in that order, then 4"
unfoldable pub read_phylip_of : List ℕ → ℕ → Answer Square
unfolding square_in symmetric
read_phylip_of f room =
    elim (square_in f) [
      | none ↦ refused 24
      | some q ↦
          if symmetric q then if ltb room (length q.values) then refused 4 else gives q
          else refused 25
    ]
