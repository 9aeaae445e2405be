-- What "whole" asks of what a collection holds, as one test. No promise cites it: what it asks of the lent bytes is `whole_at` of crate `store`,
-- from which it follows there (`held_whole`).
--
--   whole h            all that is held is in order
use Rattle.std.specs.Prelude.{Bool, ◌&&◌, leb, eqb, length}
use Rattle.trees.specs.Plain.{every}
use Rattle.trees.specs.Consensus.{recorded}
use Rattle.trees.specs.Held.{Held}
use Rattle.trees.specs.Whole.{good_tree, good_lengths, good_lane, good_opening}

-- "rooms hold": trees and splits are no more than their rooms; and there are as many lanes as the opening says
unfoldable pub whole : Held → Bool
unfolding every good_opening good_tree good_lengths good_lane recorded
whole h =
    good_opening h.opening
    && (every (good_tree h.opening.numbers.taxa) h.trees
    && (good_lengths h.opening.numbers.kept h.trees h.lengths
    && (leb (length h.trees) h.opening.numbers.tree_room
    && (leb (length (recorded h.trees)) h.opening.numbers.split_room
    && (eqb (length h.texts) h.opening.numbers.lanes && every good_lane h.texts)))))
