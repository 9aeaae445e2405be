-- `nexus::feed::feed_trees` meets its contract: names and keys are indexed, and the lines fed. Assumes nothing.
use Rattle.layout.specs.WholeFacts.{whole-at-facts}
use Rattle.feeding.specs.FedLaws.{few-taxa}
use Rattle.nexus.proofs.feed.feed_trees.Goals as goal

pub build_index-requires : goal.build_index-requires
build_index-requires c = record { head_bytes_in_bounds = (whole-at-facts _ c.requires.s_value).head.head-there; s_bound = few-taxa _ c.requires.s_value }

pub feed_lines-requires : goal.feed_lines-requires
feed_lines-requires c = record { s_value = c.requires.s_value; indexed = c.build_index.ensures; from_in_bounds = c.requires.from_in_bounds; lines_at = c.requires.lines_at; placed = c.requires.placed; places_value = c.requires.places_value; indexed_2 = c.index_keys.ensures; n_in_bounds = c.requires.n_in_bounds }
