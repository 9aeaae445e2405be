-- `table::opening_calls::clear_rest` meets its contract: first the lanes, then the places. Assumes nothing.
use Rattle.table.specs.EmptiedLaws.{head-inside, places-inside, emptied-places}
use Rattle.table.proofs.opening_calls.clear_rest.Goals as goal

pub places_from-from-requires : goal.places_from-from-requires
places_from-from-requires c = head-inside _ _ c.clear_lanes.ensures c.requires

pub places-requires : goal.places-requires
places-requires c = head-inside _ _ c.clear_lanes.ensures c.requires

pub clear_run-requires : goal.clear_run-requires
clear_run-requires c = rw (c.places_from-from.ensures.value, c.places.ensures.value) (places-inside _ _ c.clear_lanes.ensures c.requires)

pub returns : goal.returns
returns c =
    emptied-places _ _ c.clear_lanes.ensures c.requires _
    (rw (c.places_from-from.ensures.value, c.places.ensures.value) at c.clear_run.ensures)
