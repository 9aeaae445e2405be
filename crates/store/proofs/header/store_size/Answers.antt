-- `store::header::store_size` meets its contract. Assumes nothing.
use Rattle.std.proofs.Common.{ap, ◌∙◌, arith}
use Rattle.trees.specs.Opening.{in_range, store_size}
use Rattle.theorems.specs.OpeningLaws.{in-range}
use Rattle.layout.specs.Store.{size_at}
use Rattle.store.specs.HeaderLaws.{numbers-read}
use Rattle.store.proofs.header.store_size.Goals as goal

pub store_size-requires : goal.store_size-requires
store_size-requires c =
    let r = in-range _ c.requires.s_value in
    let e = numbers-read c.args.s.now _ _ _ _ _ _
    c.taxa.ensures.value c.lanes.ensures.value
    c.tree_room.ensures.value c.split_room.ensures.value c.places.ensures.value c.kept.ensures.value (omega (arith, r.most-kept, c.kept.ensures.value)) in
    ap in_range e ∙ c.requires.s_value

pub returns : goal.returns
unfolding size_at
returns c =
    let r = in-range _ c.requires.s_value in
    let e = numbers-read c.args.s.now _ _ _ _ _ _
    c.taxa.ensures.value c.lanes.ensures.value
    c.tree_room.ensures.value c.split_room.ensures.value c.places.ensures.value c.kept.ensures.value (omega (arith, r.most-kept, c.kept.ensures.value)) in
    c.store_size.ensures ∙ ap store_size e
