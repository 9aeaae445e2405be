-- `newick::leaves::add_taxon` meets its contract. Assumes nothing.
use Rattle.std.proofs.Common.{arith}
use Rattle.newick.proofs.TaxonLaws.{taxon-64, place-small, added-below, added-over}
use Rattle.newick.proofs.leaves.add_taxon.Goals as goal

pub only_taxon-requires : goal.only_taxon-requires
only_taxon-requires c = taxon-64 _ c.requires.head_bytes_in_bounds.1 _ c.requires.t_bound

pub second_constant-requires : goal.second_constant-requires
second_constant-requires c = record { head_bytes_in_bounds = c.requires.head_bytes_in_bounds.0; i_bound = taxon-64 _ c.requires.head_bytes_in_bounds.1 _ c.requires.t_bound }

pub first_constant-requires : goal.first_constant-requires
first_constant-requires c = record { head_bytes_in_bounds = c.requires.head_bytes_in_bounds.0; i_bound = taxon-64 _ c.requires.head_bytes_in_bounds.1 _ c.requires.t_bound }

pub overflow_add-place : goal.overflow_add-place
overflow_add-place c =
    let l = place-small _ c.requires.head_bytes_in_bounds.1 _ _ c.requires.t_bound c.requires.t_value c.requires.hashed in
    let q = c.first_constant.ensures.upper_bound in
    omega arith

pub returns-then-place-m : goal.returns-then-place-m
returns-then-place-m c =
    let whole = added-below _ c.requires.head_bytes_in_bounds.1 _ _ c.requires.t_bound c.requires.t_value c.requires.hashed _ _ _ _ _ _ c.only_taxon.ensures c.union_of-mask.ensures
    c.second_constant.ensures c.wrapping_add_u64-identifier.ensures.value c.first_constant.ensures.value
    c.places-m.ensures.value c.if-place-m.true in record { mask_value = whole.0; hashed_2 = whole.1 }

pub returns : goal.returns
returns c =
    let whole = added-over _ c.requires.head_bytes_in_bounds.1 _ _ c.requires.t_bound c.requires.t_value c.requires.hashed _ _ _ _ _ _ c.only_taxon.ensures c.union_of-mask.ensures
    c.second_constant.ensures c.wrapping_add_u64-identifier.ensures.value c.first_constant.ensures.value
    c.places-m.ensures.value c.if-place-m.false in record { mask_value = whole.0; hashed_2 = whole.1 }
