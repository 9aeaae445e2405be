use Rattle.std.proofs.Common.{◌<◌, refl, ◌∙◌, arith, length-set}
use Rattle.records.specs.Records.{masks_of}
use Rattle.records.specs.RecordLaws.{masks-length}
use Rattle.newick.proofs.PlacedLaws.{cleared-placed, placing-done, placing-skip, placing-has, placing-ready, placing-put}
use Rattle.newick.proofs.placing.place_lengths.Goals as goal

pub clear-requires : goal.clear-requires
clear-requires c = c.requires.k_in_bounds.1

pub loop-j-init : goal.loop-j-init
loop-j-init c = (omega arith, refl, cleared-placed _ _ _ _ _ _ _ _ c.clear.ensures)

pub side_of-m-requires : goal.side_of-m-requires
side_of-m-requires c =
    let below : c.loop-j.j < c.args.n = omega arith in
    let rises = c.requires.taxa_bound.2.rises c.loop-j.j below in
    let within = c.requires.taxa_bound.2.within c.loop-j.j below in record { taxa_bound = (c.requires.taxa_bound.0, c.requires.placeable.small c.loop-j.j below); j_bound = (omega arith, omega arith, omega arith) }

pub loop-j-preserved-then-not-is_proper : goal.loop-j-preserved-then-not-is_proper
loop-j-preserved-then-not-is_proper c =
    let v = c.loop-j.invariant in
    (omega arith, v.1, placing-skip _ _ _ _ _ _ c.requires.placeable _ (omega arith) _ c.side_of-m.ensures _ _ v.2 _ c.is_proper.ensures c.if-not-is_proper.true-raw)

pub find_record-i-requires : goal.find_record-i-requires
find_record-i-requires c = record { k_in_bounds = c.requires.k_in_bounds.0; rising = c.requires.placeable.rises; mem = placing-has _ _ _ _ _ _ c.requires.placeable _ (omega arith) _ c.side_of-m.ensures _ _ c.loop-j.invariant.2 _ c.is_proper.ensures c.if-not-is_proper.false-raw }

pub bounds-out-i : goal.bounds-out-i
bounds-out-i c = omega (arith, c.find_record-i.ensures.0, c.requires.k_in_bounds.1, c.loop-j.invariant.1, c.clear.auto.out)

pub with_length-requires : goal.with_length-requires
with_length-requires c = let r = c.find_record-i.ensures in let whole = placing-ready _ _ _ _ _ _ c.requires.placeable _ (omega arith) _ c.side_of-m.ensures _ _ c.loop-j.invariant.2 _ (omega (arith, r.0, masks-length c.args.k c.args.records.now)) r.1 in record { fact = whole.0; read_word = whole.1 }

pub bounds-out-i-in-loop-j : goal.bounds-out-i-in-loop-j
bounds-out-i-in-loop-j c = omega (arith, c.find_record-i.ensures.0, c.requires.k_in_bounds.1, c.loop-j.invariant.1, c.clear.auto.out)

pub loop-j-preserved : goal.loop-j-preserved
loop-j-preserved c =
    let r = c.find_record-i.ensures in (
      omega arith,
      length-set c.loop-j.out c.find_record-i.result c.with_length.result ∙ c.loop-j.invariant.1,
      placing-put _ _ _ _ _ _ c.requires.placeable _ (omega arith) _ c.side_of-m.ensures _ _ c.loop-j.invariant.2 _ (omega (arith, r.0, masks-length c.args.k c.args.records.now)) r.1 _
          c.with_length.ensures,
    )

pub shape_of-out : goal.shape_of-out
shape_of-out c = c.loop-j.invariant.1 ∙ c.clear.auto.out

pub returns : goal.returns
returns c =
    let a = c.args in
    placing-done a.taxa a.sums.now a.nodes.now a.words.now (masks_of a.k a.records.now) c.loop-j.j a.n a.k _ _ a.out.now (omega arith) c.clear.ensures c.loop-j.invariant.2
