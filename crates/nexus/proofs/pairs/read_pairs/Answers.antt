use Prim.Native.Nat.{◌+◌, ◌*◌, ◌≤◌, ◌<◌}
use mathlib.Core.Path.{ap, ◌∙◌}
use borrow.Author.Rules.{rules}
use native.Mathlib.Omega.{arith}
use lib.ListN.{length}
use Rattle.trees.specs.Nexus.{most_keys}
use Rattle.nexus.specs.PairLaws.{list-none, list-stray}
use Rattle.nexus.specs.PlacedLaws.{placed-length}
use Rattle.nexus.specs.ReadPairsLaws.{read_none, read-fault, read-many, read-last, read_more}
use Rattle.nexus.proofs.pairs.read_pairs.Goals as goal

pub loop-n-init : goal.loop-n-init
loop-n-init c = (read_none _ _ _ c.requires.from_in_bounds, search rules)

pub first_token-key-requires : goal.first_token-key-requires
first_token-key-requires c = c.loop-n.invariant.0.here

pub first_label-name-requires : goal.first_label-name-requires
first_label-name-requires c = c.first_token-key.ensures.within

pub shape_of-places-then-is_none : goal.shape_of-places-then-is_none
shape_of-places-then-is_none c = c.loop-n.invariant.1

pub returns-then-is_none : goal.returns-then-is_none
returns-then-is_none c =
    let l = c.loop-n in
    let k = c.first_token-key in
    let v = c.first_label-name in record { pairs_as = read-fault _ _ _ _ _ l.invariant.0 _ (list-none _ _ _ _ k.ensures v.ensures (c.is_none.ensures.none c.if-is_none.true)); places_len_unchanged = l.invariant.1 }

pub put_pair-requires : goal.put_pair-requires
put_pair-requires c =
    let l = c.loop-n in
    let h : 4 * l.n + 4 ≤ length l.places = omega arith in
    h

pub skip-end-requires : goal.skip-end-requires
skip-end-requires c = c.first_label-name.ensures.within

pub shape_of-places-then-end-c : goal.shape_of-places-then-end-c
shape_of-places-then-end-c c =
    let l = c.loop-n in
    let k = c.first_token-key in
    let v = c.first_label-name in
    let put = c.put_pair.ensures in
    ap length put ∙ placed-length l.places l.n k.result v.result ∙ l.invariant.1

pub returns-then-end-c : goal.returns-then-end-c
returns-then-end-c c =
    let l = c.loop-n in
    let k = c.first_token-key in
    let v = c.first_label-name in
    let put = c.put_pair.ensures in
    let two = c.is_none.ensures.both c.if-is_none.false in
    let few : l.n < most_keys = c.loop-n-test.true in
    let room : 4 * l.n + 4 ≤ length l.places = omega arith in record { pairs_as = read-last _ _ _ _ _ l.invariant.0 _ _ _ _ few room k.ensures v.ensures two c.skip-end.ensures put c.if-end-c.true; places_len_unchanged = ap length put ∙ placed-length l.places l.n k.result v.result ∙ l.invariant.1 }

pub shape_of-places-then-c-end-ne44 : goal.shape_of-places-then-c-end-ne44
shape_of-places-then-c-end-ne44 c =
    let l = c.loop-n in
    let k = c.first_token-key in
    let v = c.first_label-name in
    let put = c.put_pair.ensures in
    ap length put ∙ placed-length l.places l.n k.result v.result ∙ l.invariant.1

pub returns-then-c-end-ne44 : goal.returns-then-c-end-ne44
returns-then-c-end-ne44 c =
    let l = c.loop-n in
    let k = c.first_token-key in
    let v = c.first_label-name in
    let put = c.put_pair.ensures in
    let two = c.is_none.ensures.both c.if-is_none.false in record {
      pairs_as = read-fault _ _ _ _ _ l.invariant.0 _
          (list-stray _ _ _ _ k.ensures v.ensures two _ c.skip-end.ensures (search rules) c.if-c-end-ne44.true);
      places_len_unchanged = ap length put ∙ placed-length l.places l.n k.result v.result ∙ l.invariant.1;
    }

pub loop-n-preserved : goal.loop-n-preserved
loop-n-preserved c =
    let l = c.loop-n in
    let k = c.first_token-key in
    let v = c.first_label-name in
    let put = c.put_pair.ensures in
    let two = c.is_none.ensures.both c.if-is_none.false in
    let few : l.n < most_keys = c.loop-n-test.true in
    let room : 4 * l.n + 4 ≤ length l.places = omega (arith, l.invariant.1, c.requires.most_keys_in_bounds) in (
      read_more _ _ _ _ _ l.invariant.0 _ _ _ _ few room k.ensures v.ensures two c.skip-end.ensures put
          (search rules) c.if-c-end-ne44.false,
      ap length put ∙ placed-length l.places l.n k.result v.result ∙ l.invariant.1,
    )

pub shape_of-places : goal.shape_of-places
shape_of-places c = c.loop-n.invariant.1

pub returns : goal.returns
returns c = record { pairs_as = read-many _ _ _ _ _ c.loop-n.invariant.0 _ c.loop-n-test.false; places_len_unchanged = c.loop-n.invariant.1 }
