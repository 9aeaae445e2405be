use Prim.Native.Nat.{◌+◌, ◌-◌}
use mathlib.Core.Path.{◌≡◌, refl, sym, ap, ◌∙◌}
use native.Mathlib.Omega.{arith}
use mathlib.Core.List.{[]}
use lib.ListN.{get_or, replicate, length-set}
use Rattle.trees.specs.NexusCall.{keys_of}
use Rattle.head.specs.Index.{key}
use Rattle.head.specs.IndexLaws.{index-none, index-more, index-all}
use Rattle.nexus.specs.Commands.{pairs_in}
use Rattle.nexus.specs.KeyLaws.{key-slice, keys_length, keys-at}
use Rattle.nexus.proofs.keys.index_keys.Goals as goal

pub loop-i-init : goal.loop-i-init
loop-i-init c =
    let a = c.args in
    let n = keys_length a.list.now a.places.now a.n in
    (omega arith, refl, refl, rw n at (index-none (keys_of (pairs_in a.list.now a.n a.places.now)) (replicate 64 0)))

pub key_of-k-requires : goal.key_of-k-requires
key_of-k-requires c =
    let p = c.requires in
    let h = p.keys (c.loop-i.i - 1) (omega arith) in record { b_le_e = omega arith; e_in_bounds = omega arith }

pub bounds-links-i : goal.bounds-links-i
bounds-links-i c = omega (arith, c.requires.few)

pub overflow_cast-starts : goal.overflow_cast-starts
overflow_cast-starts c = omega (arith, c.requires.few)

pub loop-i-preserved : goal.loop-i-preserved
loop-i-preserved c =
    let s = c.args.list.now in
    let ps = c.args.places.now in
    let l = c.loop-i in
    let v = c.loop-i.invariant in
    let n = keys_length s ps c.args.n in
    let i = l.i - 1 in
    let h = c.requires.keys i (omega arith) in
    let t = c.key_at-t.ensures in
    let p : l.i ≡ i + 1 = omega arith in
    let q : key (get_or (keys_of (pairs_in s c.args.n ps)) i []) ≡ c.key_of-k.result =
    ap key (keys-at s ps c.args.n i (omega arith) ∙ key-slice s ps i _ _ t.0 t.1 (omega arith)) ∙ sym c.key_of-k.ensures.0 in (
      omega arith,
      simp length-set v.1,
      simp length-set v.2,
      index-more _ i _ l.starts l.links (omega arith) q v.1 (omega arith) (rw p at v.3),
    )

pub returns : goal.returns
returns c =
    let z : c.loop-i.i ≡ 0 = omega arith in
    index-all _ _ _ (rw z at c.loop-i.invariant.3)
