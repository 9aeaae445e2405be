use Prim.Native.Nat.{ℕ, ◌≤◌, ◌-◌}
use mathlib.Core.Path.{◌≡◌, sym, ap, ◌∙◌}
use mathlib.Core.Bool.{Bool}
use mathlib.Core.List.{List, []}
use native.Mathlib.Omega.{arith}
use lib.ListN.{get_or}
use Rattle.trees.specs.Plain.{same_bytes}
use Rattle.trees.specs.NexusCall.{keys_of}
use Rattle.head.specs.Index.{key, Sought}
use Rattle.head.specs.FindLaws.{sought-start, sought-next, sought-less}
use Rattle.nexus.specs.Places.{part}
use Rattle.nexus.specs.Commands.{pairs_in}
use Rattle.nexus.specs.Keys.{key_in}
use Rattle.nexus.specs.KeyLaws.{part_slice, keys_length, keys-at, found_here, found-out}
use Rattle.nexus.proofs.keys.find_key.Goals as goal

-- an entry is at most the number of pairs
some-entry : (s ps w : List ℕ) (n i : ℕ) → Sought (keys_of (pairs_in s n ps)) w i → (i ≤ n) × Sought (keys_of (pairs_in s n ps)) w i
some-entry s ps w n i p = (omega (arith, p.within, keys_length s ps n), p)

-- the key that was compared
compared : (s ps w : List ℕ) (n i : ℕ) (r t : Bool) → (i ≡ 0 → ⊥) → i ≤ n → r ≡ same_bytes (key_in s ps (i - 1)) w → r ≡ t
    → same_bytes (get_or (keys_of (pairs_in s n ps)) (i - 1) []) w ≡ t
compared s ps w n i r t z l p q = ap (λ v. same_bytes v w) (keys-at s ps n (i - 1) (omega arith)) ∙ sym p ∙ q

pub loop-number-init : goal.loop-number-init
loop-number-init c =
    let a = c.args in
    let w = part a.b a.e a.text.now in
    let k : c.key_of-k.result ≡ key w =
    c.key_of-k.ensures.0 ∙ ap key (sym (part_slice a.text.now a.b a.e (omega arith))) in
    some-entry _ _ w _ _ (rw k (sought-start _ w _ _ c.requires.indexed))

pub is_key-requires : goal.is_key-requires
is_key-requires c =
    let z = c.loop-number-test.true in
    let v = c.loop-number.invariant.0 in
    let p = c.requires.placed in record { i_in_bounds = omega (arith, p.reach); i_bound = p.keys (c.loop-number.number - 1) (omega arith); b_le_e = omega arith; e_in_bounds = omega arith }

pub returns-then-is_key : goal.returns-then-is_key
returns-then-is_key c =
    let a = c.args in
    let l = c.loop-number in
    let z = c.loop-number-test.true in
    let w = part a.b a.e a.text.now in
    let q = compared a.list.now a.places.now w _ _ _ _ z l.invariant.0 c.is_key.ensures c.if-is_key.true in found_here _ w _ l.invariant.1 z q

pub bounds-links-i : goal.bounds-links-i
bounds-links-i c =
    let p = c.requires.placed in
    omega (arith, p.few, c.loop-number.invariant.0)

pub loop-number-smaller : goal.loop-number-smaller
loop-number-smaller c =
    let a = c.args in
    let l = c.loop-number in
    let n = keys_length a.list.now a.places.now a.n in
    let f = c.requires.placed.few in
    sought-less _ _ _ _ c.requires.indexed _ l.invariant.1 c.loop-number-test.true (omega arith)

pub loop-number-preserved : goal.loop-number-preserved
loop-number-preserved c =
    let a = c.args in
    let l = c.loop-number in
    let z = c.loop-number-test.true in
    let w = part a.b a.e a.text.now in
    let q = compared a.list.now a.places.now w _ _ _ _ z l.invariant.0 c.is_key.ensures c.if-is_key.false in
    some-entry _ _ w _ _ (sought-next _ w _ _ c.requires.indexed _ l.invariant.1 z q)

pub returns : goal.returns
returns c = found-out _ _ _ c.loop-number.invariant.1 c.loop-number-test.false
