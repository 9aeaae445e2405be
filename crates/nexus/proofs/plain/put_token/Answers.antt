-- `nexus::plain::put_token` meets its contract. Assumes nothing.
use mathlib.Core.Path.{subst}
use native.Mathlib.Omega.{arith}
use Rattle.nexus.specs.Places.{part}
use Rattle.nexus.specs.Keys.{FoundAs}
use Rattle.nexus.specs.KeyLaws.{part_length, name-stays, found-below, name-found}
use Rattle.nexus.specs.TextLaws.{put-kept, put-named}
use Rattle.nexus.proofs.plain.put_token.Goals as goal

pub returns-then-not-free : goal.returns-then-not-free
returns-then-not-free c = put-kept _ _ _ _ _ _ _ (c.if-not-free.true) c.put_run.ensures

pub find_key-requires : goal.find_key-requires
find_key-requires c = record { placed = c.requires.placed; indexed = c.requires.indexed; b_le_e = omega arith; e_in_bounds = omega arith }

pub returns-in_default : goal.returns-in_default
returns-in_default c =
    let a = c.args in
    let w = part a.b a.e a.raw.now in
    let l = part_length a.raw.now a.b a.e (omega arith) (omega arith) in
    let n = name-stays a.list.now a.places.now w _ (subst (FoundAs _ _) c.in_default.is c.find_key.ensures) in
    put-named _ _ w _ _ _ _ _ (c.if-not-free.false) (omega arith) n c.put_run-in_default.ensures

pub name_at-name-requires : goal.name_at-name-requires
name_at-name-requires c =
    let p = c.requires.placed in
    omega (arith, p.reach, found-below _ _ _ _ _ (subst (FoundAs _ _) c.in-Some.is c.find_key.ensures))

pub put_run-requires-2 : goal.put_run-requires-2
put_run-requires-2 c =
    let p = c.requires.placed in
    let n = p.names _ (found-below _ _ _ _ _ (subst (FoundAs _ _) c.in-Some.is c.find_key.ensures)) in
    let t = c.name_at-name.ensures in record { b_le_e = omega (arith, t.0, t.1, n.0); e_in_bounds = omega (arith, t.1, n.1); to_le_most_text = omega arith; out_len = omega arith }

pub returns : goal.returns
returns c =
    let a = c.args in
    let k = subst (FoundAs _ _) c.in-Some.is c.find_key.ensures in
    let t = c.name_at-name.ensures in
    let w = part a.b a.e a.raw.now in
    let l = part_length a.raw.now a.b a.e (omega arith) (omega arith) in
    let n = name-found a.list.now a.places.now w _ _ k _ _ t.0 t.1 in
    put-named _ _ w _ _ _ _ _ (c.if-not-free.false) (omega arith) n c.put_run-2.ensures
