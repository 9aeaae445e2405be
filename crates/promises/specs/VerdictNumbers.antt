-- Verdicts as numbers. Assumes nothing.
--
--   Small v, verdict-small       a verdict that is a refusal has a number of the table
--   Settled a, finished-settled  an answer that is a verdict, and whose number says which
--   settled-read                 it is read back from its number
use Rattle.std.specs.Prelude.{ℕ, ◌+◌, ◌-◌, ◌≤◌, ◌<◌, ◌≡◌, refl, Bool, true, false, List, ◌∷◌, ltb, eqb, length, if◌then◌else◌}
use Rattle.std.proofs.Common.{arith, inl, inr, lt-ltb, le-ltb}
use Rattle.trees.specs.Plain.{Answer, refused, gives}
use Rattle.trees.specs.Verdict.{Branches, judged_with}
use Rattle.trees.specs.Consensus.{recorded}
use Rattle.trees.specs.Held.{Held, Lane, holding, overrun, new_splits, room_for, with_room, verdict, Progress, more_wanted, accepted, finished}
use Rattle.trees.specs.Batch.{verdict_number}
use Rattle.trees.specs.Runs.{Heard, fed, finals}
use Rattle.theorems.specs.VerdictLaws.{refusal-numbers}
use Rattle.theorems.specs.FaultLaws.{judged-refuses}
use Rattle.theorems.specs.LengthVerdictLaws.{WithRefusal, with-refuses}
use Rattle.promises.specs.Calls.{verdict_of}

-- a refusal by verdict has a number of the table
abbrev pub Small : Answer Branches → Type 0
Small (refused k) = k ≤ 17
Small (gives b) = Unit {0}

room_small : (b c : Bool) (t : Branches) → Small (if b then refused 11 else if c then refused 12 else gives t)
room_small true c t = omega arith
room_small false true t = omega arith
room_small false false t = tt

held-room-small : (h : Held) (t : Branches) → Small (room_for h t)
unfolding room_for
held-room-small h t =
    room_small (eqb (length h.trees) h.opening.numbers.tree_room)
    (ltb h.opening.numbers.split_room (length (recorded h.trees) + length (new_splits h t.splits))) t

-- 7 to 10, or 17
text-small : (kept : ℕ) (ns : List (List ℕ)) (s : List ℕ) (k : ℕ) → WithRefusal kept ns s k → k ≤ 17
text-small kept ns s k (inl r) = omega (arith, (refusal-numbers ns s k ((judged-refuses ns s k).1 r)).1)
text-small kept ns s k (inr r) = omega (arith, r.0)

pub verdict-small : (h : Held) (x : Lane) → Small (verdict h x)
unfolding verdict with_room
verdict-small h (overrun q) = omega arith
verdict-small h (holding s) = go (judged_with kept ns s) refl
  where
    kept : ℕ
    kept = h.opening.numbers.kept

    ns : List (List ℕ)
    ns = h.opening.names

    go : (a : Answer Branches) → judged_with kept ns s ≡ a → Small (with_room h a)
    go (refused k) e = text-small kept ns s k ((with-refuses kept ns s k).0 e)
    go (gives t) e = held-room-small h t

-- an answer that is a verdict, and whose number says which
abbrev pub Settled : Answer Progress → Type 0
Settled (refused k) = k < 256
Settled (gives more_wanted) = ⊥
Settled (gives (accepted t)) = Unit {0}

pub finished-settled : (h : Held) (v : Answer Branches) → Small v → Settled (finished h v)
unfolding finished
finished-settled h (refused k) s = omega arith
finished-settled h (gives t) s = tt

pub settled-read : (n : ℕ) (a : Answer Progress) → Settled a → (rest : List Heard) → finals (fed n a ∷ rest) ≡ verdict_of (verdict_number a) ∷ finals rest
unfolding finals verdict_of verdict_number
settled-read n (refused k) s rest = rw (lt-ltb k 256 s)
settled-read n (gives more_wanted) s rest = absurd s
settled-read n (gives (accepted t)) s rest =
    let e : 256 + t - 256 ≡ t = omega arith in
    let d : ltb (256 + t) 256 ≡ false = le-ltb (256 + t) 256 (omega arith) in
    rw (d, e)
