use Rattle.std.proofs.Common.{◌≡◌, ℕ, ◌-◌, ◌≤◌, Bool, List, [], get_or, sym, ◌∙◌, arith}
use lib.Seq.{slice}
use Rattle.trees.specs.Plain.{same_bytes}
use Rattle.head.specs.Head.{numbers_at, name_at, names_at}
use Rattle.head.specs.HeadLaws.{names-length, names-at}
use Rattle.head.specs.Index.{Sought}
use Rattle.head.specs.FindLaws.{sought-start, sought-next, sought-here, sought-out, sought-less}
use Rattle.head.proofs.find_name.Goals as goal

-- an entry is at most the number of taxa
some-entry : (s w : List ℕ) (n : ℕ) → Sought (names_at s) w n → (n ≤ (numbers_at s).taxa) × Sought (names_at s) w n
some-entry s w n p = (omega (arith, p.within, names-length s), p)

-- the name that was compared
compared : (s w : List ℕ) (n : ℕ) (r t : Bool) → (n ≡ 0 → ⊥) → n ≤ (numbers_at s).taxa → r ≡ same_bytes (name_at s (n - 1)) w → r ≡ t
    → same_bytes (get_or (names_at s) (n - 1) []) w ≡ t
compared s w n r t z l p q = rw (names-at s (n - 1) (omega arith)) (sym p ∙ q)

pub loop-number-init : goal.loop-number-init
loop-number-init c =
    let a = c.args in
    let x = c.requires.indexed in
    let w = slice a.b a.e a.text.now in
    some-entry _ w _ (rw c.key_of-k.ensures.0 (sought-start _ w _ _ x))

pub name_is-requires : goal.name_is-requires
name_is-requires c = record { head_bytes_in_bounds = omega arith; i_bound = omega arith; b_le_e = omega arith; e_in_bounds = omega arith }

pub returns-then-name_is : goal.returns-then-name_is
returns-then-name_is c =
    let a = c.args in
    let l = c.loop-number in
    let z = c.loop-number-test.true in
    let w = slice a.b a.e a.text.now in
    let q = compared a.s.now w l.number _ _ z l.invariant.0 c.name_is.ensures c.if-name_is.true in
    sought-here _ w _ l.invariant.1 z q

pub loop-number-smaller : goal.loop-number-smaller
loop-number-smaller c =
    let a = c.args in
    let x = c.requires.indexed in
    let l = c.loop-number in
    let n = names-length a.s.now in
    sought-less _ _ _ _ x _ l.invariant.1 c.loop-number-test.true (omega arith)

pub loop-number-preserved : goal.loop-number-preserved
loop-number-preserved c =
    let a = c.args in
    let x = c.requires.indexed in
    let l = c.loop-number in
    let z = c.loop-number-test.true in
    let w = slice a.b a.e a.text.now in
    let q = compared a.s.now w l.number _ _ z l.invariant.0 c.name_is.ensures c.if-name_is.false in
    some-entry _ w _ (sought-next _ w _ _ x _ l.invariant.1 z q)

pub returns : goal.returns
returns c =
    let a = c.args in
    let w = slice a.b a.e a.text.now in
    sought-out _ w _ c.loop-number.invariant.1 c.loop-number-test.false
