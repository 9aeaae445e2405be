-- `nexus::keyed::judge_bare` meets its contract: nothing is told, or the verdict on the plain text. Assumes nothing.
use native.Mathlib.Omega.{arith}
use Prim.Native.Nat.{min}
use mathlib.Core.Path.{◌≡◌, refl}
use Rattle.newick.specs.Leaves.{most_leaves}
use Rattle.newick.specs.ShapingLaws.{shape-tokens, shape-itself}
use Rattle.nexus.specs.Keyed.{KeyedAs}
use Rattle.nexus.specs.KeyedLaws.{keyed-tokens, keyed-shaping, keyed-short}
use Rattle.nexus.specs.NamingLaws.{named-there}
use Rattle.nexus.proofs.keyed.judge_bare.Goals as goal

pub returns-then-text-c : goal.returns-then-text-c
returns-then-text-c c = λ u s. unfold KeyedAs in refl

pub returns-then-c-gt-MOST_KEYED : goal.returns-then-c-gt-MOST_KEYED
returns-then-c-gt-MOST_KEYED c = λ u s. unfold KeyedAs in refl

-- in the answers below, p is what the function requires, l and k what was tested, x the shape that was read, and n what was noted
pub name_leaves-requires : goal.name_leaves-requires
name_leaves-requires c =
    let r = c.read_shape-c in
    let l = c.if-c-gt-MOST_KEYED.false in
    let k = c.if-text-c.false in
    let e : min r.result.leaves most_leaves ≡ r.result.leaves = omega arith in record { placed = c.requires.placed; indexed = c.requires.indexed_2; k_le_most_keyed = (omega arith, rw e at (shape-tokens _ _ _ _ _ _ r.ensures (omega arith) refl)); most_keyed_in_bounds = omega arith }

pub returns-in_err-n : goal.returns-in_err-n
returns-in_err-n c = rw c.from_residual.ensures (λ u s. unfold KeyedAs in refl)

pub overflow_sub-n : goal.overflow_sub-n
overflow_sub-n c = (named-there _ _ _ _ _ _ _ c.in_ok-n.ensures).few

pub returns-then-n-bytes : goal.returns-then-n-bytes
returns-then-n-bytes c = λ u s. unfold KeyedAs in refl

pub judge_named-requires : goal.judge_named-requires
judge_named-requires c =
    let l = c.if-c-gt-MOST_KEYED.false in
    let k = c.if-text-c.false in
    let x = shape-itself _ _ _ _ _ _ c.read_shape-c.ensures (omega arith) refl refl in
    let n = named-there _ _ _ _ _ _ _ c.in_ok-n.ensures in record { s_value = c.requires.s_value; indexed = c.requires.indexed; tokens = keyed-tokens _ c.requires.places_value _ _ _ _ _ _ _ _ x (omega arith) n; by_index = (_, keyed-shaping _ c.requires.places_value _ _ _ _ _ _ _ _ x (omega arith) n _ c.args.bytes (record { same = refl; quoteless = c.requires.text_len_bound.2; few = c.requires.text_len_bound.1 })) }

pub returns : goal.returns
unfolding KeyedAs
returns c =
    let l = c.if-c-gt-MOST_KEYED.false in
    let k = c.if-text-c.false in
    let x = shape-itself _ _ _ _ _ _ c.read_shape-c.ensures (omega arith) refl refl in
    let n = named-there _ _ _ _ _ _ _ c.in_ok-n.ensures in
    λ u s.
    let m = c.if-n-bytes.false in
    c.judge_named.ensures _ (keyed-short _ c.requires.places_value _ _ _ _ _ _ _ _ x (omega arith) n u _ s (omega arith))
    (keyed-shaping _ c.requires.places_value _ _ _ _ _ _ _ _ x (omega arith) n u _ s)
