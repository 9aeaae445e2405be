use Prim.Native.Nat.{ℕ, ◌+◌}
use native.Mathlib.Omega.{arith}
use mathlib.Core.Path.{◌≡◌, sym, ap, ap₂, ◌∙◌}
use mathlib.Core.List.{List}
use lib.ListN.{length, take}
use lib.Seq.{length-take-le}
use Rattle.fields.specs.Field.{put}
use Rattle.fields.specs.FieldLaws.{put-length}
use Rattle.layout.specs.Store.{tree_from}
use Rattle.recording.specs.EnteringLaws.{room-is, entering-none, entered}
use Rattle.recording.proofs.EnteringRows.{inside, fits, written, counted}
use Rattle.recording.proofs.listing.list_tree.Goals as goal

pub trees_held-trees-requires : goal.trees_held-trees-requires
trees_held-trees-requires c = c.requires.head_at.0.head-there

pub tree_from-from-requires : goal.tree_from-from-requires
tree_from-from-requires c = record { head_bytes_in_bounds = c.requires.head_at.0.head-there; i_bound = omega (arith, c.trees_held-trees.ensures, (room-is _ c.requires.head_at.0 c.requires.s_bound).few) }

pub counts_from-counts-requires : goal.counts_from-counts-requires
counts_from-counts-requires c = c.requires.head_at.0.head-there

pub loop-j-init : goal.loop-j-init
loop-j-init c =
    let e = c.trees_held-trees.ensures in
    let z = room-is _ c.requires.head_at.0 c.requires.s_bound in (
      record {
        room = z;
        sound = c.requires.head_at.1;
        tree = c.requires.rows;
        long = c.requires.n_le_most_splits.1;
        trees-is = e;
        from_is = c.tree_from-from.ensures.value ∙ ap (tree_from _) e;
        counts-is = c.counts_from-counts.ensures.value;
      },
      omega arith,
      entering-none _ _ z c.requires.head_at.1 c.requires.rows,
    )

pub overflow_mul-at : goal.overflow_mul-at
overflow_mul-at c =
    let l = c.loop-j in
    let x = fits l.invariant.0 l.j l.s l.invariant.2 (omega arith) in
    omega (arith, c.well_formed.0, x.1)

pub overflow_add-at : goal.overflow_add-at
overflow_add-at c =
    let l = c.loop-j in
    let x = fits l.invariant.0 l.j l.s l.invariant.2 (omega arith) in
    omega (arith, c.well_formed.0, x.1)

pub overflow_add-from : goal.overflow_add-from
overflow_add-from c =
    let l = c.loop-j in
    omega (arith, c.well_formed.0, inside l.invariant.0 l.j l.s l.invariant.2)

pub overflow_add-from-in-loop-j : goal.overflow_add-from-in-loop-j
overflow_add-from-in-loop-j c =
    let l = c.loop-j in
    omega (arith, c.well_formed.0, inside l.invariant.0 l.j l.s l.invariant.2)

pub overflow_cast-row : goal.overflow_cast-row
overflow_cast-row c =
    let l = c.loop-j in
    let x = fits l.invariant.0 l.j l.s l.invariant.2 (omega arith) in
    omega (arith, x.0)

pub put16-requires : goal.put16-requires
put16-requires c =
    let l = c.loop-j in
    omega (arith, inside l.invariant.0 l.j l.s l.invariant.2)

pub get32-requires : goal.get32-requires
get32-requires c =
    let l = c.loop-j in
    let x = written l.invariant.0 l.j l.s l.invariant.2 (omega arith) _ c.put16.ensures in
    x.0

pub overflow_add-get32 : goal.overflow_add-get32
overflow_add-get32 c =
    let l = c.loop-j in
    let x = written l.invariant.0 l.j l.s l.invariant.2 (omega arith) _ c.put16.ensures in
    omega (arith, c.get32.ensures, x.1)

pub put32-requires : goal.put32-requires
put32-requires c =
    let l = c.loop-j in
    let x = written l.invariant.0 l.j l.s l.invariant.2 (omega arith) _ c.put16.ensures in
    x.0

pub loop-j-preserved : goal.loop-j-preserved
loop-j-preserved c =
    let l = c.loop-j in
    let x = counted l.invariant.0 l.j l.s l.invariant.2 (omega arith) _ c.put16.ensures _ c.get32.ensures in
    (l.invariant.0, omega arith, rw c.put32.ensures x)

pub put16-requires-2 : goal.put16-requires-2
put16-requires-2 c =
    let l = c.loop-j in
    omega (arith, inside l.invariant.0 l.j l.s l.invariant.2)

pub overflow_add-trees : goal.overflow_add-trees
overflow_add-trees c =
    let g = c.loop-j.invariant.0 in
    omega (arith, g.trees-is, g.room.few)

pub overflow_cast-trees : goal.overflow_cast-trees
overflow_cast-trees c =
    let g = c.loop-j.invariant.0 in
    omega (arith, g.trees-is, g.room.few)

pub put16-requires-3 : goal.put16-requires-3
put16-requires-3 c =
    let l = c.loop-j in
    let e = ap (λ (x : List ℕ). length x) c.put16-2.ensures ∙ put-length 2 l.s _ _ in
    omega (arith, e, inside l.invariant.0 l.j l.s l.invariant.2)

pub returns : goal.returns
returns c =
    let l = c.loop-j in
    let g = c.loop-j.invariant.0 in
    let m = length-take-le c.args.n c.args.rows.now g.long in
    let k : l.j ≡ length (take c.args.n c.args.rows.now) = omega arith in
    let y = c.put16-2.ensures ∙ ap₂ (put 2 l.s) g.from_is (sym m) in
    let z = c.put16-3.ensures ∙ ap₂ (λ (v : List ℕ) (x : ℕ). put 2 v 10 (x + 1)) y g.trees-is in
    entered _ _ g.room g.sound g.tree l.s _ (rw k at l.invariant.2) z (λ i. omega (arith, c.slice_known-1.given i))
