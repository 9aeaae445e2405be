use native.Mathlib.Omega.{arith}
use mathlib.Core.Path.{◌≡◌, refl, ap, ◌∙◌}
use Rattle.head.specs.Head.{numbers_at}
use Rattle.layout.specs.Store.{lengths_from}
use Rattle.layout.specs.InsideLaws.{trees-few}
use Rattle.recording.specs.LengthLaws.{all-lengths, putting-none, put-none, put_all}
use Rattle.recording.proofs.PuttingLaws.{inside, more}
use Rattle.recording.proofs.listing.put_lengths.Goals as goal

pub kept-requires : goal.kept-requires
kept-requires c = c.requires.head_at.0.head-there

pub returns-then-kept-eq0 : goal.returns-then-kept-eq0
returns-then-kept-eq0 c = put-none _ _ _ (omega (arith, c.kept.ensures.value))

pub trees_held-requires : goal.trees_held-requires
trees_held-requires c = c.requires.head_at.0.head-there

pub lengths_from-from-requires : goal.lengths_from-from-requires
lengths_from-from-requires c = record { head_bytes_in_bounds = c.requires.head_at.0.head-there; i_bound = omega (arith, c.trees_held.ensures, trees-few _ c.requires.head_at.0) }

pub loop-j-init : goal.loop-j-init
loop-j-init c =
    let k = c.kept.ensures.value in
    let d = c.if-kept-eq0.false in (
      record {
        head = c.requires.head_at.0;
        sound = c.requires.head_at.1;
        room = c.requires.s_bound;
        kept = omega (arith, k, d);
        few = c.requires.n_le_most_splits;
        long = rw (all-lengths (numbers_at c.args.s.now) c.args.n (λ z. omega (arith, k, d))) at c.requires.n_in_bounds;
        from_is = c.lengths_from-from.ensures.value ∙ ap (lengths_from _) c.trees_held.ensures;
      },
      omega arith,
      putting-none _ _,
    )

pub overflow_mul-j : goal.overflow_mul-j
overflow_mul-j c = omega (arith, c.loop-j.invariant.0.few)

pub overflow_add-from : goal.overflow_add-from
overflow_add-from c = omega (arith, c.loop-j.invariant.0.few, c.lengths_from-from.ensures.upper_bound)

pub offset_bounds-words-j : goal.offset_bounds-words-j
offset_bounds-words-j c = omega (arith, c.loop-j.invariant.0.few)

pub bounds-words-j : goal.bounds-words-j
bounds-words-j c = omega (arith, c.loop-j.invariant.0.long)

pub put64-requires : goal.put64-requires
put64-requires c =
    let l = c.loop-j in
    omega (arith, inside l.invariant.0 l.j l.s l.invariant.2, l.invariant.0.few)

pub loop-j-preserved : goal.loop-j-preserved
loop-j-preserved c =
    let l = c.loop-j in
    let x = c.type_inv.words l.j in
    (l.invariant.0, omega arith, rw c.put64.ensures (more l.invariant.0 l.j l.s l.invariant.2 (omega arith) _ refl (omega (arith, x))))

pub shape_of-s : goal.shape_of-s
shape_of-s c = c.loop-j.invariant.2.size

pub returns : goal.returns
returns c =
    let l = c.loop-j in
    let g = c.loop-j.invariant.0 in
    let k : l.j ≡ c.args.n = omega arith in
    put_all _ g.head g.room g.kept g.sound _ _ l.s (rw k at l.invariant.2) (λ i. omega (arith, c.slice_known-1.given i)) g.long
