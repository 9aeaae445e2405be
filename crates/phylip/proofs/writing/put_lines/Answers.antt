use Prim.Native.Nat.{ℕ, ◌<◌}
use native.Mathlib.Omega.{arith}
use mathlib.Core.Path.{refl, sym, ap, subst}
use lib.ListN.{length, length-replicate}
use Rattle.trees.specs.Phylip.{row_text}
use Rattle.layout.specs.Store.{trees_held_at}
use Rattle.rows.specs.ReadLaws.{long}
use Rattle.distances.specs.RowLaws.{row-length}
use Rattle.putting.specs.PutLaws.{put_as, putting-start, putting-more, putting-end}
use Rattle.phylip.specs.Writing.{Values}
use Rattle.phylip.specs.WritingLaws.{trees-most, row-values, row-there, kept_next, rows_more, rows_end, rows_few}
use Rattle.phylip.proofs.writing.put_lines.Goals as goal

pub trees_held-trees-requires : goal.trees_held-trees-requires
trees_held-trees-requires c = long _ c.requires.s_value

pub loop-i-init : goal.loop-i-init
loop-i-init c = (omega arith, c.trees_held-trees.ensures, record { room = length-replicate {A = ℕ} 8192 0; block = λ n. absurd (n refl) }, omega arith, putting-start _ _ _)

pub renew-requires : goal.renew-requires
renew-requires c = let v = c.loop-i.invariant in record { s_value = c.requires.s_value; i_bound = omega (arith, v.1); shortened = c.requires.shortened; kept = v.2 }

pub row_of-requires : goal.row_of-requires
row_of-requires c = record { rows_len = c.renew.ensures.room; trees_bound = omega (arith, c.loop-i.invariant.1, trees-most _ c.requires.s_value) }

pub put_line-e-requires : goal.put_line-e-requires
put_line-e-requires c =
    let w = c.requires.s_value in
    let l = c.loop-i in
    let h : l.i < trees_held_at c.args.s.now = omega (arith, l.invariant.1) in
    let t = row-there _ w l.i _ _ _ l.invariant.1 h c.renew.ensures c.row_of.ensures in record { i_bound = omega (arith, trees-most _ w); values = subst Values (sym t) (row-values _ w l.i h); row_len_bound = omega (arith, ap length t, row-length c.args.s.now l.i, trees-most _ w); at_bound = l.invariant.3 }

pub loop-i-preserved : goal.loop-i-preserved
loop-i-preserved c =
    let w = c.requires.s_value in
    let l = c.loop-i in
    let h : l.i < trees_held_at c.args.s.now = omega (arith, l.invariant.1) in
    let r = c.renew.ensures in
    let t = row-there _ w l.i _ _ _ l.invariant.1 h r c.row_of.ensures in
    let q = putting-more l.invariant.4 (rows_more _ w l.i h) (put_as (ap (row_text l.i) t) c.put_line-e.ensures) in
    (omega arith, l.invariant.1, kept_next _ w l.i _ r, omega (arith, q.ends, rows_few _ w), q)

pub shape_of-out : goal.shape_of-out
shape_of-out c = c.loop-i.invariant.4.room

pub returns : goal.returns
returns c =
    let l = c.loop-i in
    putting-end l.invariant.4 (rows_end _ c.requires.s_value l.i (omega (arith, l.invariant.1)))
