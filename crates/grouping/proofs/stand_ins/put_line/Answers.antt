-- `grouping::stand_ins::put_line` meets its contract. Assumes nothing.
use native.Mathlib.Omega.{arith}
use mathlib.Core.Path.{sym, ap, ◌∙◌}
use lib.ListN.{get_or}
use Rattle.trees.specs.Groups.{nearest}
use Rattle.head.specs.Head.{numbers_at}
use Rattle.layout.specs.InsideLaws.{ranges}
use Rattle.layout.specs.Store.{held_at}
use Rattle.layout.specs.WholeFacts.{whole-at-facts}
use Rattle.grouping.specs.MajorityLaws.{count_small, groups-good}
use Rattle.grouping.specs.NearestLaws.{nearest-at, nearest-none}
use Rattle.grouping.specs.LineLaws.{counted-at, stand-in-line, stranger-line}
use Rattle.grouping.proofs.stand_ins.put_line.Goals as goal

pub nearest_place-p-requires : goal.nearest_place-p-requires
nearest_place-p-requires c = let few = (ranges _ (whole-at-facts _ c.requires.s_value).head).most-taxa in record { i_bound = omega (arith, c.requires.i_bound, c.requires.j_bound, few); j_bound = omega (arith, c.requires.i_bound, c.requires.j_bound, few) }

pub put_group-requires : goal.put_group-requires
put_group-requires c =
    let a = c.args in
    let k = c.nearest_place-p.result in
    let here = counted-at (held_at a.s.now).trees a.list.now k c.requires.counts_value c.if-p-list.true in record { s_value = c.requires.s_value; count_bound = omega (arith, here, count_small _ c.requires.s_value (get_or a.list.now k 0)); at_bound = omega (arith, c.put_label-e.ensures.upper_bound, c.put_word-b.ensures.ends, c.requires.at_bound) }

pub returns-then-p-list : goal.returns-then-p-list
returns-then-p-list c =
    let a = c.args in
    let n = (numbers_at a.s.now).taxa in
    let here = c.if-p-list.true in
    let w = c.put_word-b.ensures in
    let x = nearest-at n a.list.now (groups-good _ c.requires.s_value c.requires.list_value) a.i.0 a.j.0 c.nearest_place-p.ensures.value here in record { put = stand-in-line a.s.now a.i.0 a.j.0 w c.put_label-e.ensures.put (ap (nearest n a.i.0 a.j.0) (sym c.requires.list_value) ∙ x.0, x.1) (counted-at (held_at a.s.now).trees a.list.now c.nearest_place-p.result c.requires.counts_value here) c.put_group.ensures.put; upper_bound = omega (arith, w.ends, c.put_label-e.ensures.upper_bound, c.put_group.ensures.upper_bound) }

pub returns : goal.returns
returns c =
    let a = c.args in
    let n = (numbers_at a.s.now).taxa in
    let w = c.put_word-b.ensures in
    let g = c.put_word.ensures in
    let x = nearest-none n a.list.now (groups-good _ c.requires.s_value c.requires.list_value) a.i.0 a.j.0 c.nearest_place-p.ensures.value c.if-p-list.false in record { put = stranger-line a.s.now a.i.0 a.j.0 w c.put_label-e.ensures.put (ap (nearest n a.i.0 a.j.0) (sym c.requires.list_value) ∙ x) g; upper_bound = omega (arith, w.ends, c.put_label-e.ensures.upper_bound, g.ends) }
