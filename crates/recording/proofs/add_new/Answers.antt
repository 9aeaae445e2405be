use mathlib.Core.Path.{◌≡◌}
use native.Mathlib.Omega.{arith}
use Rattle.layout.specs.WholeFacts.{whole-at-facts}
use Rattle.recording.specs.GrownLaws.{grown-none, grown-old, grown-new, next-asks}
use Rattle.recording.proofs.add_new.Goals as goal
use Rattle.recording.proofs.add_new.Goals.{then-held-rows, else-held-rows}

pub splits_held-held-requires : goal.splits_held-held-requires
splits_held-held-requires c = (whole-at-facts _ c.requires.s_value).head.head-there

pub loop-j-init : goal.loop-j-init
loop-j-init c = (omega arith, grown-none _ c.requires.s_value c.args.n _)

pub offset_bounds-rows-j : goal.offset_bounds-rows-j
offset_bounds-rows-j c = omega (arith, c.requires.splits_of.few)

pub bounds-rows-j : goal.bounds-rows-j
bounds-rows-j c = omega (arith, c.requires.rows_of.reach)

pub mask_of-m-requires : goal.mask_of-m-requires
mask_of-m-requires c = omega (arith, c.requires.splits_of.reach)

pub place_of-requires : goal.place_of-requires
place_of-requires c = omega (arith, c.requires.splits_of.reach)

pub identifier_of-requires : goal.identifier_of-requires
identifier_of-requires c = omega (arith, c.requires.splits_of.reach)

pub add_split-requires : goal.add_split-requires
add_split-requires c =
    let l = c.loop-j in
    let a = next-asks _ c.requires.s_value _ _ c.requires.records_bound l.j _ l.invariant.1 c.requires.splits_of _ c.requires.rows_of (omega arith) (omega arith) in record {
      head_at = a.0;
      s_bound = a.1.0;
      m_value = rw c.mask_of-m.ensures a.1.1.0;
      s_value = rw c.mask_of-m.ensures a.1.1.1.0;
      p_value = rw (c.mask_of-m.ensures, c.place_of.ensures) a.1.1.1.1.0;
      x_value = rw (c.mask_of-m.ensures, c.identifier_of.ensures) a.1.1.1.1.1;
    }

pub loop-j-preserved : goal.loop-j-preserved
loop-j-preserved c =
    let l = c.loop-j in
    elim c.if-held-rows.branch [
      | then-held-rows q ↦ (omega arith, rw q.s-is (grown-new _ c.requires.s_value _ _ c.requires.records_bound l.j _ l.invariant.1 c.requires.splits_of _ c.requires.rows_of (omega arith) (omega (arith, q.if-held-rows.true)) _ (rw q.mask_of-m.ensures at q.add_split.ensures)))
      | else-held-rows q ↦ (omega arith, rw q.s-is (grown-old _ c.requires.s_value _ _ c.requires.records_bound l.j _ l.invariant.1 c.requires.splits_of _ c.requires.rows_of (omega arith) (omega (arith, q.if-held-rows.false))))
    ]

pub shape_of-s : goal.shape_of-s
shape_of-s c = c.loop-j.invariant.1.size

pub returns : goal.returns
returns c =
    let e : c.loop-j.j ≡ c.args.n = omega arith in
    rw e at c.loop-j.invariant.1
