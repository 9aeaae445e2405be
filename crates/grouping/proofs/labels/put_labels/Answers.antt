use Prim.Native.Nat.{ℕ}
use native.Mathlib.Omega.{arith}
use mathlib.Core.Path.{◌≡◌, sym, ap, ◌∙◌}
use Rattle.trees.specs.Groups.{taxa_in}
use Rattle.head.specs.Head.{numbers_at, names_at}
use Rattle.layout.specs.InsideLaws.{ranges}
use Rattle.layout.specs.WholeFacts.{whole-at-facts}
use Rattle.rows.specs.ReadLaws.{long}
use Rattle.putting.specs.PutLaws.{put_as, put-length}
use Rattle.putting.specs.Lines.{spaced}
use Rattle.grouping.specs.GroupLines.{labels}
use Rattle.grouping.specs.LabelLaws.{labels-start, labels-more, labels-less}
use Rattle.grouping.proofs.labels.put_labels.Goals as goal
use Rattle.grouping.proofs.labels.put_labels.Goals.{else-has_taxon, then-has_taxon}

pub taxa-n-requires : goal.taxa-n-requires
taxa-n-requires c = long _ c.requires.s_value

pub loop-i-init : goal.loop-i-init
loop-i-init c = (omega arith, omega arith, labels-start _ _ _ _)

pub has_taxon-requires : goal.has_taxon-requires
has_taxon-requires c = omega (arith, c.loop-i-test.true, c.taxa-n.ensures.value, (ranges c.args.s.now (whole-at-facts _ c.requires.s_value).head).most-taxa)

pub put_label-e-requires : goal.put_label-e-requires
put_label-e-requires c =
    let l = c.loop-i in
    let few = (ranges c.args.s.now (whole-at-facts _ c.requires.s_value).head).most-taxa in
    let taxa = c.taxa-n.ensures.value in record { s_value = c.requires.s_value; i_bound = omega (arith, c.loop-i-test.true, taxa); at_bound = omega (arith, l.invariant.1, c.loop-i-test.true, taxa, few) }

pub loop-i-preserved : goal.loop-i-preserved
loop-i-preserved c =
    let l = c.loop-i in
    let has = c.has_taxon.ensures in
    elim c.if-has_taxon.branch [
      | then-has_taxon t ↦ rw (t.out-is, t.e-is) (omega (arith, c.loop-i-test.true), omega (arith, l.invariant.1, t.put_label-e.ensures.upper_bound), labels-more _ c.args.m l.i l.invariant.2 (sym has ∙ t.if-has_taxon.true) t.put_label-e.ensures.put)
      | else-has_taxon t ↦ rw (t.out-is, t.e-is) (omega (arith, c.loop-i-test.true), omega (arith, l.invariant.1), labels-less _ c.args.m l.i l.invariant.2 (sym has ∙ t.if-has_taxon.false))
    ]

pub shape_of-out : goal.shape_of-out
shape_of-out c = put-length c.loop-i.invariant.2

pub returns : goal.returns
returns c =
    let l = c.loop-i in
    let taxa = c.taxa-n.ensures.value in
    let e : l.i ≡ (numbers_at c.args.s.now).taxa = omega (arith, l.invariant.0, c.loop-i-test.false, taxa) in record { put = put_as (ap (λ (i : ℕ). spaced (labels (names_at c.args.s.now) (taxa_in i c.args.m))) e) l.invariant.2; upper_bound = omega (arith, l.invariant.1, e, (ranges c.args.s.now (whole-at-facts _ c.requires.s_value).head).most-taxa) }
