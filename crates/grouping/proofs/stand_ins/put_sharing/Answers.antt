use Prim.Native.Nat.{ℕ}
use native.Mathlib.Omega.{arith}
use mathlib.Core.Path.{◌≡◌, sym, ap, ◌∙◌}
use mathlib.Core.List.{List, map}
use lib.ListN.{length}
use Rattle.trees.specs.Plain.{keep}
use Rattle.trees.specs.Groups.{up_to, sharing}
use Rattle.head.specs.Head.{numbers_at}
use Rattle.layout.specs.InsideLaws.{ranges}
use Rattle.layout.specs.Store.{held_at}
use Rattle.layout.specs.WholeFacts.{whole-at-facts}
use Rattle.rows.specs.ReadLaws.{long}
use Rattle.putting.specs.PutLaws.{put_as, put-length}
use Rattle.putting.specs.Lines.{bytes_of}
use Rattle.grouping.specs.GroupLines.{stand_in_line}
use Rattle.grouping.specs.MajorityLaws.{groups-good}
use Rattle.grouping.specs.StandInLineLaws.{sharer, sharing-start, sharing-more, sharing-less, sharing-end, sharers-few, sharers-more, sharers-less}
use Rattle.grouping.proofs.stand_ins.put_sharing.Goals as goal
use Rattle.grouping.proofs.stand_ins.put_sharing.Goals.{else-shares, then-shares}

pub taxa-n-requires : goal.taxa-n-requires
taxa-n-requires c = long _ c.requires.s_value

pub loop-j-init : goal.loop-j-init
loop-j-init c = (omega arith, omega arith, sharing-start _ _ _ _ _ _ _)

pub shares-requires : goal.shares-requires
shares-requires c = let taxa = c.taxa-n.ensures.value in record { list_value = rw taxa (groups-good _ c.requires.s_value c.requires.list_value); n_bound = omega (arith, taxa, (ranges _ (whole-at-facts _ c.requires.s_value).head).most-taxa); i_lt_n = omega (arith, taxa, c.requires.i_bound); j_lt_n = c.loop-j-test.true }

pub put_line-e-requires : goal.put_line-e-requires
put_line-e-requires c =
    let a = c.args in
    let l = c.loop-j in
    let taxa = c.taxa-n.ensures.value in
    let few = (ranges _ (whole-at-facts _ c.requires.s_value).head).most-taxa in
    let most = sharers-few (numbers_at a.s.now).taxa a.i.0 a.list.now a.k l.j in record { s_value = c.requires.s_value; list_value = c.requires.list_value; counts_value = c.requires.counts_value; i_bound = c.requires.i_bound; j_bound = omega (arith, taxa, c.loop-j-test.true); at_bound = omega (arith, l.invariant.1, c.requires.at_bound, most, taxa, few, c.loop-j-test.true) }

pub loop-j-preserved : goal.loop-j-preserved
loop-j-preserved c =
    let a = c.args in
    let l = c.loop-j in
    let n = (numbers_at a.s.now).taxa in
    let f = stand_in_line (held_at a.s.now) a.i.0 in
    let tested = rw c.taxa-n.ensures.value at c.shares.ensures in
    elim c.if-shares.branch [
      | then-shares t ↦ let h = sym tested ∙ t.if-shares.true in rw (t.out-is, t.e-is) (
        omega (arith, c.loop-j-test.true),
        omega (arith, l.invariant.1, t.put_line-e.ensures.upper_bound, sharers-more n a.i.0 a.list.now a.k l.j h),
        sharing-more n a.i.0 a.list.now f a.k l.j l.invariant.2 h t.put_line-e.ensures.put,
      )
      | else-shares t ↦ let h = sym tested ∙ t.if-shares.false in rw (t.out-is, t.e-is) (
        omega (arith, c.loop-j-test.true),
        omega (arith, l.invariant.1, sharers-less n a.i.0 a.list.now a.k l.j h),
        sharing-less n a.i.0 a.list.now f a.k l.j l.invariant.2 h,
      )
    ]

pub shape_of-out : goal.shape_of-out
shape_of-out c = put-length c.loop-j.invariant.2

pub returns : goal.returns
returns c =
    let a = c.args in
    let l = c.loop-j in
    let n = (numbers_at a.s.now).taxa in
    let f = stand_in_line (held_at a.s.now) a.i.0 in
    let e : l.j ≡ n = omega (arith, l.invariant.0, c.loop-j-test.false, c.taxa-n.ensures.value) in
    let all : keep (sharer n a.i.0 a.list.now a.k) (up_to l.j) ≡ sharing n a.i.0 a.list.now a.k =
    ap (λ (x : ℕ). keep (sharer n a.i.0 a.list.now a.k) (up_to x)) e ∙ sharing-end n a.i.0 a.list.now f a.k in record { put = put_as (ap (λ (x : List ℕ). bytes_of (map f x)) all) l.invariant.2; upper_bound = omega (arith, l.invariant.1, ap length all) }
