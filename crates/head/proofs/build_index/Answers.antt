use Rattle.std.proofs.Common.{◌≡◌, ◌+◌, ◌-◌, [], length, get_or, sym, refl, ap, ◌∙◌, arith, length-set}
use Rattle.head.specs.Head.{names_at}
use Rattle.head.specs.HeadLaws.{names-length, names-at}
use Rattle.head.specs.Index.{key}
use Rattle.head.specs.IndexLaws.{index-none, index-more, index-all}
use Rattle.head.proofs.build_index.Goals as goal

pub loop-i-init : goal.loop-i-init
loop-i-init c =
    let s = c.args.s.now in
    let n : length (names_at s) ≡ c.taxa-i.result = names-length s ∙ sym c.taxa-i.ensures.value in
    (omega arith, refl, refl, rw (← n) (index-none (names_at s) _))

pub loop-i-preserved : goal.loop-i-preserved
loop-i-preserved c =
    let s = c.args.s.now in
    let l = c.loop-i in
    let v = c.loop-i.invariant in
    let n = names-length s in
    let i = l.i - 1 in
    let p : l.i ≡ i + 1 = omega arith in
    let q : key (get_or (names_at s) i []) ≡ c.name_key-k.result =
    ap key (names-at s i (omega arith)) ∙ sym c.name_key-k.ensures.0 in (
      omega arith,
      simp length-set v.1,
      simp length-set v.2,
      index-more (names_at s) i _ l.starts l.links (omega arith) q v.1 (omega arith) (rw p at v.3),
    )

pub returns : goal.returns
returns c =
    let z : c.loop-i.i ≡ 0 = omega arith in
    index-all _ _ _ (rw z at c.loop-i.invariant.3)
