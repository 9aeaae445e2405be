use Rattle.std.proofs.Common.{◌≡◌, sym, ◌∙◌, arith}
use Rattle.head.specs.Head.{numbers_at}
use Rattle.layout.specs.AllLaws.{all_none, all_more, all-fails}
use Rattle.layout.specs.InsideLaws.{places-few}
use Rattle.store.specs.ChainTests.{start-good, start-bad}
use Rattle.store.proofs.splits.starts_good.Goals as goal

pub places-n-requires : goal.places-n-requires
places-n-requires c = c.requires.head_at.head-there

pub loop-p-init : goal.loop-p-init
loop-p-init c = (omega arith, omega (arith, places-few _ c.requires.head_at), all_none _)

pub start_at-requires : goal.start_at-requires
start_at-requires c = record { head_at = c.requires.head_at; p_bound = omega arith }

pub returns-then-start_at-from : goal.returns-then-start_at-from
returns-then-start_at-from c =
    let l = c.loop-p in
    let h = c.from.ensures ∙ c.requires.highest.each l.p (omega arith) in
    sym (all-fails _ _ l.p (omega arith) (start-bad _ _ _ _ c.start_at.ensures h c.if-start_at-from.true))

pub loop-p-preserved : goal.loop-p-preserved
loop-p-preserved c =
    let l = c.loop-p in
    let h = c.from.ensures ∙ c.requires.highest.each l.p (omega arith) in
    (omega arith, omega arith, all_more _ _ l.invariant.2 (start-good _ _ _ _ c.start_at.ensures h c.if-start_at-from.false))

pub returns : goal.returns
returns c =
    let e : c.loop-p.p ≡ (numbers_at c.args.s.now).places = omega arith in
    sym (rw e at c.loop-p.invariant.2)
