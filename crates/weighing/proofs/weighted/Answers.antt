use mathlib.Core.Path.{ap, ◌∙◌}
use borrow.Author.Rules.{rules}
use lib.Ieee.{binary64, add}
use Rattle.weighing.specs.WalkLaws.{going-none, going-first, going-second, going-both, going-all, zero-literal}
use Rattle.weighing.proofs.weighted.Goals as goal

pub loop-i-init : goal.loop-i-init
loop-i-init c = going-none c.args.a.now c.args.xs.now c.args.b.now c.args.ys.now c.requires.a_value.0 c.requires.a_value.1

pub loop-i-preserved-in-Equal : goal.loop-i-preserved-in-Equal
loop-i-preserved-in-Equal c =
    let s = c.side.ensures.both c.in-Equal.is in
    going-both c.args.a.now c.args.xs.now c.args.b.now c.args.ys.now c.requires.xs_len.0 c.requires.xs_len.1 c.loop-i.t _ c.loop-i.i c.loop-i.j c.loop-i.invariant s (ap (add binary64 c.loop-i.t) c.gap-t.ensures)

pub loop-i-preserved-in-Less : goal.loop-i-preserved-in-Less
loop-i-preserved-in-Less c =
    let s = c.side.ensures.first c.in-Less.is in
    going-first c.args.a.now c.args.xs.now c.args.b.now c.args.ys.now c.requires.xs_len.0 c.requires.xs_len.1 c.loop-i.t _ c.loop-i.i c.loop-i.j c.loop-i.invariant s (ap (add binary64 c.loop-i.t) (c.gap-t-in-Less.ensures ∙ rw zero-literal))

pub loop-i-preserved : goal.loop-i-preserved
loop-i-preserved c =
    let s = c.side.ensures.second c.in-Greater.is in
    going-second c.args.a.now c.args.xs.now c.args.b.now c.args.ys.now c.requires.xs_len.0 c.requires.xs_len.1 c.loop-i.t _ c.loop-i.i c.loop-i.j c.loop-i.invariant s (ap (add binary64 c.loop-i.t) (c.gap-t-in-Greater.ensures ∙ rw zero-literal))

pub returns : goal.returns
returns c = going-all c.args.a.now c.args.xs.now c.args.b.now c.args.ys.now c.loop-i.t c.loop-i.i c.loop-i.j c.loop-i.invariant (search rules)
