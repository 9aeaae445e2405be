-- The names are those of the line, a byte at a time.
use Rattle.std.proofs.Common.{◌≡◌, ◌+◌, ◌∙◌, ap, arith}
use Rattle.trees.specs.Names.{name_count}
use Rattle.filing.specs.Names.{taxa_of}
use Rattle.filing.specs.NameLaws.{names-all, names_more, names-last}
use Rattle.filing.proofs.collection.taxa_in.Goals as goal

pub loop-b-init : goal.loop-b-init
loop-b-init c = (omega arith, omega arith, omega (arith, names-all c.args.line.now))

pub loop-b-preserved : goal.loop-b-preserved
loop-b-preserved c =
    let l = c.loop-b in
    let s = c.args.line.now in
    let e = names_more l.quoted s l.b-index c.loop-b-test.true _ _ c.space_at-spaces.ensures.0 c.turn_quotes-quoted.ensures in
    (omega arith, omega arith, omega (arith, e, l.invariant.2))

pub returns-clause-value : goal.returns-clause-value
returns-clause-value c =
    let l = c.loop-b in
    let s = c.args.line.now in
    let e : l.spaces + 1 ≡ name_count s = omega (arith, names-last l.quoted s l.b-index (omega arith), l.invariant.2) in
    c.one_more.ensures.value ∙ ap taxa_of e
