use mathlib.Core.Path.{refl, sym, ap, ap₂, ◌∙◌}
use mathlib.Core.Bool.{Bool, ◌&&◌}
use native.Mathlib.Omega.{arith}
use Rattle.nexus.specs.PlainLaws.{plain-dropped, plain-kept, all-turn, all_done}
use Rattle.nexus.proofs.commands.all_plain.Goals as goal
use Rattle.nexus.proofs.commands.all_plain.Goals.{then-b-eq59, else-b-eq59, then-b-eq91, else-b-eq91, then-b-eq39, else-b-eq39}

pub loop-b-init : goal.loop-b-init
loop-b-init c = (omega arith, refl)

pub loop-b-preserved : goal.loop-b-preserved
loop-b-preserved c =
    let l = c.loop-b in (
      omega arith,
      all-turn c.args.block.now l.b-index l.no_end l.no_comment l.no_quote c.if-b-eq59.no_end c.if-b-eq91.no_comment c.if-b-eq39.no_quote l.invariant.1 (omega arith)
          (elim c.if-b-eq59.branch [ then-b-eq59 q ↦ plain-dropped l.no_end _ _ 59 q.if-b-eq59.true q.no_end-is | else-b-eq59 q ↦ plain-kept l.no_end _ _ 59 q.if-b-eq59.false q.no_end-is ])
          (elim c.if-b-eq91.branch [ then-b-eq91 q ↦ plain-dropped l.no_comment _ _ 91 q.if-b-eq91.true q.no_comment-is | else-b-eq91 q ↦ plain-kept l.no_comment _ _ 91 q.if-b-eq91.false q.no_comment-is ])
          (elim c.if-b-eq39.branch [ then-b-eq39 q ↦ plain-dropped l.no_quote _ _ 39 q.if-b-eq39.true q.no_quote-is | else-b-eq39 q ↦ plain-kept l.no_quote _ _ 39 q.if-b-eq39.false q.no_quote-is ]),
    )

pub returns-then-not-no_end : goal.returns-then-not-no_end
returns-then-not-no_end c =
    let l = c.loop-b in
    sym (ap (λ (t : Bool). t && (l.no_comment && l.no_quote)) c.if-not-no_end.true) ∙ all_done _ l.b-index l.no_end l.no_comment l.no_quote l.invariant.1 (omega arith)

pub returns-then-not-no_comment : goal.returns-then-not-no_comment
returns-then-not-no_comment c =
    let l = c.loop-b in
    sym (ap₂ (λ (t v : Bool). t && (v && l.no_quote)) c.if-not-no_end.false c.if-not-no_comment.true)
    ∙ all_done _ l.b-index l.no_end l.no_comment l.no_quote l.invariant.1 (omega arith)

pub returns : goal.returns
returns c =
    let l = c.loop-b in
    sym (ap₂ (λ (t v : Bool). t && (v && l.no_quote)) c.if-not-no_end.false c.if-not-no_comment.false)
    ∙ all_done _ l.b-index l.no_end l.no_comment l.no_quote l.invariant.1 (omega arith)
