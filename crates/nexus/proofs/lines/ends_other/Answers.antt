use native.Mathlib.Omega.{arith}
use borrow.Author.Rules.{rules}
use mathlib.Core.Path.{sym, ◌∙◌}
use Rattle.trees.specs.Plain.{bytes}
use Rattle.nexus.specs.OtherLaws.{passed_first, passed-more, end_none, word_at, not-word, not_last, end-here}
use Rattle.nexus.proofs.lines.ends_other.Goals as goal
use Rattle.nexus.proofs.lines.ends_other.Goals.{then-is_word+else-skip-c, else-is_word}

pub loop-at-init : goal.loop-at-init
loop-at-init c = passed_first _ _ c.requires c.skip-at.ensures

pub returns-then-skip-c : goal.returns-then-skip-c
unfolding bytes
returns-then-skip-c c =
    sym
    (end-here _ _ c.loop-at.invariant _ c.token_end-end.ensures
    (sym c.is_word.ensures ∙ c.if-is_word.true) _ c.skip.ensures c.if-skip-c.true)

pub past_word-requires : goal.past_word-requires
past_word-requires c = word_at _ _ c.loop-at.invariant _ c.token_end-end.ensures (search rules)

pub skip-at-requires-in-loop-at : goal.skip-at-requires-in-loop-at
skip-at-requires-in-loop-at c = c.past_word.ensures.within

pub loop-at-smaller : goal.loop-at-smaller
loop-at-smaller c = omega (arith, c.past_word.ensures.past, c.skip-at-in-loop-at.ensures.past, c.skip-at-in-loop-at.ensures.within)

pub loop-at-preserved : goal.loop-at-preserved
unfolding bytes
loop-at-preserved c =
    passed-more _ _ c.loop-at.invariant _ _
    (elim c.if-is_word.branch [
      | then-is_word+else-skip-c w ↦ not_last _ _ c.loop-at.invariant _ c.token_end-end.ensures (sym c.is_word.ensures ∙ w.if-is_word.true) _ w.skip.ensures w.if-skip-c.false
      | else-is_word w ↦ not-word _ _ c.loop-at.invariant _ c.token_end-end.ensures (sym c.is_word.ensures ∙ w.if-is_word.false)
    ])
    c.past_word.ensures c.skip-at-in-loop-at.ensures

pub returns : goal.returns
returns c = sym (end_none _ _ c.loop-at.invariant (search rules))
