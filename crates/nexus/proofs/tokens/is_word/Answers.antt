use native.Mathlib.Omega.{arith}
use borrow.Author.Rules.{rules}
use mathlib.Core.Path.{sym, ◌∙◌}
use Rattle.nexus.specs.TokenLaws.{word-unlike, word-begun, word_more, word-other, word_end}
use Rattle.nexus.proofs.tokens.is_word.Goals as goal

pub returns-then-e-b : goal.returns-then-e-b
returns-then-e-b c = sym (word-unlike _ _ _ _ c.requires.b_le_e c.requires.e_in_bounds c.if-e-b.true)

pub loop-i-init : goal.loop-i-init
loop-i-init c = word-begun _ _ _ _ c.requires.b_le_e c.requires.e_in_bounds

pub returns-then-capital-k : goal.returns-then-capital-k
returns-then-capital-k c =
    sym
    (word-other _ _ _ _ c.requires.b_le_e c.requires.e_in_bounds (omega arith) _
    c.loop-i.invariant (search rules) (λ q. c.if-capital-k.true (c.capital.ensures ∙ q)))

pub loop-i-preserved : goal.loop-i-preserved
loop-i-preserved c =
    word_more _ _ _ _ c.requires.b_le_e c.requires.e_in_bounds (omega arith) _
    c.loop-i.invariant (search rules) (sym c.capital.ensures ∙ c.if-capital-k.false)

pub returns : goal.returns
returns c =
    sym
    (word_end _ _ _ _ c.requires.b_le_e c.requires.e_in_bounds
    (omega arith) _ c.loop-i.invariant (search rules))
