-- `head::first_word` meets its contract: a word, its lowest bytes, or the bytes that are left. Assumes nothing.
use Rattle.std.proofs.Common.{◌≡◌, ◌+◌, ◌-◌, sym, ◌∙◌, add-zero, arith}
use Rattle.head.specs.WordLaws.{shift-some, word-inside, word-lowest}
use Rattle.head.proofs.first_word.Goals as goal

pub returns-then-n-ge8 : goal.returns-then-n-ge8
returns-then-n-ge8 c =
    let a = c.args in
    c.get64.ensures ∙ sym (word-inside a.s.now a.b a.e 0 (omega arith) ∙ rw add-zero)

pub nonzero_rem-result : goal.nonzero_rem-result
nonzero_rem-result c = shift-some _ (omega arith)

pub returns-then-s-b-ge8 : goal.returns-then-s-b-ge8
returns-then-s-b-ge8 c =
    let a = c.args in
    rw c.get64-then-s-b-ge8.ensures (word-lowest a.s.now a.b a.e (omega arith) _ (omega arith) (omega arith) (λ i. omega (arith, c.type_inv.s i)))

pub returns : goal.returns
returns c =
    let a = c.args in
    let p : a.b + (a.e - a.b) ≡ a.e = omega arith in
    c.short_word.ensures ∙ rw p
