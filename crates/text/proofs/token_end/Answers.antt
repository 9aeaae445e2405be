use borrow.Author.Rules.{rules}
use native.Mathlib.Omega.{arith}
use lib.ListN.{length}
use mathlib.Core.Path.{◌≡◌, sym, ◌∙◌}
use Rattle.text.proofs.SymbolLaws.{run_none, run_more, run-stop, run_end}
use Rattle.text.proofs.token_end.Goals as goal

pub loop-end-init : goal.loop-end-init
loop-end-init c = run_none _ _ (search rules)

pub returns-then-not-is_label_byte : goal.returns-then-not-is_label_byte
returns-then-not-is_label_byte c = run-stop _ _ _ c.loop-end.invariant (sym c.is_label_byte.ensures ∙ c.if-not-is_label_byte.true)

pub loop-end-preserved : goal.loop-end-preserved
loop-end-preserved c = run_more _ _ _ c.loop-end.invariant (search rules) (sym c.is_label_byte.ensures ∙ c.if-not-is_label_byte.false)

pub returns : goal.returns
returns c =
    let e : c.loop-end.end ≡ length c.args.text.now = omega arith in
    run_end _ _ _ (rw e at c.loop-end.invariant) (search rules)
