use mathlib.Core.Path.{refl, sym, ◌∙◌}
use native.Mathlib.Omega.{arith}
use Rattle.summary.specs.FirstLineLaws.{kept-none, kept_more}
use Rattle.summary.proofs.first_line.keep_bytes.Goals as goal

pub loop-b-init : goal.loop-b-init
loop-b-init c = (omega arith, refl, refl)

pub loop-b-preserved : goal.loop-b-preserved
loop-b-preserved c =
    let l = c.loop-b in
    let p = c.args.piece.now in
    let e = kept_more l.used l.spaces l.quoted l.out p l.b-index (omega arith) _ _ _ _ c.count_space-spaces.ensures c.turn_quotes-quoted.ensures c.keep_byte-used.ensures.value c.keep_byte-used.ensures.out_after in
    (omega arith, omega arith, sym e ∙ l.invariant.2)

pub returns : goal.returns
returns c =
    let l = c.loop-b in
    kept-none (record { used = l.used; spaces = l.spaces; quoted = l.quoted; bytes = l.out }) c.args.piece.now l.b-index (omega arith) ∙ l.invariant.2
