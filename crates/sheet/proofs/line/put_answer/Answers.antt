-- `sheet::line::put_answer` meets its contract. Assumes nothing.
use native.Mathlib.Omega.{arith}
use lib.ListN.{length-take}
use Rattle.trees.specs.Plain.{bytes}
use Rattle.sheet.specs.LineLaws.{shown-fits, answer-given, answer-none}
use Rattle.sheet.proofs.line.put_answer.Goals as goal

pub slice_bounds-put_word-end : goal.slice_bounds-put_word-end
slice_bounds-put_word-end c =
    let a = c.in-Ok.is in
    let h = shown-fits _ _ _ _ a c.requires.shown in
    simp length-take (omega arith)

pub put_word-requires : goal.put_word-requires
put_word-requires c =
    let a = c.in-Ok.is in
    let h = shown-fits _ _ _ _ a c.requires.shown in
    simp length-take (omega (arith, c.requires.at_bound))

pub returns-in-Ok : goal.returns-in-Ok
returns-in-Ok c =
    let a = c.in-Ok.is in
    let h = shown-fits _ _ _ _ a c.requires.shown in
    let p = c.put_word.ensures in record { put = answer-given _ _ _ a p; upper_bound = omega (arith, simp length-take at p.ends) }

pub returns-in-Err : goal.returns-in-Err
unfolding bytes
returns-in-Err c = let p = c.put_word-in-Err.ensures in record { put = answer-none _ _ _ c.in-Err.is p; upper_bound = omega (arith, p.ends) }
