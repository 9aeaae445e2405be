-- `sheet::line::tree_line` meets its contract. Assumes nothing.
use native.Mathlib.Omega.{arith}
use Rattle.putting.specs.PutLaws.{put_then}
use Rattle.sheet.specs.LineLaws.{shown-word, shown-alone}
use Rattle.sheet.proofs.line.tree_line.Goals as goal

pub put_word-a-requires : goal.put_word-a-requires
put_word-a-requires c = omega (arith, c.requires.at_bound, shown-word _ _ _ c.requires.shown)

pub put_answer-b-requires : goal.put_answer-b-requires
put_answer-b-requires c = record { shown = shown-alone _ _ _ c.requires.shown; at_bound = omega (arith, c.requires.at_bound, shown-word _ _ _ c.requires.shown, c.put_word-a.ensures.ends) }

pub put_end-requires : goal.put_end-requires
put_end-requires c = omega (arith, c.requires.at_bound, shown-word _ _ _ c.requires.shown, c.put_word-a.ensures.ends, c.put_answer-b.ensures.upper_bound)

pub returns : goal.returns
returns c =
    let e = c.put_end.ensures in
    let p = c.put_word-a.ensures in record { put = put_then p (put_then c.put_answer-b.ensures.put e); upper_bound = omega (arith, shown-word _ _ _ c.requires.shown, p.ends, c.put_answer-b.ensures.upper_bound, e.ends) }
