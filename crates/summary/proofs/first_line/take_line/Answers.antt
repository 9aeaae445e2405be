-- `summary::first_line::take_line` meets its contract. Assumes nothing.
use mathlib.Core.Path.{sym}
use lib.Seq.{length-take-le}
use Rattle.summary.specs.FirstLineLaws.{taken-all, taken-line}
use Rattle.summary.proofs.first_line.take_line.Goals as goal

pub slice_bounds-keep_bytes-end : goal.slice_bounds-keep_bytes-end
slice_bounds-keep_bytes-end c =
    let e = c.line_end-n in
    sym (length-take-le e.result c.args.piece.now e.ensures.upper_bound)

pub returns-then-n-piece : goal.returns-then-n-piece
returns-then-n-piece c = taken-all _ _ _ _ c.line_end-n.ensures.value _ c.keep_bytes-next.ensures c.if-n-piece.true

pub returns : goal.returns
returns c = taken-line _ _ _ _ c.line_end-n.ensures.value _ c.keep_bytes-next.ensures c.if-n-piece.false
