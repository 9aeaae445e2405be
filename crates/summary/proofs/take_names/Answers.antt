-- `summary::take_names` meets its contract: each return is a law. Assumes nothing.
use mathlib.Core.List.{[]}
use borrow.Author.Tests.{not-true, not-false}
use Rattle.summary.specs.CallLaws.{taken-fits, names-go, names-end}
use Rattle.summary.proofs.take_names.Goals as goal

pub returns-then-not-taken : goal.returns-then-not-taken
returns-then-not-taken c = names-go _ _ _ _ _ _ c.take_line-taken.ensures (not-true _ c.if-not-taken.true)

pub slice_bounds-open_texts-count : goal.slice_bounds-open_texts-count
slice_bounds-open_texts-count c = taken-fits _ _ [] _ _ _ c.take_line-taken.ensures

pub slice_bounds-open_texts-start : goal.slice_bounds-open_texts-start
slice_bounds-open_texts-start c = taken-fits _ _ [] _ _ _ c.take_line-taken.ensures

pub returns : goal.returns
returns c = names-end _ _ _ _ _ _ c.take_line-taken.ensures (not-false _ c.if-not-taken.false) _ _ c.open_texts.ensures
