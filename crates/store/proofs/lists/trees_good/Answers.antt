-- `store::lists::trees_good` meets its contract. Assumes nothing.
use Rattle.std.proofs.Common.{◌∙◌}
use Rattle.opening.specs.GivenLaws.{failed, passed}
use Rattle.store.specs.CountLaws.{counted_none}
use Rattle.store.proofs.lists.trees_good.Goals as goal

pub lists_good-requires : goal.lists_good-requires
lists_good-requires c = record { head_at = c.requires.head_at; s_value = c.requires.s_value; counted = counted_none _ }

pub returns-then-not-lists_good : goal.returns-then-not-lists_good
returns-then-not-lists_good c = rw (failed _ _ c.lists_good.ensures.value c.if-not-lists_good.true-raw)

pub counts_match-requires : goal.counts_match-requires
counts_match-requires c = record { head_at = c.requires.head_at; counted = c.lists_good.ensures.counted_2 (c.if-not-lists_good.false) }

pub returns : goal.returns
returns c = c.counts_match.ensures ∙ rw (passed _ _ c.lists_good.ensures.value c.if-not-lists_good.false-raw)
