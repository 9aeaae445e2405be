-- `nexus::blocks::read_file` meets its contract: #NEXUS, other blocks, and the TREES block. Assumes nothing.
use mathlib.Core.Path.{subst}
use borrow.Author.Rules.{rules}
use Rattle.opening.specs.GivenLaws.{failed, passed}
use Rattle.nexus.specs.Blocks.{NextAs}
use Rattle.nexus.specs.FileLaws.{file-none, file-wrong, file-ends, file-trees}
use Rattle.nexus.proofs.blocks.read_file.Goals as goal

pub returns-then-not-is_word : goal.returns-then-not-is_word
returns-then-not-is_word c =
    file-none _ _ c.first_token-w.ensures (failed _ _ c.is_word.ensures c.if-not-is_word.true-raw) _

pub read_trees-requires : goal.read_trees-requires
read_trees-requires c = record { from_in_bounds = unfold NextAs in (subst (NextAs _ _) c.in-Trees.is c.next_block-next.ensures).0; most_keys_in_bounds = search rules }

pub returns-in-Trees : goal.returns-in-Trees
returns-in-Trees c =
    file-trees _ _ c.first_token-w.ensures
    (passed _ _ c.is_word.ensures c.if-not-is_word.false-raw) _
    (subst (NextAs _ _) c.in-Trees.is c.next_block-next.ensures) _ _
    c.read_trees.ensures

pub returns-in-Last : goal.returns-in-Last
returns-in-Last c =
    file-ends _ _ c.first_token-w.ensures
    (passed _ _ c.is_word.ensures c.if-not-is_word.false-raw) _
    (subst (NextAs _ _) c.in-Last.is c.next_block-next.ensures) _

pub returns-in-Wrong : goal.returns-in-Wrong
returns-in-Wrong c =
    file-wrong _ _ c.first_token-w.ensures
    (passed _ _ c.is_word.ensures c.if-not-is_word.false-raw)
    (subst (NextAs _ _) c.in-Wrong.is c.next_block-next.ensures) _
