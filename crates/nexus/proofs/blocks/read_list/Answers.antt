-- `nexus::blocks::read_list` meets its contract. Assumes nothing.
use borrow.Author.Rules.{rules}
use Rattle.nexus.specs.TranslateLaws.{open-list, no-list, bad-list, good-list}
use Rattle.nexus.proofs.blocks.read_list.Goals as goal

pub returns-then-end-f : goal.returns-then-end-f
returns-then-end-f c = record { listed_as = open-list _ _ _ c.command_end-end.ensures c.if-end-f.true _; places_len_unchanged = search rules }

pub returns-then-not-is_word : goal.returns-then-not-is_word
returns-then-not-is_word c =
    let end = c.command_end-end in
    let w = c.first_token-w in record { listed_as = no-list _ _ _ end.ensures _ w.ensures _ c.is_word.ensures c.requires.from_in_bounds (c.if-not-is_word.true) _; places_len_unchanged = search rules }

pub returns-in_err-n : goal.returns-in_err-n
returns-in_err-n c =
    let end = c.command_end-end in
    let w = c.first_token-w in
    let pairs = c.in_err-n.ensures.pairs_as in
    record { listed_as = rw c.from_residual.ensures (bad-list _ _ _ end.ensures _ w.ensures _ c.is_word.ensures c.if-not-is_word.false c.if-end-f.false _ pairs); places_len_unchanged = c.read_pairs.ensures.places_len_unchanged }

pub returns : goal.returns
returns c =
    let end = c.command_end-end in
    let w = c.first_token-w in
    let pairs = c.in_ok-n.ensures.pairs_as in
    record { listed_as = good-list _ _ _ end.ensures _ w.ensures _ c.is_word.ensures c.if-not-is_word.false c.if-end-f.false _ _ pairs; places_len_unchanged = c.read_pairs.ensures.places_len_unchanged }
