-- `newick::judge_lengths` meets its contract. Assumes nothing.
use Rattle.std.proofs.Common.{refl, arith}
use Rattle.std.proofs.lemmas.Result.{err_from_is_err_and}
use Rattle.newick.proofs.TaxonLaws.{prepared-opening}
use Rattle.newick.proofs.JudgeLaws.{sound-read}
use Rattle.newick.proofs.JudgeLengthLaws.{lengths-faulty, noting-fine, lengths-inexact, placing-some, placing-asks, lengths-placed, taxa-here}
use Rattle.newick.proofs.judge_lengths.Goals as goal

-- in the answers below, w is the tree that has been read, and g says that the opening is good
pub note_lengths-requires : goal.note_lengths-requires
note_lengths-requires c =
    let g = prepared-opening _ _ _ c.requires.prepared in
    let w = sound-read _ _ _ _ _ _ c.read_tree.ensures _ _ c.in_ok-k.was refl in record { text_len_bound = c.requires.text_len_bound; fine = noting-fine _ g _ _ _ _ _ w }

pub returns-then-not-note_lengths : goal.returns-then-not-note_lengths
returns-then-not-note_lengths c =
    let g = prepared-opening _ _ _ c.requires.prepared in
    let w = sound-read _ _ _ _ _ _ c.read_tree.ensures _ _ c.in_ok-k.was refl in
    lengths-inexact _ g _ _ _ _ _ w _ _ _ c.note_lengths.ensures c.if-not-note_lengths.true-raw _ _

pub gather_splits-s-requires : goal.gather_splits-s-requires
gather_splits-s-requires c =
    let g = prepared-opening _ _ _ c.requires.prepared in
    let w = sound-read _ _ _ _ _ _ c.read_tree.ensures _ _ c.in_ok-k.was refl in record { head_bytes_in_bounds = (c.requires.prepared.reach, c.requires.prepared.good); k_bound = w.sums; n_bound = w.spans; most_words_in_bounds = c.requires.most_words_in_bounds.0 }

pub overflow_sub-n : goal.overflow_sub-n
overflow_sub-n c =
    let g = prepared-opening _ _ _ c.requires.prepared in
    let w = sound-read _ _ _ _ _ _ c.read_tree.ensures _ _ c.in_ok-k.was refl in
    placing-some _ g _ _ _ _ _ w

pub place_lengths-requires : goal.place_lengths-requires
place_lengths-requires c =
    let g = prepared-opening _ _ _ c.requires.prepared in
    let w = sound-read _ _ _ _ _ _ c.read_tree.ensures _ _ c.in_ok-k.was refl in
    let whole = placing-asks _ g _ _ _ _ _ w _ _ refl _ c.note_lengths.ensures c.if-not-note_lengths.false-raw _ _ _ (c.gather_splits-s.ensures.value, c.gather_splits-s.ensures.out_after) _ (taxa-here _ _ c.taxa.ensures.value)
    (omega (arith, c.requires.most_words_in_bounds.0, c.gather_splits-s.auto.out)) c.args.lengths.now c.requires.most_words_in_bounds.1 in record { taxa_bound = whole.0; k_in_bounds = whole.1.0; placeable = whole.1.1 }

pub returns-in_err-k : goal.returns-in_err-k
returns-in_err-k c =
    let p = err_from_is_err_and c.from_residual.result c.from_residual.ensures.1 in
    rw (p.1, p.2) (lengths-faulty _ _ _ _ _ _ c.read_tree.ensures _ c.in_err-k.was _ _)

pub returns : goal.returns
returns c =
    let g = prepared-opening _ _ _ c.requires.prepared in
    let w = sound-read _ _ _ _ _ _ c.read_tree.ensures _ _ c.in_ok-k.was refl in
    lengths-placed _ g _ _ _ _ _ w _ _ refl _ c.note_lengths.ensures c.if-not-note_lengths.false-raw _ _ _ (c.gather_splits-s.ensures.value, c.gather_splits-s.ensures.out_after) _ (taxa-here _ _ c.taxa.ensures.value) _ _
    c.place_lengths.ensures
