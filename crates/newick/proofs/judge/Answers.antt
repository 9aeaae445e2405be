-- `newick::judge` meets its contract. Assumes nothing.
use Rattle.std.proofs.Common.{refl}
use Rattle.std.proofs.lemmas.Result.{err_from_is_err_and}
use Rattle.newick.proofs.TaxonLaws.{prepared-opening}
use Rattle.newick.proofs.JudgeLaws.{judged-faulty, sound-read, judged-splits}
use Rattle.newick.proofs.judge.Goals as goal

pub gather_splits-requires : goal.gather_splits-requires
gather_splits-requires c = let w = sound-read _ _ _ _ _ _ c.read_tree.ensures _ _ c.in_ok-k.was refl in record { head_bytes_in_bounds = (c.requires.prepared.reach, c.requires.prepared.good); k_bound = w.sums; n_bound = w.spans; most_words_in_bounds = c.requires.most_words_in_bounds }

pub returns-in_err-k : goal.returns-in_err-k
returns-in_err-k c =
    let p = err_from_is_err_and c.from_residual.result c.from_residual.ensures.1 in
    rw (p.1, p.2) (judged-faulty _ _ _ _ _ _ c.read_tree.ensures _ c.in_err-k.was _)

pub returns : goal.returns
returns c =
    let w = sound-read _ _ _ _ _ _ c.read_tree.ensures _ _ c.in_ok-k.was refl in
    judged-splits _ _ _ _ (prepared-opening _ _ _ c.requires.prepared) _ _ w _ _ _ (c.gather_splits.ensures.value, c.gather_splits.ensures.out_after)
