-- `feeding::verdicts::judge_text` meets its contract: the reader without lengths, or with them. Assumes nothing.
use native.Mathlib.Omega.{arith}
use Rattle.theorems.specs.OpeningLaws.{good-opening}
use Rattle.head.specs.Head.{opening_at}
use Rattle.feeding.specs.JudgingLaws.{without-lengths, with-lengths}
use Rattle.feeding.proofs.verdicts.judge_text.Goals as goal

pub kept-requires : goal.kept-requires
kept-requires c = c.requires.prepared.reach

pub judge-requires : goal.judge-requires
judge-requires c = record { prepared = c.requires.prepared; text_len_bound = c.requires.text_len_bound; most_words_in_bounds = c.requires.most_words_in_bounds.0 }

pub returns-then-kept-eq0 : goal.returns-then-kept-eq0
unfolding opening_at
returns-then-kept-eq0 c = without-lengths _ _ _ _ _ _ (omega (arith, c.if-kept-eq0.true, c.kept.ensures.value)) c.judge.ensures

pub judge_lengths-requires : goal.judge_lengths-requires
judge_lengths-requires c = record { prepared = c.requires.prepared; text_len_bound = c.requires.text_len_bound; most_words_in_bounds = c.requires.most_words_in_bounds }

pub returns : goal.returns
unfolding opening_at
returns c =
    let g = (good-opening _ c.requires.prepared.good).ranges.most-kept in
    with-lengths _ _ _ _ _ _ _ (omega (arith, g, c.if-kept-eq0.false, c.kept.ensures.value)) c.judge_lengths.ensures
