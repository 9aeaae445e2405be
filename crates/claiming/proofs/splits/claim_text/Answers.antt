-- `claiming::splits::claim_text` meets its contract: the text's own refusal, or what comparing its splits gives. Assumes nothing.
use mathlib.Core.Path.{sym, ◌∙◌}
use native.Mathlib.Omega.{arith}
use Rattle.std.proofs.lemmas.Result.{err_from_is_err_and}
use Rattle.answers.specs.AnswerLaws.{claim-refused}
use Rattle.head.specs.Head.{opening_at}
use Rattle.rows.specs.ReadLaws.{long}
use Rattle.store.specs.HeldWholeLaws.{opening-facts}
use Rattle.claiming.specs.AskedLaws.{prepared, judged-refused, judged-reach, judged-rising, judged-given}
use Rattle.claiming.proofs.splits.claim_text.Goals as goal

pub build_index-requires : goal.build_index-requires
unfolding opening_at
build_index-requires c = let w = c.requires.s_value in record { head_bytes_in_bounds = long _ w; s_bound = (opening-facts _ w).ranges.most-taxa }

pub judge-requires : goal.judge-requires
judge-requires c = record { prepared = prepared _ c.requires.s_value c.build_index.ensures; text_len_bound = c.requires.text_len_bound; most_words_in_bounds = omega arith }

pub trees_held-requires : goal.trees_held-requires
trees_held-requires c = long _ c.requires.s_value

pub compare-requires : goal.compare-requires
compare-requires c = let w = c.requires.s_value in record { s_value = w; k_in_bounds = judged-reach _ _ _ _ _ c.judge.ensures _ c.in_ok-k.was; rising = judged-rising _ _ _ _ _ c.judge.ensures _ c.in_ok-k.was }

pub returns-in_err-k : goal.returns-in_err-k
returns-in_err-k c =
    let p = err_from_is_err_and c.from_residual.result c.from_residual.ensures.1 in
    rw (p.1, p.2) (claim-refused _ _ (judged-refused _ _ _ _ _ c.judge.ensures _ c.in_err-k.was))

pub returns : goal.returns
returns c =
    let w = c.requires.s_value in
    c.compare.ensures ∙ sym (judged-given _ _ _ _ _ c.judge.ensures _ c.in_ok-k.was w c.trees_held.ensures)
