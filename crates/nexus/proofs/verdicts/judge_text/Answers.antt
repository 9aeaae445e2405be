-- `nexus::verdicts::judge_text` meets its contract: 6, the text's own refusal, or the tree if there is room. Assumes nothing.
use mathlib.Core.Path.{refl, sym}
use native.Mathlib.Omega.{arith}
use borrow.Author.Rules.{rules}
use lib.ListN.{length-take}
use lib.Seq.{length-take-le}
use Rattle.std.proofs.lemmas.Result.{err_from_is_err_and}
use Rattle.answers.specs.Answers.{refusal_number, progress_given}
use Rattle.layout.specs.WholeFacts.{whole-at-facts}
use Rattle.feeding.specs.JudgingLaws.{judged-refused, judged-gives, splits_of_lem, lengths-of, tree-given}
use Rattle.nexus.specs.VerdictLaws.{text-over, text-refused, text-room, judges-refused, judges-room}
use Rattle.nexus.proofs.verdicts.judge_text.Goals as goal

pub returns-then-n-gt-MOST_TEXT : goal.returns-then-n-gt-MOST_TEXT
returns-then-n-gt-MOST_TEXT c = unfold progress_given refusal_number in judges-refused _ _ _ c.requires.s_value _ 6 (text-over _ _ _ c.if-n-gt-MOST_TEXT.true) refl

pub slice_bounds-judge_text-end : goal.slice_bounds-judge_text-end
slice_bounds-judge_text-end c = sym (length-take-le _ _ (search rules))

pub judge_text-requires : goal.judge_text-requires
judge_text-requires c = let w = (whole-at-facts _ c.requires.s_value).head in record { prepared = record { reach = w.head-there; good = w.opening-good; indexed = c.requires.indexed }; text_len_bound = omega (arith, length-take c.args.n c.args.text.now, c.if-n-gt-MOST_TEXT.false); most_words_in_bounds = (omega arith, omega arith) }

pub accept-requires : goal.accept-requires
accept-requires c = let b = judged-gives _ _ _ _ _ _ _ c.judge_text.ensures _ c.in_ok-k.was in record { s_value = c.requires.s_value; splits_of = splits_of_lem _ _ _ b.0 _ _ _ _ _ c.requires.s_value refl b.1 b.2 b.3 b.4; lengths_of = lengths-of _ _ _ b.0 _ _ _ _ _ c.requires.s_value refl b.1 b.2 b.3 b.4 }

pub returns-in_err-k : goal.returns-in_err-k
returns-in_err-k c =
    let v = judged-refused _ _ _ _ _ _ _ c.judge_text.ensures _ c.in_err-k.was in
    let p = err_from_is_err_and c.from_residual.result c.from_residual.ensures.1 in
    rw (p.1, p.2) (unfold progress_given in judges-refused _ _ _ c.requires.s_value _ _ (text-refused _ _ _ c.if-n-gt-MOST_TEXT.false _ v) refl)

pub returns : goal.returns
returns c =
    let b = judged-gives _ _ _ _ _ _ _ c.judge_text.ensures _ c.in_ok-k.was in
    let g = tree-given _ _ _ b.0 _ _ _ _ _ c.requires.s_value refl b.1 b.2 b.3 b.4 in
    judges-room _ _ _ c.requires.s_value b.0 _ _ _ g (text-room _ _ _ c.if-n-gt-MOST_TEXT.false _ b.1) c.accept.ensures
