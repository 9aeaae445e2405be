-- `nexus::verdicts::judge_named` meets its contract: the tree's own refusal, or the tree if there is room. Assumes nothing.
use mathlib.Core.Path.{refl}
use native.Mathlib.Omega.{arith}
use lib.ListN.{replicate}
use Rattle.std.proofs.lemmas.Result.{err_from_is_err_and}
use Rattle.answers.specs.Answers.{progress_given}
use Rattle.layout.specs.WholeFacts.{whole-at-facts}
use Rattle.feeding.specs.JudgingLaws.{without-lengths, judged-refused, judged-gives, splits_of_lem, lengths-of, tree-given}
use Rattle.nexus.specs.KeyedLaws.{hands-refused, hands-room}
use Rattle.nexus.proofs.verdicts.judge_named.Goals as goal

-- in the answers below, p is what the function requires, j where the shape is judged, and b the tree that it gives
pub judge_shape-requires : goal.judge_shape-requires
judge_shape-requires c = let w = (whole-at-facts _ c.requires.s_value.0).head in record { prepared = record { reach = w.head-there; good = w.opening-good; indexed = c.requires.indexed }; tokens = c.requires.tokens; by_index = c.requires.by_index; most_words_in_bounds = omega arith }

pub accept-requires : goal.accept-requires
accept-requires c =
    let j = c.judge_shape.ensures in
    let x = c.requires.by_index in
    let b = judged-gives _ _ _ _ _ _ _ (without-lengths _ x.0 _ (replicate 64 0) _ _ c.requires.s_value.1 (j x.0 x.1)) _ c.in_ok-k.was in record { s_value = c.requires.s_value.0; splits_of = splits_of_lem _ _ _ b.0 _ _ _ _ _ c.requires.s_value.0 refl b.1 b.2 b.3 b.4; lengths_of = lengths-of _ _ _ b.0 _ _ _ _ _ c.requires.s_value.0 refl b.1 b.2 b.3 b.4 }

pub returns-in_err-k : goal.returns-in_err-k
unfolding progress_given
returns-in_err-k c =
    let j = c.judge_shape.ensures in
    let p = err_from_is_err_and c.from_residual.result c.from_residual.ensures.1 in
    rw (p.1, p.2) (λ x short shape.
    let v = judged-refused _ _ _ _ _ _ _ (without-lengths _ x _ (replicate 64 0) _ _ c.requires.s_value.1 (j x shape)) _ c.in_err-k.was in
    hands-refused _ x short c.requires.s_value.0 _ _ v refl)

pub returns : goal.returns
returns c =
    let j = c.judge_shape.ensures in
    λ x short shape.
    let b = judged-gives _ _ _ _ _ _ _ (without-lengths _ x _ (replicate 64 0) _ _ c.requires.s_value.1 (j x shape)) _ c.in_ok-k.was in
    let g = tree-given _ _ _ b.0 _ _ _ _ _ c.requires.s_value.0 refl b.1 b.2 b.3 b.4 in
    hands-room _ x short c.requires.s_value.0 b.0 _ _ _ g b.1 c.accept.ensures
