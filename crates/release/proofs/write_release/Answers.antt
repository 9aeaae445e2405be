-- `release::write_release` meets its contract. Assumes nothing.
use native.Mathlib.Omega.{arith}
use Rattle.answers.specs.AnswerLaws.{filled-refused, filled-short, filled-given}
use Rattle.opening.specs.GivenLaws.{failed, passed}
use Rattle.store.specs.LentLaws.{not-whole}
use Rattle.putting.specs.PutLaws.{put_front}
use Rattle.release.specs.ReleaseLaws.{release-missing, release-there}
use Rattle.release.proofs.write_release.Goals as goal

pub returns-then-not-is_whole : goal.returns-then-not-is_whole
returns-then-not-is_whole c = filled-refused _ _ _ (not-whole _ _ (failed _ _ c.is_whole.ensures c.if-not-is_whole.true-raw))

pub is_taxon-requires : goal.is_taxon-requires
is_taxon-requires c = passed _ _ c.is_whole.ensures c.if-not-is_whole.false-raw

pub returns-then-not-is_taxon : goal.returns-then-not-is_taxon
returns-then-not-is_taxon c =
    let w = passed _ _ c.is_whole.ensures c.if-not-is_whole.false-raw in
    filled-refused _ _ _ (release-missing _ w _ _ _ (failed _ _ c.is_taxon.ensures c.if-not-is_taxon.true-raw))

pub sheet_length-requires : goal.sheet_length-requires
sheet_length-requires c = record { s_value = passed _ _ c.is_whole.ensures c.if-not-is_whole.false-raw; apart_value = passed _ _ c.is_taxon.ensures c.if-not-is_taxon.false-raw }

pub returns-then-out-sheet_length : goal.returns-then-out-sheet_length
returns-then-out-sheet_length c =
    let w = passed _ _ c.is_whole.ensures c.if-not-is_whole.false-raw in
    let t = passed _ _ c.is_taxon.ensures c.if-not-is_taxon.false-raw in
    filled-short _ _ _ (release-there _ w _ _ _ t) (omega (arith, c.if-out-sheet_length.true, c.sheet_length.ensures))

pub put_release-n-requires : goal.put_release-n-requires
put_release-n-requires c = record { s_value = passed _ _ c.is_whole.ensures c.if-not-is_whole.false-raw; apart_value = passed _ _ c.is_taxon.ensures c.if-not-is_taxon.false-raw }

pub returns : goal.returns
returns c =
    let w = passed _ _ c.is_whole.ensures c.if-not-is_whole.false-raw in
    let t = passed _ _ c.is_taxon.ensures c.if-not-is_taxon.false-raw in
    let p = c.put_release-n.ensures in
    filled-given _ _ _ (release-there _ w _ _ _ t) _ _ (omega (arith, p.ends)) (omega (arith, p.ends, c.if-out-sheet_length.false, c.sheet_length.ensures)) (put_front _ _ _ _ p (omega (arith, p.ends, c.if-out-sheet_length.false, c.sheet_length.ensures)))
