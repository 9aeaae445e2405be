-- `nexus::plain::put_run` meets its contract. Assumes nothing.
use native.Mathlib.Omega.{arith}
use Rattle.nexus.specs.KeyLaws.{part_length}
use Rattle.nexus.specs.TextLaws.{put-over, put-run}
use Rattle.nexus.specs.CopyLaws.{put-wide}
use Rattle.nexus.proofs.plain.put_run.Goals as goal

pub returns-then-to-n : goal.returns-then-to-n
returns-then-to-n c =
    let a = c.args in
    let n = part_length a.s.now a.b a.e (omega arith) (omega arith) in
    put-over _ _ _ (omega arith)

pub put_words-requires : goal.put_words-requires
put_words-requires c = let w = c.has_words.ensures c.if-has_words.true in record { to_in_bounds = omega arith; b_in_bounds = omega arith }

pub returns-then-has_words : goal.returns-then-has_words
returns-then-has_words c =
    let a = c.args in
    let w = c.has_words.ensures c.if-has_words.true in
    put-wide a.out.now a.s.now a.to a.b a.e 16 _ (omega arith) (omega arith) (omega arith) (omega arith) (omega arith)
    c.put_words.ensures

pub returns : goal.returns
returns c =
    let a = c.args in
    put-run a.out.now a.s.now a.to a.b a.e _ (omega arith) (omega arith) (omega arith) (omega arith)
    c.copy_from.ensures
