-- `feeding::batch` meets its contract: each return is a law. Assumes nothing.
use Prim.Native.Nat.{◌≤◌}
use mathlib.Core.Path.{ap, ◌∙◌}
use mathlib.Core.Bool.{Bool}
use lib.ListN.{length}
use lib.Seq.{length-take-le}
use native.Mathlib.Omega.{arith}
use Rattle.trees.specs.Batch.{texts_in}
use Rattle.opening.specs.GivenLaws.{failed, passed}
use Rattle.layout.specs.WholeFacts.{whole-at-facts}
use Rattle.store.specs.LentLaws.{not-whole}
use Rattle.feeding.specs.FedLaws.{few-taxa}
use Rattle.feeding.specs.BatchLaws.{batched-length, batch-refused, batch-no-lane, batch-short, batch-done}
use Rattle.feeding.proofs.batch.Goals as goal

pub returns-then-not-is_whole : goal.returns-then-not-is_whole
returns-then-not-is_whole c =
    let a = c.args in
    batch-refused _ _ a.s.now a.verdicts.now _ (not-whole a.s.now _ (failed _ _ c.is_whole.ensures c.if-not-is_whole.true-raw))

pub lanes-requires : goal.lanes-requires
lanes-requires c = (whole-at-facts _ (passed _ _ c.is_whole.ensures c.if-not-is_whole.false-raw)).head.head-there

pub returns-then-lanes-l : goal.returns-then-lanes-l
returns-then-lanes-l c =
    let a = c.args in
    let w = passed _ _ c.is_whole.ensures c.if-not-is_whole.false-raw in
    batch-refused _ _ a.s.now a.verdicts.now _ (batch-no-lane a.s.now a.l.0 a.piece.now a.verdicts.now w (omega arith))

pub quotes_open-quoted-requires : goal.quotes_open-quoted-requires
quotes_open-quoted-requires c = record { s_value = passed _ _ c.is_whole.ensures c.if-not-is_whole.false-raw; l_bound = omega arith }

pub returns-then-verdicts-n : goal.returns-then-verdicts-n
returns-then-verdicts-n c =
    let w = passed _ _ c.is_whole.ensures c.if-not-is_whole.false-raw in
    let a = c.args in
    let e = c.count_texts-n.ensures ∙ ap (λ (x : Bool). texts_in x a.piece.now) c.quotes_open-quoted.ensures in
    batch-refused _ _ a.s.now a.verdicts.now _
    (batch-short a.s.now a.l.0 a.piece.now a.verdicts.now w (omega arith) c.count_texts-n.result e (omega arith))

pub build_index-requires : goal.build_index-requires
build_index-requires c = let w = passed _ _ c.is_whole.ensures c.if-not-is_whole.false-raw in record { head_bytes_in_bounds = (whole-at-facts _ w).head.head-there; s_bound = few-taxa _ w }

pub feed_texts-requires : goal.feed_texts-requires
feed_texts-requires c =
    let w = passed _ _ c.is_whole.ensures c.if-not-is_whole.false-raw in
    let a = c.args in
    let fits : c.count_texts-n.result ≤ length a.verdicts.now = omega (arith, c.if-verdicts-n.false) in
    let e = c.count_texts-n.ensures ∙ ap (λ (x : Bool). texts_in x a.piece.now) c.quotes_open-quoted.ensures in record { s_value = w; l_bound = omega arith; indexed = c.build_index.ensures; verdicts_len = length-take-le _ _ fits ∙ e }

pub shape_of-s : goal.shape_of-s
shape_of-s c = c.feed_texts.ensures.holds.size

pub returns : goal.returns
returns c =
    let w = passed _ _ c.is_whole.ensures c.if-not-is_whole.false-raw in
    let a = c.args in
    let e = c.count_texts-n.ensures ∙ ap (λ (x : Bool). texts_in x a.piece.now) c.quotes_open-quoted.ensures in
    let fits : c.count_texts-n.result ≤ length a.verdicts.now = omega (arith, c.if-verdicts-n.false) in
    let few = length-take-le c.count_texts-n.result a.verdicts.now fits in
    let f = c.feed_texts.ensures in
    batch-done a.s.now a.l.0 a.piece.now a.verdicts.now w (omega (arith, c.if-lanes-l.false, c.lanes.ensures.value)) c.count_texts-n.result e
    fits _ _ (rw few at f.holds) (rw (f.verdicts_after, few)) (rw few at f.same_outside)
