use native.Mathlib.Omega.{arith}
use mathlib.Core.Path.{sym, ap, ◌∙◌}
use mathlib.Core.Bool.{not}
use Rattle.nexus.specs.Commands.{pairs_in}
use Rattle.nexus.specs.Texts.{Stepped}
use Rattle.nexus.specs.KeptLaws.{kept_step}
use Rattle.nexus.specs.TextLaws.{token-step, byte_step, written_none, written-more, text-over, text-all}
use Rattle.nexus.proofs.plain.write_text.Goals as goal
use Rattle.nexus.proofs.plain.write_text.Goals.{then-at-kept, else-at-kept+then-at-end, else-at-kept+else-at-end}

pub loop-at-init : goal.loop-at-init
loop-at-init c = written_none _ _ _ c.requires.out_len

pub put_run-to-requires : goal.put_run-to-requires
put_run-to-requires c =
    let v = c.loop-at.invariant in
    let y = c.kept_end-kept.ensures.kept_as in record { b_le_e = y.past; e_in_bounds = y.within; to_le_most_text = v.few; out_len = v.size }

pub overflow_sub-kept : goal.overflow_sub-kept
overflow_sub-kept c = omega (arith, c.if-at-kept.true)

pub bounds-raw-kept : goal.bounds-raw-kept
bounds-raw-kept c = omega (arith, c.if-at-kept.true, c.kept_end-kept.ensures.kept_as.within)

pub token_end-end-requires : goal.token_end-end-requires
token_end-end-requires c = c.loop-at.invariant.within

pub put_token-to-requires : goal.put_token-to-requires
put_token-to-requires c =
    let v = c.loop-at.invariant in
    let e = c.token_end-end.ensures in record { placed = c.requires.placed; indexed = c.requires.indexed; b_lt_e = c.if-at-end.true; e_in_bounds = e.within; to_le_most_text = v.few; out_len = v.size }

pub put_byte-to-requires : goal.put_byte-to-requires
put_byte-to-requires c = let v = c.loop-at.invariant in record { to_le_most_text = v.few; out_len = v.size }

-- a turn of the loop, by bytes that are kept, by a token or by a byte, where the text runs over and where it does not
stepped-over : (c : goal.Then-to-eq-RAN_OVER) →
    Stepped (pairs_in c.args.list.now c.args.n c.args.places.now) c.args.raw.now c.loop-at.at c.loop-at.to c.loop-at.free c.loop-at.out
    c.if-at-kept.at c.if-at-kept.to c.if-at-kept.free c.if-at-kept.out
stepped-over c =
    elim c.if-at-kept.branch [
      | then-at-kept w ↦ rw (w.at-is, w.to-is, w.free-is, w.out-is)
          (kept_step _ _ _ _ _ _ _ _ _ _ c.kept_end-kept.ensures.kept_as w.if-at-kept.true w.put_run-to.ensures (ap not w.is_mark-free.ensures))
      | else-at-kept+then-at-end w ↦ rw (w.at-is, w.to-is, w.free-is, w.out-is)
          (token-step _ _ _ _ _ _ _ _ _ w.token_end-end.ensures w.if-at-end.true w.put_token-to.ensures)
      | else-at-kept+else-at-end w ↦ rw (w.at-is, w.to-is, w.free-is, w.out-is)
          (byte_step _ _ _ _ _ _ _ _ _ w.token_end-end.ensures _ _ _ w.if-at-end.false (λ q. omega (arith, c.kept_end-kept.ensures.quote_past q, w.if-at-kept.false)) w.shown_byte-b.ensures w.past_byte-at.ensures w.put_byte-to.ensures w.is_free-free.ensures)
    ]

stepped : (c : goal.Else-to-eq-RAN_OVER) →
    Stepped (pairs_in c.args.list.now c.args.n c.args.places.now) c.args.raw.now c.loop-at.at c.loop-at.to c.loop-at.free c.loop-at.out
    c.if-at-kept.at c.if-at-kept.to c.if-at-kept.free c.if-at-kept.out
stepped c =
    elim c.if-at-kept.branch [
      | then-at-kept w ↦ rw (w.at-is, w.to-is, w.free-is, w.out-is)
          (kept_step _ _ _ _ _ _ _ _ _ _ c.kept_end-kept.ensures.kept_as w.if-at-kept.true w.put_run-to.ensures (ap not w.is_mark-free.ensures))
      | else-at-kept+then-at-end w ↦ rw (w.at-is, w.to-is, w.free-is, w.out-is)
          (token-step _ _ _ _ _ _ _ _ _ w.token_end-end.ensures w.if-at-end.true w.put_token-to.ensures)
      | else-at-kept+else-at-end w ↦ rw (w.at-is, w.to-is, w.free-is, w.out-is)
          (byte_step _ _ _ _ _ _ _ _ _ w.token_end-end.ensures _ _ _ w.if-at-end.false (λ q. omega (arith, c.kept_end-kept.ensures.quote_past q, w.if-at-kept.false)) w.shown_byte-b.ensures w.past_byte-at.ensures w.put_byte-to.ensures w.is_free-free.ensures)
    ]

pub returns-then-to-eq-RAN_OVER : goal.returns-then-to-eq-RAN_OVER
returns-then-to-eq-RAN_OVER c =
    let v = c.loop-at.invariant in record {
      text_as = text-over _ _ _ _ _ _ v _ _ _ _ (stepped-over c) c.if-to-eq-RAN_OVER.true;
      out_len_2 = c.if-at-kept.auto.out ∙ v.size;
    }

pub loop-at-smaller : goal.loop-at-smaller
loop-at-smaller c = let y = stepped c in omega (arith, y.past, y.within)

pub loop-at-preserved : goal.loop-at-preserved
loop-at-preserved c = written-more _ _ _ _ _ _ c.loop-at.invariant _ _ _ _ (stepped c) c.if-to-eq-RAN_OVER.false

pub shape_of-out : goal.shape_of-out
shape_of-out c = c.loop-at.invariant.size ∙ sym c.requires.out_len

pub returns : goal.returns
returns c = record { text_as = text-all _ _ _ _ _ _ c.loop-at.invariant c.loop-at-test.false; out_len_2 = c.loop-at.invariant.size }
