use Rattle.std.proofs.Common.{sym, ◌∙◌, arith}
use Rattle.text.specs.PlaceLaws.{there, is_open, is-comma, byte-there, byte-else}
use Rattle.newick.proofs.ShapeLaws.{read-deep, inside-less, inside-ready, read-bracket, sofar-none, sofar-more, turn-less, last-stop, children-fault, children-read}
use Rattle.newick.proofs.shape.+read_node_read_nodes.Goals as goal

pub read_node-read_leaf-requires-clause-skipped : goal.read_node-read_leaf-requires-clause-skipped
read_node-read_leaf-requires-clause-skipped t c = (c.skip_blanks-at.ensures, byte-else _ _ is_open (sym c.has_byte.ensures ∙ c.if-not-has_byte.true))

pub read_node-returns-then-depth-eq0 : goal.read_node-returns-then-depth-eq0
read_node-returns-then-depth-eq0 t c = read-deep _ _ _ _ _ _ _ c.skip_blanks-at.ensures (byte-there _ _ is_open (sym c.has_byte.ensures ∙ c.if-not-has_byte.false)) c.if-depth-eq0.true c.fault.ensures

pub read_node-read_nodes-requires : goal.read_node-read_nodes-requires
read_node-read_nodes-requires t c =
    let here = byte-there _ _ is_open (sym c.has_byte.ensures ∙ c.if-not-has_byte.false) in
    (inside-less _ _ _ _ c.decreases c.skip_blanks-at.ensures here, inside-ready _ _ _ c.requires c.skip_blanks-at.ensures here)

pub read_node-returns : goal.read_node-returns
read_node-returns t c = read-bracket _ _ _ _ _ _ _ _ _ c.skip_blanks-at.ensures (byte-there _ _ is_open (sym c.has_byte.ensures ∙ c.if-not-has_byte.false)) c.if-depth-eq0.false c.read_nodes.ensures

pub read_nodes-loop-at-init : goal.read_nodes-loop-at-init
read_nodes-loop-at-init t c = sofar-none _ _ _ _ _ c.requires

pub read_nodes-overflow_add-next : goal.read_nodes-overflow_add-next
read_nodes-overflow_add-next t c = omega (arith, there c.args.text.now c.read_node-d.result.at 4 (byte-there _ _ is-comma (sym c.has_byte.ensures ∙ c.if-not-has_byte.false)) (omega arith), c.requires.short)

pub read_nodes-loop-at-smaller : goal.read_nodes-loop-at-smaller
read_nodes-loop-at-smaller t c = turn-less _ _ _ _ _ _ _ _ _ _ _ _ c.loop-at.invariant c.read_node-d.ensures (byte-there _ _ is-comma (sym c.has_byte.ensures ∙ c.if-not-has_byte.false))

pub read_nodes-loop-at-preserved : goal.read_nodes-loop-at-preserved
read_nodes-loop-at-preserved t c = sofar-more _ _ _ _ _ _ _ _ _ _ _ _ c.loop-at.invariant c.read_node-d.ensures (byte-there _ _ is-comma (sym c.has_byte.ensures ∙ c.if-not-has_byte.false))

pub read_nodes-past_closing-e-requires : goal.read_nodes-past_closing-e-requires
read_nodes-past_closing-e-requires t c = last-stop _ _ _ _ _ _ _ _ _ _ _ _ c.loop-at.invariant c.read_node-d.ensures

pub read_nodes-returns-then-text-e : goal.read_nodes-returns-then-text-e
read_nodes-returns-then-text-e t c =
    children-fault _ _ _ _ _ _ _ _ _ _ _ _ c.loop-at.invariant c.read_node-d.ensures _ _ _ _ (byte-else _ _ is-comma (sym c.has_byte.ensures ∙ c.if-not-has_byte.true))
    c.past_closing-e.ensures c.if-text-e.true c.fault.ensures

pub read_nodes-returns : goal.read_nodes-returns
read_nodes-returns t c =
    children-read _ _ _ _ _ _ _ _ _ _ _ _ c.loop-at.invariant c.read_node-d.ensures _ _ (byte-else _ _ is-comma (sym c.has_byte.ensures ∙ c.if-not-has_byte.true))
    c.past_closing-e.ensures c.if-text-e.false c.note.ensures
