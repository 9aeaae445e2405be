-- No more bytes are held than there is room for.
use Rattle.std.proofs.Common.{◌≤◌, length}
use Rattle.filing.proofs.reading.fill.Given as goal

abbrev pub invariant-loop : goal.invariant-loop
invariant-loop g l = l.held.bytes ≤ length l.buf
