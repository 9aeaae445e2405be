-- `nexus::plain::past_quotes` meets its contract. Assumes nothing.
use native.Mathlib.Omega.{arith}
use Rattle.nexus.specs.KeptLaws.{kept-quoted, kept-unpaired}
use Rattle.nexus.proofs.plain.past_quotes.Goals as goal

pub returns-then-raw-end : goal.returns-then-raw-end
returns-then-raw-end c =
    record {
      past = omega arith;
      kept = λ free. kept-unpaired _ _ free c.requires.0 c.requires.1 _ c.past_next-end.ensures c.if-raw-end.true;
    }

pub returns : goal.returns
returns c =
    let n = c.past_next-end.ensures in
    record {
      past = omega (arith, (n.found c.if-raw-end.false).0);
      kept = λ free. kept-quoted _ _ free c.requires.0 c.requires.1 _ n c.if-raw-end.false;
    }
