-- `lengths::length_at` meets its contract. Assumes nothing.
use mathlib.Core.Path.{◌∙◌}
use Rattle.lengths.specs.ReadLaws.{length_taken}
use Rattle.lengths.proofs.length_at.Goals as goal

pub returns : goal.returns
returns c =
    let t = length_taken _ _ _ _ c.read_decimal-d.result c.read_exponent-x.result c.requires.length_stands c.requires.text_len_bound c.is_minus-minus.ensures c.past_sign.ensures c.read_decimal-d.ensures c.read_exponent-x.ensures in
    record { run = t.0; value = c.scaled_by.ensures ∙ t.1 }
