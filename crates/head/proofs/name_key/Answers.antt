-- `head::name_key` meets its contract: a name is a slice of the bytes. Assumes nothing.
use Rattle.std.proofs.Common.{◌∙◌}
use Rattle.head.specs.HeadLaws.{name-slice}
use Rattle.head.proofs.name_key.Goals as goal

pub returns : goal.returns
returns c =
    let a = c.args in
    let q = c.key_of.ensures in
    (q.0 ∙ rw (name-slice a.s.now a.i, c.name_length.ensures.0), q.1)
