-- `splitfile::form::is_counted` meets its contract. Assumes nothing.
use Rattle.std.proofs.Common.{arith, ◌∙◌}
use Rattle.splitfile.specs.FormLaws.{counted-read}
use Rattle.splitfile.proofs.form.is_counted.Goals as goal

pub returns : goal.returns
returns c =
    let d = rw c.from-all.ensures at c.wrapping_sub_u64.ensures.value in
    rw c.from-all.ensures (counted-read _ _ _ _ _ _ (omega arith) (omega arith) (omega arith) d (c.from-count.ensures ∙ c.count_of.ensures) (c.from-of.ensures ∙ c.trees_of.ensures))
