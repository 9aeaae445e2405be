-- `store::lists::agrees` meets its contract. Assumes nothing.
use Rattle.std.proofs.Common.{◌∙◌}
use Rattle.store.proofs.lists.agrees.Goals as goal

pub returns : goal.returns
returns c =
    record {
      inner = c.union_at-inner.result;
      union = rw c.common.ensures at c.union_at-inner.ensures;
      test = c.is_same.ensures ∙ rw c.common-2.ensures;
    }
