-- `withdrawing::withdraw` meets its contract: each return is a law. Assumes nothing.
use native.Mathlib.Omega.{arith}
use mathlib.Core.Path.{sym, ◌∙◌}
use Rattle.layout.specs.WholeFacts.{whole-at-facts}
use Rattle.withdrawing.specs.WithdrawLaws.{withdraw-not-whole, withdraw-no-tree, unlisted-sound, withdraw-done}
use Rattle.withdrawing.proofs.withdraw.Goals as goal

pub returns-then-not-is_whole : goal.returns-then-not-is_whole
returns-then-not-is_whole c = withdraw-not-whole _ _ (sym c.is_whole.ensures ∙ c.if-not-is_whole.true)

pub trees_held-requires : goal.trees_held-requires
trees_held-requires c = (whole-at-facts _ (sym c.is_whole.ensures ∙ c.if-not-is_whole.false)).head.head-there

pub returns-then-trees_held-k : goal.returns-then-trees_held-k
returns-then-trees_held-k c = withdraw-no-tree _ _ (sym c.is_whole.ensures ∙ c.if-not-is_whole.false) (omega arith)

pub unlist-requires : goal.unlist-requires
unlist-requires c = record { s_value = sym c.is_whole.ensures ∙ c.if-not-is_whole.false; k_bound = omega arith }

-- the bytes that the tree was taken from
pub drop_rows-requires : goal.drop_rows-requires
drop_rows-requires c = unlisted-sound _ _ (sym c.is_whole.ensures ∙ c.if-not-is_whole.false) (omega arith) _ c.unlist.ensures

pub returns : goal.returns
returns c = withdraw-done _ _ (sym c.is_whole.ensures ∙ c.if-not-is_whole.false) (omega arith) _ c.unlist.ensures _ c.drop_rows.ensures
