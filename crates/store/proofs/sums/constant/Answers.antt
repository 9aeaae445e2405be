-- `store::sums::constant` meets its contract: the list has a constant for each taxon, and behind its end 0 is read. Assumes nothing.
use Rattle.std.proofs.Common.{◌∙◌, arith}
use Rattle.store.specs.SumLaws.{constant-none, constant-second, constant-first}
use Rattle.store.proofs.sums.constant.Goals as goal

pub taxa-requires : goal.taxa-requires
taxa-requires c = c.requires.head_at.head-there

pub returns-then-taxa-i : goal.returns-then-taxa-i
returns-then-taxa-i c = constant-none _ _ _ (omega arith)

pub second_constant-requires : goal.second_constant-requires
second_constant-requires c = record { head_bytes_in_bounds = c.requires.head_at.head-there; i_bound = c.requires.i_bound }

pub returns-then-second : goal.returns-then-second
returns-then-second c = c.second_constant.ensures ∙ constant-second _ _ _ c.if-second.true (omega arith)

pub first_constant-requires : goal.first_constant-requires
first_constant-requires c = record { head_bytes_in_bounds = c.requires.head_at.head-there; i_bound = c.requires.i_bound }

pub returns : goal.returns
returns c = c.first_constant.ensures.value ∙ constant-first _ _ _ c.if-second.false (omega arith)
