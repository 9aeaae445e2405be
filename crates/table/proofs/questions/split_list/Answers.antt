-- `table::questions::split_list` meets its contract. Assumes nothing.
use mathlib.Core.Logic.{inl, inr}
use native.Mathlib.Omega.{arith}
use Rattle.opening.specs.GivenLaws.{failed, passed}
use Rattle.store.specs.LentLaws.{not-whole}
use Rattle.rows.specs.ReadLaws.{long}
use Rattle.table.specs.SplitListLaws.{list-refused, list-short, list-given}
use Rattle.table.proofs.questions.split_list.Goals as goal

pub returns-then-not-is_whole : goal.returns-then-not-is_whole
returns-then-not-is_whole c = let whole = list-refused _ _ _ _ (not-whole _ _ (failed _ _ c.is_whole.ensures c.if-not-is_whole.true-raw)) in record { result_value = whole.0; masks_after = whole.1.0; counts_after = whole.1.1 }

pub splits_held-held-requires : goal.splits_held-held-requires
splits_held-held-requires c = long _ (passed _ _ c.is_whole.ensures c.if-not-is_whole.false-raw)

pub returns-then-masks-held : goal.returns-then-masks-held
returns-then-masks-held c = let whole = list-short _ _ _ (passed _ _ c.is_whole.ensures c.if-not-is_whole.false-raw) (inl (omega arith)) in record { result_value = whole.0; masks_after = whole.1.0; counts_after = whole.1.1 }

pub returns-then-counts-held : goal.returns-then-counts-held
returns-then-counts-held c = let whole = list-short _ _ _ (passed _ _ c.is_whole.ensures c.if-not-is_whole.false-raw) (inr (omega arith)) in record { result_value = whole.0; masks_after = whole.1.0; counts_after = whole.1.1 }

pub copy_splits-requires : goal.copy_splits-requires
copy_splits-requires c = record { s_value = passed _ _ c.is_whole.ensures c.if-not-is_whole.false-raw; s_in_bounds = omega arith; s_in_bounds_2 = omega arith }

pub returns : goal.returns
returns c = let w = passed _ _ c.is_whole.ensures c.if-not-is_whole.false-raw in let whole = list-given _ _ _ w _ _ _ c.splits_held-held.ensures.value (omega arith) (omega arith) c.copy_splits.ensures.masks_after c.copy_splits.ensures.counts_after in record { result_value = whole.0; masks_after = whole.1.0; counts_after = whole.1.1 }
