-- `opening::numbers_in_range` meets its contract: the definition, one range after the other. Assumes nothing.
use mathlib.Core.Path.{sym, ◌∙◌}
use native.Mathlib.Omega.{arith}
use Rattle.trees.specs.Opening.{most_room}
use Rattle.opening.specs.GivenLaws.{failed, passed, between-most, range-not-taxa, range-not-lanes, range-not-trees, range-not-splits, range-places, flag-most}
use Rattle.opening.proofs.numbers_in_range.Goals as goal

pub returns-then-not-is_between : goal.returns-then-not-is_between
returns-then-not-is_between c = λ _. sym (range-not-taxa _ (failed _ _ c.is_between.ensures c.if-not-is_between.true-raw))

pub returns-then-not-is_between-2 : goal.returns-then-not-is_between-2
returns-then-not-is_between-2 c =
    λ _.
    let a = passed _ _ c.is_between.ensures c.if-not-is_between.false-raw in
    sym (range-not-lanes _ a (failed _ _ c.is_between-2.ensures c.if-not-is_between-2.true-raw))

pub returns-then-not-is_between-3 : goal.returns-then-not-is_between-3
returns-then-not-is_between-3 c =
    λ _.
    let a = passed _ _ c.is_between.ensures c.if-not-is_between.false-raw in
    let b = passed _ _ c.is_between-2.ensures c.if-not-is_between-2.false-raw in
    sym (range-not-trees _ a b (failed _ _ c.is_between-3.ensures c.if-not-is_between-3.true-raw))

pub returns-then-not-is_between-4 : goal.returns-then-not-is_between-4
returns-then-not-is_between-4 c =
    λ _.
    let a = passed _ _ c.is_between.ensures c.if-not-is_between.false-raw in
    let b = passed _ _ c.is_between-2.ensures c.if-not-is_between-2.false-raw in
    let t = passed _ _ c.is_between-3.ensures c.if-not-is_between-3.false-raw in
    sym (range-not-splits _ a b t (failed _ _ c.is_between-4.ensures c.if-not-is_between-4.true-raw))

pub overflow_mul-split_room : goal.overflow_mul-split_room
overflow_mul-split_room c =
    let a = c.args in
    let m = between-most 1 most_room a.split_room (passed _ _ c.is_between-4.ensures c.if-not-is_between-4.false-raw) in
    omega arith

pub returns : goal.returns
returns c =
    λ kept.
    let a = passed _ _ c.is_between.ensures c.if-not-is_between.false-raw in
    let b = passed _ _ c.is_between-2.ensures c.if-not-is_between-2.false-raw in
    let t = passed _ _ c.is_between-3.ensures c.if-not-is_between-3.false-raw in
    let s = passed _ _ c.is_between-4.ensures c.if-not-is_between-4.false-raw in
    c.is_between-5.ensures ∙ sym (range-places _ a b t s (flag-most kept))
