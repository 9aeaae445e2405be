-- `store::header::opening_good` meets its contract: its checks, one after the other. Assumes nothing.
use Rattle.std.proofs.Common.{sym, ◌∙◌}
use Rattle.theorems.specs.OpeningLaws.{in-range}
use Rattle.opening.specs.GivenLaws.{failed, passed}
use Rattle.store.specs.HeaderLaws.{opening-range, opening-constants, opening-names}
use Rattle.store.proofs.header.opening_good.Goals as goal

pub returns-then-not-numbers_good : goal.returns-then-not-numbers_good
returns-then-not-numbers_good c = sym (opening-range _ (failed _ _ c.numbers_good.ensures c.if-not-numbers_good.true-raw))

pub constants_good-requires : goal.constants_good-requires
constants_good-requires c = let a = passed _ _ c.numbers_good.ensures c.if-not-numbers_good.false-raw in record { head_bytes_in_bounds = c.requires; s_bound = (in-range _ a).most-taxa }

pub returns-then-not-constants_good : goal.returns-then-not-constants_good
returns-then-not-constants_good c =
    let a = passed _ _ c.numbers_good.ensures c.if-not-numbers_good.false-raw in
    sym (opening-constants _ a (failed _ _ c.constants_good.ensures c.if-not-constants_good.true-raw))

pub names_good-requires : goal.names_good-requires
names_good-requires c = let a = passed _ _ c.numbers_good.ensures c.if-not-numbers_good.false-raw in record { head_bytes_in_bounds = c.requires; taxa_bound = rw c.taxa.ensures.value (in-range _ a).most-taxa }

pub returns : goal.returns
returns c =
    let a = passed _ _ c.numbers_good.ensures c.if-not-numbers_good.false-raw in
    let b = passed _ _ c.constants_good.ensures c.if-not-constants_good.false-raw in
    c.names_good.ensures ∙ sym (opening-names _ a b _ c.taxa.ensures.value)
