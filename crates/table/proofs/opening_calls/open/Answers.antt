-- `table::opening_calls::open` meets its contract: the opening's checks in their order, then the head and what lies behind it. Assumes nothing.
use Prim.Native.Nat.{ℕ}
use mathlib.Core.Path.{refl, ap, ◌∙◌}
use native.Mathlib.Omega.{arith}
use lib.ListN.{length-replicate}
use Rattle.trees.specs.Names.{good_names}
use Rattle.theorems.specs.OpeningLaws.{in-range}
use Rattle.answers.specs.Answers.{refusal_number}
use Rattle.opening.specs.GivenLaws.{failed, passed}
use Rattle.table.specs.OpenLaws.{not-in-range, not-constants, not-names, not-long, all-passed, passed-good, names-given, refused_as, done-as, lent-head, lent-rest, head-then-rest}
use Rattle.table.proofs.opening_calls.open.Goals as goal

pub returns-then-not-numbers_in_range : goal.returns-then-not-numbers_in_range
unfolding refusal_number
returns-then-not-numbers_in_range c = refused_as _ 2 _ _ (not-in-range _ _ _ _ _ (failed _ _ (c.numbers_in_range.ensures _) c.if-not-numbers_in_range.true-raw)) refl

pub returns-then-not-constants_good : goal.returns-then-not-constants_good
unfolding refusal_number
returns-then-not-constants_good c =
    let a = passed _ _ (c.numbers_in_range.ensures _) c.if-not-numbers_in_range.false-raw in
    refused_as _ 2 _ _ (not-constants _ _ _ _ _ a (failed _ _ (c.constants_good.ensures _ _ _ _) c.if-not-constants_good.true-raw)) refl

pub read_names-requires : goal.read_names-requires
read_names-requires c = let a = passed _ _ (c.numbers_in_range.ensures c.args.kept) c.if-not-numbers_in_range.false-raw in record { head_bytes_in_bounds = omega (arith, length-replicate {A = ℕ} 4096 0); taxa_bound = (in-range _ a).most-taxa }

pub returns-then-not-read_names : goal.returns-then-not-read_names
unfolding refusal_number
returns-then-not-read_names c =
    let a = passed _ _ (c.numbers_in_range.ensures _) c.if-not-numbers_in_range.false-raw in
    let b = passed _ _ (c.constants_good.ensures _ _ _ _) c.if-not-constants_good.false-raw in
    refused_as _ 3 _ _ (not-names _ _ _ _ _ a b (failed _ _ c.read_names.ensures.value c.if-not-read_names.true-raw)) refl

pub store_size-requires : goal.store_size-requires
store_size-requires c = passed _ _ (c.numbers_in_range.ensures _) c.if-not-numbers_in_range.false-raw

pub returns-then-s-store_size : goal.returns-then-s-store_size
unfolding refusal_number
returns-then-s-store_size c =
    let a = passed _ _ (c.numbers_in_range.ensures _) c.if-not-numbers_in_range.false-raw in
    let b = passed _ _ (c.constants_good.ensures _ _ _ _) c.if-not-constants_good.false-raw in
    let g = passed _ _ c.read_names.ensures.value c.if-not-read_names.false-raw in
    refused_as _ 4 _ _ (not-long _ _ _ _ _ a b g (rw c.store_size.ensures at c.if-s-store_size.true)) refl

pub write_head-requires : goal.write_head-requires
write_head-requires c =
    let a = passed _ _ (c.numbers_in_range.ensures _) c.if-not-numbers_in_range.false-raw in
    let b = passed _ _ (c.constants_good.ensures _ _ _ _) c.if-not-constants_good.false-raw in
    let g = passed _ _ c.read_names.ensures.value c.if-not-read_names.false-raw in
    let q = c.read_names.ensures.names_after (c.if-not-read_names.false) in record { head_bytes_in_bounds = lent-head _ _ (rw c.store_size.ensures at c.if-s-store_size.false); kept_value = a; second_value = b; head_bytes_in_bounds_2 = omega (arith, c.names-2-1.given); names_value = ap (good_names _) q ∙ g }

pub clear_rest-requires : goal.clear_rest-requires
clear_rest-requires c =
    let s = c.args.s.now in
    lent-rest s _ _ c.write_head.ensures.s_after_2 c.write_head.ensures.s_len_unchanged (rw c.store_size.ensures at c.if-s-store_size.false)

pub returns : goal.returns
returns c =
    let a = passed _ _ (c.numbers_in_range.ensures _) c.if-not-numbers_in_range.false-raw in
    let b = passed _ _ (c.constants_good.ensures _ _ _ _) c.if-not-constants_good.false-raw in
    let g = passed _ _ c.read_names.ensures.value c.if-not-read_names.false-raw in
    let q = c.read_names.ensures.names_after (c.if-not-read_names.false) in
    let l = rw c.store_size.ensures at c.if-s-store_size.false in
    done-as _ _ _ _ (all-passed _ _ _ _ _ a b g l)
    (head-then-rest _ _ _ (names-given _ _ _ _ _ _ q c.write_head.ensures.s_after_2) c.write_head.ensures.s_len_unchanged l c.write_head.ensures.s_unchanged _ (passed-good _ _ _ _ a b g) c.write_head.ensures.s_after_3 c.write_head.ensures.s_after_4
    (λ i. omega (arith, c.slice_known-2-1.given i)) c.clear_rest.ensures)
