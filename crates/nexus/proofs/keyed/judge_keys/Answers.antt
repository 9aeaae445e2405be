-- `nexus::keyed::judge_keys` meets its contract: nothing is told, or the verdict on the plain text. Assumes nothing.
use mathlib.Core.Path.{refl}
use native.Mathlib.Omega.{arith}
use Rattle.head.specs.Head.{opening_at}
use Rattle.layout.specs.WholeFacts.{whole-at-facts}
use Rattle.nexus.specs.Keyed.{KeyedAs}
use Rattle.nexus.specs.KeyedLaws.{behind-few, bare-stands}
use Rattle.nexus.specs.NamingLaws.{bare_some}
use Rattle.nexus.proofs.keyed.judge_keys.Goals as goal

pub kept-requires : goal.kept-requires
kept-requires c = (whole-at-facts _ c.requires.s_value).head.head-there

pub returns-then-kept-ne0 : goal.returns-then-kept-ne0
returns-then-kept-ne0 c = unfold KeyedAs in refl

pub returns-in_err-from : goal.returns-in_err-from
returns-in_err-from c = rw c.from_residual.ensures (unfold KeyedAs in refl)

pub judge_bare-requires : goal.judge_bare-requires
unfolding opening_at
judge_bare-requires c =
    let r = bare_some _ _ c.in_ok-from.ensures in
    let b = r.1 in
    let k = c.if-kept-ne0.false in record { s_value = (c.requires.s_value, omega (arith, k, c.kept.ensures.value)); indexed = c.requires.indexed; text_len_bound = (b.short, behind-few c.args.raw.now _ r.0, b.quoteless); placed = c.requires.placed; indexed_2 = c.requires.indexed_2; places_value = c.requires.places_value }

pub returns : goal.returns
returns c =
    let b = (bare_some _ _ c.in_ok-from.ensures).1 in
    c.judge_bare.ensures _ (bare-stands _ _ b)

pub slice_bounds-judge_bare-start : goal.slice_bounds-judge_bare-start
slice_bounds-judge_bare-start c = (bare_some _ _ c.in_ok-from.ensures).0

pub slice_bounds-judge_bare-count : goal.slice_bounds-judge_bare-count
slice_bounds-judge_bare-count c = (bare_some _ _ c.in_ok-from.ensures).0
