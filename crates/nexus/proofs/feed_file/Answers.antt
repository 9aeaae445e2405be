-- `nexus::feed_file` meets its contract: each return is a law. Assumes nothing.
use mathlib.Core.Path.{subst, sym, ap, ◌∙◌}
use native.Mathlib.Omega.{arith}
use borrow.Author.Tests.{not-true, not-false}
use Rattle.trees.specs.Names.{different}
use Rattle.trees.specs.NexusCall.{keys_of}
use Rattle.store.specs.LentLaws.{not-whole}
use Rattle.opening.specs.GivenLaws.{failed, passed}
use Rattle.nexus.specs.KeyedLaws.{file-labelled}
use Rattle.nexus.specs.Blocks.{FileAs}
use Rattle.nexus.specs.FileLaws.{malformed, file-found}
use Rattle.nexus.specs.FedLaws.{nexus-refused, nexus-malformed, nexus-repeats, nexus-short, nexus-done}
use Rattle.nexus.proofs.feed_file.Goals as goal

pub returns-then-not-is_whole : goal.returns-then-not-is_whole
returns-then-not-is_whole c =
    let a = c.args in
    nexus-refused _ a.s.now a.verdicts.now _ (not-whole a.s.now _ (failed _ _ c.is_whole.ensures c.if-not-is_whole.true-raw))

pub returns-in_default : goal.returns-in_default
returns-in_default c =
    let a = c.args in
    let w = passed _ _ c.is_whole.ensures c.if-not-is_whole.false-raw in
    nexus-refused _ a.s.now a.verdicts.now _
    (nexus-malformed a.s.now a.file.now a.verdicts.now w (malformed _ _ (subst (FileAs _ _) c.in_default.is c.read_file.ensures)))

pub slice_bounds-repeats-count : goal.slice_bounds-repeats-count
slice_bounds-repeats-count c =
    let g = file-found _ _ _ (subst (FileAs _ _) c.in-Some.is c.read_file.ensures) in
    g.2.order

pub slice_bounds-repeats-start : goal.slice_bounds-repeats-start
slice_bounds-repeats-start c =
    let g = file-found _ _ _ (subst (FileAs _ _) c.in-Some.is c.read_file.ensures) in
    omega (arith, g.2.order, g.2.within)

pub slice_bounds-repeats-end : goal.slice_bounds-repeats-end
slice_bounds-repeats-end c =
    let g = file-found _ _ _ (subst (FileAs _ _) c.in-Some.is c.read_file.ensures) in
    omega (arith, g.2.order, g.2.within)

pub repeats-requires : goal.repeats-requires
repeats-requires c =
    let g = file-found _ _ _ (subst (FileAs _ _) c.in-Some.is c.read_file.ensures) in
    g.2.placed

pub returns-then-repeats : goal.returns-then-repeats
returns-then-repeats c =
    let a = c.args in
    let w = passed _ _ c.is_whole.ensures c.if-not-is_whole.false-raw in
    let g = file-found _ _ _ (subst (FileAs _ _) c.in-Some.is c.read_file.ensures) in
    let d = ap (λ ps. different (keys_of ps)) g.2.pairs ∙ not-true _ (sym c.repeats.ensures ∙ c.if-repeats.true) in
    nexus-refused _ a.s.now a.verdicts.now _ (nexus-repeats a.s.now a.file.now a.verdicts.now w g.0 g.1 d)

pub returns-then-verdicts-n : goal.returns-then-verdicts-n
returns-then-verdicts-n c =
    let a = c.args in
    let w = passed _ _ c.is_whole.ensures c.if-not-is_whole.false-raw in
    let g = file-found _ _ _ (subst (FileAs _ _) c.in-Some.is c.read_file.ensures) in
    let d = ap (λ ps. different (keys_of ps)) g.2.pairs ∙ not-false _ (sym c.repeats.ensures ∙ c.if-repeats.false) in
    nexus-refused _ a.s.now a.verdicts.now _
    (nexus-short a.s.now a.file.now a.verdicts.now w g.0 g.1 d (omega (arith, g.2.trees, c.if-verdicts-n.true)))

pub slice_bounds-feed_trees-count : goal.slice_bounds-feed_trees-count
slice_bounds-feed_trees-count c =
    let g = file-found _ _ _ (subst (FileAs _ _) c.in-Some.is c.read_file.ensures) in
    g.2.order

pub slice_bounds-feed_trees-start : goal.slice_bounds-feed_trees-start
slice_bounds-feed_trees-start c =
    let g = file-found _ _ _ (subst (FileAs _ _) c.in-Some.is c.read_file.ensures) in
    omega (arith, g.2.order, g.2.within)

pub slice_bounds-feed_trees-end : goal.slice_bounds-feed_trees-end
slice_bounds-feed_trees-end c =
    let g = file-found _ _ _ (subst (FileAs _ _) c.in-Some.is c.read_file.ensures) in
    omega (arith, g.2.order, g.2.within)

pub feed_trees-requires : goal.feed_trees-requires
feed_trees-requires c =
    let w = passed _ _ c.is_whole.ensures c.if-not-is_whole.false-raw in
    let g = file-found _ _ _ (subst (FileAs _ _) c.in-Some.is c.read_file.ensures) in record { s_value = w; from_in_bounds = g.2.there; lines_at = record { texts = g.0.texts; count = g.2.trees; read = g.2.lines }; placed = g.2.placed; places_value = rw (← g.2.pairs) (file-labelled _ _ g.1); n_in_bounds = omega (arith, c.if-verdicts-n.false) }

pub returns : goal.returns
returns c =
    let a = c.args in
    let w = passed _ _ c.is_whole.ensures c.if-not-is_whole.false-raw in
    let g = file-found _ _ _ (subst (FileAs _ _) c.in-Some.is c.read_file.ensures) in
    nexus-done a.s.now a.file.now a.verdicts.now w g.0 g.1
    (ap (λ ps. different (keys_of ps)) g.2.pairs ∙ not-false _ (sym c.repeats.ensures ∙ c.if-repeats.false)) _
    (sym g.2.trees) (omega (arith, c.if-verdicts-n.false)) _ _
    (rw g.2.pairs (c.feed_trees.ensures.feeds g.0.texts g.2.trees g.2.lines))
