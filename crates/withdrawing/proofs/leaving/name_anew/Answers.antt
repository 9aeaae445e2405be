-- `leaving::name_anew` meets its contract: the lists, the links and the starts are named anew, each elsewhere. Assumes nothing.
use native.Mathlib.Omega.{arith}
use Rattle.withdrawing.specs.NamedLaws.{links-ask, starts-ask, named-anew}
use Rattle.withdrawing.proofs.leaving.name_anew.Goals as goal

pub rename-requires : goal.rename-requires
rename-requires c = let q = links-ask _ _ c.requires.head_at.0 c.requires.head_at.1 c.requires.becoming _ c.rename_lists.ensures c.args.n c.links_from-links.result c.requires.n_value c.links_from-links.ensures.value in record { n_in_bounds = q.0; named = q.1; add_bound = omega arith }

pub rename-requires-2 : goal.rename-requires-2
rename-requires-2 c =
    let q = starts-ask _ _ c.requires.head_at.0 c.requires.head_at.1 c.requires.becoming _ c.rename_lists.ensures c.args.n c.requires.n_value _ (rw c.links_from-links.ensures.value at c.rename.ensures)
    c.places-places.result c.places_from-starts.result c.places-places.ensures.value c.places_from-starts.ensures.value in record { n_in_bounds = q.0; named = q.1; add_bound = omega arith }

pub returns : goal.returns
returns c =
    named-anew _ _ c.requires.head_at.0 c.requires.head_at.1 c.requires.becoming _ c.rename_lists.ensures c.args.n c.requires.n_value _ (rw c.links_from-links.ensures.value at c.rename.ensures)
    _ (rw (c.places_from-starts.ensures.value, c.places-places.ensures.value) at c.rename-2.ensures)
