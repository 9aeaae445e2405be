-- Each of the parts of bytes, as it is read. Assumes nothing.
--
--   masks-at, identifiers-at, counts-at, links-at, order-at, starts-at, branches_at, lengths-at, texts-at     where the part stands
--   list-is                                                                                                  where a tree's list stands
use Rattle.std.specs.Prelude.{ℕ, ◌<◌, ◌≡◌}
use Rattle.std.proofs.Math.Path.{refl}
use mathlib.Core.List.{List, []}
use Rattle.fields.specs.Field.{number}
use Rattle.head.specs.Head.{up_to, numbers_at}
use Rattle.head.specs.HeadLaws.{up_to-at}
use Rattle.layout.specs.Columns.{column_at}
use Rattle.layout.specs.Store.{lane_from, tree_from, masks_from, identifiers_from, counts_from, links_from, order_from, places_from, lengths_from, list_from, branches_of, lengths_at, text_from, parts_at, trees_held_at, list_at}
use Rattle.layout.specs.StoreLaws.{trees-held-is}

module _ (s : List ℕ) where
  pub masks-at : (parts_at s).masks ≡ column_at 8 (masks_from (numbers_at s)) (number 2 s 12) s
  unfolding parts_at
  masks-at = refl

  pub identifiers-at : (parts_at s).identifiers ≡ column_at 8 (identifiers_from (numbers_at s)) (number 2 s 12) s
  unfolding parts_at
  identifiers-at = refl

  pub counts-at : (parts_at s).counts ≡ column_at 4 (counts_from (numbers_at s)) (number 2 s 12) s
  unfolding parts_at
  counts-at = refl

  pub links-at : (parts_at s).links ≡ column_at 2 (links_from (numbers_at s)) (number 2 s 12) s
  unfolding parts_at
  links-at = refl

  pub order-at : (parts_at s).order ≡ column_at 2 (order_from (numbers_at s)) (number 2 s 12) s
  unfolding parts_at
  order-at = refl

  pub starts-at : (parts_at s).starts ≡ column_at 2 (places_from (numbers_at s)) (numbers_at s).places s
  unfolding parts_at
  starts-at = refl

  pub list-is : (i : ℕ) → i < trees_held_at s → list_at s i ≡ list_from s (tree_from (numbers_at s) i)
  unfolding parts_at
  list-is i h = up_to-at _ (number 2 s 10) i [] (rw (← trees-held-is s) h)

  pub branches_at : (parts_at s).branches
      ≡ up_to (λ i. lengths_at s (lengths_from (numbers_at s) i) (branches_of (numbers_at s) (number 2 s (tree_from (numbers_at s) i)))) (number 2 s 10)
  unfolding parts_at
  branches_at = refl

  pub lengths-at : (parts_at s).lengths ≡ up_to (λ l. number 2 s (lane_from l)) (numbers_at s).lanes
  unfolding parts_at
  lengths-at = refl

  pub texts-at : (parts_at s).texts ≡ up_to (λ l. text_from s (lane_from l)) (numbers_at s).lanes
  unfolding parts_at
  texts-at = refl
