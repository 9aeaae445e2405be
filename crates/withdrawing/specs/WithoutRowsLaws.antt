-- Parts without the rows that do not stay, field by field. Assumes nothing.
--
--   new p                         those of the parts p
--   old p j                       the row that the new row j was
--   kept p                        the rows that stay, in order of mask
--   leave-splits, leave-trees     the splits are the rows left, and the trees are those there were
--   leave_fits                    so the splits are no more
--   mask-of, identifier-of, count_of, link-of     the fields of the new row j
--   leave-mask                    a row that stays has its mask where it is
--   leave-list                    a tree lists the rows that its rows become
--   order-of, order-length, start_of              the order, and the starts of chains
use Rattle.std.specs.Prelude.{ℕ, ◌≤◌, ◌<◌, ◌≡◌, true, length, get_or}
use Rattle.std.proofs.Common.{arith, ap, ◌∙◌}
use mathlib.Core.List.{List, [], map}
use Rattle.std.proofs.Math.ListN.{get_or-map}
use Rattle.std.proofs.Math.ListN as lists
use Rattle.trees.specs.Plain.{keep}
use Rattle.layout.specs.Store.{Parts, splits_in, trees_in, mask_in, identifier_in, count_in, link_in, start_in, order_in, list_in}
use Rattle.layout.specs.UpToLaws.{length-map, map_at}
use Rattle.withdrawing.specs.Left.{stays, rows_left, new_row, new_entry, without_rows}
use Rattle.withdrawing.specs.LeftLaws.{left-length, left_at, row-most, row-rises}

module _ (p : Parts) where
  abbrev pub new : Parts
  new = without_rows p

  -- the row that the new row j was
  abbrev pub old : ℕ → ℕ
  old j = get_or (rows_left p (splits_in p)) j 0

  abbrev pub kept : List ℕ
  kept = keep (stays p) p.order

  pub leave-splits : splits_in new ≡ new_row p (splits_in p)
  unfolding without_rows
  leave-splits = length-map (mask_in p) (rows_left p (splits_in p))

  pub leave-trees : trees_in new ≡ trees_in p
  unfolding without_rows
  leave-trees = lists.length-map p.lists (map (new_row p))

  pub leave_fits : splits_in new ≤ splits_in p
  leave_fits = omega (arith, leave-splits, row-most p (splits_in p))

  -- ---- each field

  module _ (j : ℕ) (h : j < new_row p (splits_in p)) where
    within : j < length (rows_left p (splits_in p))
    within = omega (arith, left-length p (splits_in p))

    pub mask-of : mask_in new j ≡ mask_in p (old j)
    unfolding without_rows
    mask-of = map_at (mask_in p) (rows_left p (splits_in p)) j within

    pub identifier-of : identifier_in new j ≡ identifier_in p (old j)
    unfolding without_rows
    identifier-of = map_at (identifier_in p) (rows_left p (splits_in p)) j within

    pub count_of : count_in new j ≡ count_in p (old j)
    unfolding without_rows
    count_of = map_at (count_in p) (rows_left p (splits_in p)) j within

    pub link-of : link_in new j ≡ new_entry p (link_in p (old j))
    unfolding without_rows
    link-of = map_at (λ r. new_entry p (link_in p r)) (rows_left p (splits_in p)) j within

  pub leave-mask : (r : ℕ) → r < splits_in p → stays p r ≡ true → mask_in new (new_row p r) ≡ mask_in p r
  leave-mask r h e = mask-of (new_row p r) (row-rises p r (splits_in p) e h) ∙ ap (mask_in p) (left_at p r (splits_in p) e h)

  pub leave-list : (i : ℕ) → list_in new i ≡ map (new_row p) (list_in p i)
  unfolding without_rows
  leave-list i = get_or-map (map (new_row p)) p.lists i []

  pub order-of : (j : ℕ) → j < length kept → order_in new j ≡ new_row p (get_or kept j 0)
  unfolding without_rows
  order-of j h = map_at (new_row p) kept j h

  pub order-length : length new.order ≡ length kept
  unfolding without_rows
  order-length = length-map (new_row p) kept

  pub start_of : (q : ℕ) → q < length p.starts → start_in new q ≡ new_entry p (start_in p q)
  unfolding without_rows
  start_of q h = map_at (new_entry p) p.starts q h
