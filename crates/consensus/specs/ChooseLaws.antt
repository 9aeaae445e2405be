-- Laws of the loop that chooses splits, a split at a time. Assumes nothing.
--
--   read_below                        the row of a split is one of the rows
--   from_start, from_end              all are chosen from the first split on, and none behind the last
--   from-takes, from-leaves           from split k on: it is in enough trees, or not
--   choose-start, choose-end          before the first split, and behind the last
--   choose-takes, choose-leaves       split k is in enough trees, or not
--   choose-room                       and where it is, the list has a place for it
use Rattle.std.specs.Prelude.{ℕ, ◌+◌, ◌≤◌, ◌<◌, ◌≡◌, Bool, true, false, List, [], ◌∷◌, ◌++◌, length, get_or, set, take, drop}
use Rattle.std.proofs.Common.{add-one, arith, ap, ◌∙◌, append-nil, length-append, drop_of_length-le, length-take-le, take-suc-set, le-leb}
use Rattle.std.proofs.Math.Path.{sym}
use Rattle.std.proofs.Math.Seq.{append_snoc, drop-cons}
use Rattle.std.proofs.lemmas.Bool.{lt-leb}
use Rattle.trees.specs.Plain.{keep}
use Rattle.trees.specs.Consensus.{count}
use Rattle.layout.specs.Store.{parts_at, splits_held_at, mask_at, order_at, masks_at, held_at}
use Rattle.layout.specs.StoreLaws.{shaped-at}
use Rattle.layout.specs.WholeStore.{whole_at}
use Rattle.layout.specs.OrderLaws.{masks-length, number-mask}
use Rattle.rows.specs.ReadLaws.{row_below}
use Rattle.store.specs.RecordedAtLaws.{count_at_lem, recorded-at}
use Rattle.consensus.specs.Chosen.{in_enough, chosen, chosen_from, Chose, ReadSplit}

-- ---- the list: its first n places hold splits, and `rest` is still to come

module _ (list rest : List ℕ) (n x : ℕ) where
  place-left : (all : List ℕ) → take n list ++ x ∷ rest ≡ all → n ≤ length list → length all ≤ length list → n < length list
  place-left all e h l = omega (arith, ap length e, length-append (take n list) (x ∷ rest), length-take-le n list h)

  place-taken : n < length list → take (n + 1) (set list n x) ++ rest ≡ take n list ++ x ∷ rest
  place-taken h = rw (add-one n, take-suc-set list n x h) (append_snoc (take n list) x rest)

-- ---- the splits in order

module _ (p : ℕ → Bool) (l : List ℕ) (k : ℕ) (h : k < length l) where
  keep-takes : p (get_or l k 0) ≡ true → keep p (drop k l) ≡ get_or l k 0 ∷ keep p (drop (k + 1) l)
  unfolding keep
  keep-takes e = rw (add-one k, drop-cons l k 0 h, e)

  keep-leaves : p (get_or l k 0) ≡ false → keep p (drop k l) ≡ keep p (drop (k + 1) l)
  unfolding keep
  keep-leaves e = rw (add-one k, drop-cons l k 0 h, e)

module _ (s : List ℕ) (w : whole_at s ≡ true) where
  pub read_below : {k row : ℕ} → k < splits_held_at s → row ≡ order_at s k → row < splits_held_at s
  read_below {k} h e = rw e (row_below s w k h)

  pub from_start : (least : ℕ) → chosen_from least s 0 ≡ chosen least (held_at s).trees
  unfolding chosen chosen_from
  from_start least = sym (ap (keep (in_enough least (held_at s).trees)) (recorded-at s w))

  pub from_end : (least k : ℕ) → splits_held_at s ≤ k → chosen_from least s k ≡ []
  unfolding chosen_from keep
  from_end least k h = rw (drop_of_length-le (masks_at s) {i = k} (omega (arith, masks-length (parts_at s) (shaped-at s).order)))

  module _ {k row c : ℕ} (r : ReadSplit s k row c) where
    at-k : k < length (masks_at s)
    at-k = omega (arith, masks-length (parts_at s) (shaped-at s).order, r.held)

    mask_is : get_or (masks_at s) k 0 ≡ mask_at s row
    mask_is = number-mask (parts_at s) (shaped-at s).order k r.held ∙ ap (mask_at s) (sym r.row_is)

    in-trees : count (held_at s).trees (get_or (masks_at s) k 0) ≡ c
    in-trees = rw mask_is (count_at_lem s w row (read_below r.held r.row_is)) ∙ sym r.count-is

    pub from-takes : (least : ℕ) → least ≤ c → chosen_from least s k ≡ mask_at s row ∷ chosen_from least s (k + 1)
    unfolding chosen_from in_enough
    from-takes least e = rw mask_is at (keep-takes (in_enough least (held_at s).trees) (masks_at s) k at-k (rw in-trees (le-leb least c e)))

    pub from-leaves : (least : ℕ) → c < least → chosen_from least s k ≡ chosen_from least s (k + 1)
    unfolding chosen_from in_enough
    from-leaves least e = keep-leaves (in_enough least (held_at s).trees) (masks_at s) k at-k (rw in-trees (lt-leb least c e))

  -- ---- the loop

  pub choose-start : (least : ℕ) (list : List ℕ) → Chose least s list 0 0
  choose-start least list = record { all = from_start least }

  module _ {least n k : ℕ} {list : List ℕ} (v : Chose least s list n k) where
    pub choose-end : splits_held_at s ≤ k → take n list ≡ chosen least (held_at s).trees
    choose-end h = sym (append-nil (take n list)) ∙ (rw (from_end least k h) at v.all)

    module _ {row c : ℕ} (r : ReadSplit s k row c) where
      pub choose-leaves : c < least → Chose least s list n (k + 1)
      choose-leaves e = record { all = rw (from-leaves r least e) at v.all }

      module _ (e : least ≤ c) where
        taken : take n list ++ mask_at s row ∷ chosen_from least s (k + 1) ≡ chosen least (held_at s).trees
        taken = rw (from-takes r least e) at v.all

        pub choose-room : n ≤ length list → length (chosen least (held_at s).trees) ≤ length list → n < length list
        choose-room = place-left list (chosen_from least s (k + 1)) n (mask_at s row) (chosen least (held_at s).trees) taken

        pub choose-takes : {m : ℕ} → m ≡ mask_at s row → n < length list → Chose least s (set list n m) (n + 1) (k + 1)
        choose-takes p l = record { all = rw p (place-taken list (chosen_from least s (k + 1)) n (mask_at s row) l ∙ taken) }
