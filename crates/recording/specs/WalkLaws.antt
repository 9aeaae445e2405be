-- The walk along a place's chain in whole bytes, an entry at a time. Assumes nothing.
--
--   Walk s m e                     the entry e leads along the place of m, whose higher rows do not have that mask
--   walk-starts                    the walk starts at the start of the mask's place
--   walk-row, walk-falls           an entry's row is one of the store's, and the next entry is less
--   walk-next                      a row with another mask is passed
--   walk_ends                      at the chain's end the mask is not recorded
use Rattle.std.specs.Prelude.{ℕ, suc, ◌-◌, ◌≤◌, ◌<◌, ◌≡◌, true, false, List}
use Rattle.std.proofs.Common.{arith, sym, ap, ◌∙◌, ⊎_elim}
use Rattle.trees.specs.Plain.{member}
use Rattle.theorems.specs.ListLaws.{member-not, less-or-not}
use Rattle.layout.specs.Store.{parts_at, splits_held_at, mask_at, masks_at, link_at, start_at}
use Rattle.layout.specs.StoreLaws.{shaped-at}
use Rattle.layout.specs.WholeStore.{highest_below, whole_at, place_in}
use Rattle.layout.specs.WholeFacts.{WholeAt, whole-at-facts}
use Rattle.layout.specs.InsideLaws.{place-below}
use Rattle.layout.specs.HighestLaws.{highest-most, highest-place, highest-above}
use Rattle.layout.specs.OrderLaws.{masks-mem}

pub record Walk (s : List ℕ) (m e : ℕ) : Type 0 where
  pub below : ℕ
  pub inside : below ≤ splits_held_at s
  pub entry : e ≡ highest_below s (place_in s m) below
  pub passed : (k : ℕ) → below ≤ k → k < splits_held_at s → mask_at s k ≡ m → ⊥

module _ (s : List ℕ) (m : ℕ) (whole : whole_at s ≡ true) where
  facts : WholeAt s
  facts = whole-at-facts s whole

  pub walk-starts : Walk s m (start_at s (place_in s m))
  walk-starts = record {
    below = splits_held_at s;
    inside = omega arith;
    entry = facts.chains.starts (place_in s m) (place-below s facts.head m);
    passed = λ k b c d. omega arith;
  }

  module _ (e : ℕ) (walk : Walk s m e) where
    apart : (k : ℕ) → e ≤ k → k < splits_held_at s → mask_at s k ≡ m → ⊥
    apart k a b d =
        ⊎_elim (λ l. highest-above (place_in s) (parts_at s) (place_in s m) walk.below k (omega (arith, walk.entry)) l (ap (place_in s) d))
        (λ l. walk.passed k l b d) (less-or-not k walk.below)

    pub walk_ends : e ≡ 0 → member m (masks_at s) ≡ false
    walk_ends z =
        member-not m (masks_at s) (λ h.
        let k = masks-mem (parts_at s) (shaped-at s).order facts.splits m h in apart k.0 (omega arith) k.1 (sym k.2))

    module _ (more : e ≡ 0 → ⊥) where
      pub walk-row : e - 1 < splits_held_at s
      walk-row = omega (arith, walk.entry, highest-most (place_in s) (parts_at s) (place_in s m) walk.below, walk.inside)

      -- the next entry is that of the highest row of the place below this one
      next : link_at s (e - 1) ≡ highest_below s (place_in s m) (e - 1)
      next =
          let i : e ≡ suc (e - 1) = omega arith in
          facts.chains.links (e - 1) walk-row
          ∙ ap (λ (q : ℕ). highest_below s q (e - 1)) (highest-place (place_in s) (parts_at s) (place_in s m) walk.below (e - 1) (sym walk.entry ∙ i))

      pub walk-falls : link_at s (e - 1) < e
      walk-falls = omega (arith, next, highest-most (place_in s) (parts_at s) (place_in s m) (e - 1))

      pub walk-next : (mask_at s (e - 1) ≡ m → ⊥) → Walk s m (link_at s (e - 1))
      walk-next d = record {
        below = e - 1;
        inside = omega (arith, walk-row);
        entry = next;
        passed = λ k b c i. ⊎_elim (λ l. let j : e - 1 ≡ k = omega arith in d (ap (mask_at s) j ∙ i)) (λ l. apart k l c i) (less-or-not k e);
      }
