-- Laws of the chains of the places: how the loops test them. Assumes nothing.
--
--   place_read                           the place of split k, as it is computed
--   highest-none, highest-here, highest-other     `highest_below`, a split at a time
--   heights-none, heights-more           the highest split of each place, as a loop keeps it
--   link-good, link-bad                  the test of the link of split k
--   start-good, start-bad                the test of the start of place p
--   good-chains                          the test of the chains is these tests
use Rattle.std.specs.Prelude.{◌≡◌, ℕ, suc, ◌+◌, ◌<◌, true, false, ◌&&◌, ◌⊎◌, List, length, replicate, ◌≢◌, slice_index, slice_set}
use Rattle.std.proofs.Common.{add-one, arith, ◌∙◌, inl, inr, get_or-set_same, get_or-set_other}
use Rattle.std.proofs.Math.Path.{refl, sym}
use Rattle.std.proofs.lemmas.List.{get_or-replicate}
use borrow.Author.Tests.{eq-eqb, ne_eqb}
use Rattle.trees.specs.Hash.{place}
use Rattle.theorems.specs.ListLaws.{equal_or_not, if-true, if-false}
use Rattle.head.specs.Head.{numbers_at, first_at}
use Rattle.layout.specs.Store.{splits_held_at, mask_at, link_at, start_at}
use Rattle.layout.specs.WholeStore.{all_below, highest_below, good_link, good_start, good_chains, chains_good, highest_in, link_good, start_good}
use Rattle.store.specs.Splits.{place_at, Highest}

module _ (s : List ℕ) where
  pub place_read : (k m p : ℕ) → m ≡ mask_at s k → p ≡ place (first_at s) (numbers_at s).places m → p ≡ place_at s k
  unfolding place_at
  place_read k m p e q = q ∙ rw e

  -- ---- the highest split of a place

  pub highest-here : (p k : ℕ) → place_at s k ≡ p → highest_below s p (suc k) ≡ suc k
  unfolding highest_in place_at
  highest-here p k e = if-true _ _ (eq-eqb _ _ e)

  pub highest-other : (p k : ℕ) → (place_at s k ≢ p) → highest_below s p (suc k) ≡ highest_below s p k
  unfolding highest_in place_at
  highest-other p k f = if-false _ _ (ne_eqb _ _ f)

  pub highest-none : (p : ℕ) → highest_below s p 0 ≡ 0
  unfolding highest_in
  highest-none p = refl

  pub heights-none : Highest s 0 (replicate 8192 0)
  heights-none = record { each = λ p h. get_or-replicate 8192 p 0 0 h ∙ sym (highest-none p) }

  module _ (k : ℕ) (h : List ℕ) (l : length h ≡ 8192) (a : Highest s k h) (p : ℕ) (e : p ≡ place_at s k) (b : p < 8192) where
    height-more : (q : ℕ) → q < 8192 → (q ≡ p) ⊎ (q ≢ p) → slice_index (slice_set h p (k + 1)) q ≡ highest_below s q (k + 1)
    height-more q c (inl d) = rw d (get_or-set_same h p (k + 1) 0 (omega arith) ∙ sym (rw add-one (highest-here p k (sym e))))
    height-more q c (inr f) = get_or-set_other h p q (k + 1) 0 f ∙ a.each q c ∙ sym (rw add-one (highest-other q k (λ d. f (sym (e ∙ d)))))

    pub heights-more : Highest s (k + 1) (slice_set h p (k + 1))
    heights-more = record { each = λ q c. height-more q c (equal_or_not q p) }

  -- ---- links and starts

  module _ (k x p y : ℕ) (i : x ≡ link_at s k) (e : p ≡ place_at s k) (j : y ≡ highest_below s p k) where
    pub link-good : x ≡ y → good_link s k ≡ true
    unfolding link_good place_at
    link-good d = eq-eqb _ _ (sym i ∙ d ∙ j ∙ rw e)

    pub link-bad : (x ≢ y) → good_link s k ≡ false
    unfolding link_good place_at
    link-bad f = ne_eqb _ _ (λ d. f (i ∙ d ∙ sym (j ∙ rw e)))

  module _ (p x y : ℕ) (i : x ≡ start_at s p) (j : y ≡ highest_below s p (splits_held_at s)) where
    pub start-good : x ≡ y → good_start s p ≡ true
    unfolding start_good
    start-good d = eq-eqb _ _ (sym i ∙ d ∙ j)

    pub start-bad : (x ≢ y) → good_start s p ≡ false
    unfolding start_good
    start-bad f = ne_eqb _ _ (λ d. f (i ∙ d ∙ sym j))

  pub good-chains : good_chains s ≡ (all_below (good_link s) (splits_held_at s) && all_below (good_start s) (numbers_at s).places)
  unfolding chains_good
  good-chains = refl
