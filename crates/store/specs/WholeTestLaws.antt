-- Whole, test after test: the first that fails decides.
use Rattle.std.specs.Prelude.{◌≡◌, ℕ, Bool, true, false, ◌&&◌, List, refl}
use Rattle.std.proofs.Math.Path.{ap, sym}
use Rattle.std.proofs.Common.{◌∙◌}
use Rattle.head.specs.Head.{numbers_at}
use Rattle.layout.specs.Store.{trees_held_at, splits_held_at}
use Rattle.layout.specs.WholeStore.{all_below, good_head, good_splits, good_list, good_count, good_chains, good_lane_at, good_branches_at, whole_at}

abbrev lists : List ℕ → Bool
lists s = all_below (good_list s) (trees_held_at s)

abbrev counts : List ℕ → Bool
counts s = all_below (good_count s) (splits_held_at s)

abbrev lanes : List ℕ → Bool
lanes s = all_below (good_lane_at s) (numbers_at s).lanes

abbrev branches : List ℕ → Bool
branches s = all_below (good_branches_at s) (trees_held_at s)

-- the lists and the counts are tested together
chain : (a b c d e f : Bool) → Bool
chain a b c d e f = a && (b && (c && (d && (e && f))))

together : (a b c d e f g : Bool) → (a && (b && (c && (d && (e && (f && g)))))) ≡ (a && (b && ((c && d) && (e && (f && g)))))
together a b true d e f g = refl
together a b false d e f g = refl

whole-chain : (s : List ℕ) → whole_at s ≡ chain (good_head s) (good_splits s) (lists s && counts s) (good_chains s) (lanes s) (branches s)
unfolding whole_at chain
whole-chain s = together (good_head s) (good_splits s) (lists s) (counts s) (good_chains s) (lanes s) (branches s)

module _ (s : List ℕ) where
  -- ---- the first test that fails
  pub no-head : good_head s ≡ false → false ≡ whole_at s
  unfolding chain
  no-head a = sym (whole-chain s ∙ ap (λ t. chain t (good_splits s) (lists s && counts s) (good_chains s) (lanes s) (branches s)) a)

  module _ (a : good_head s ≡ true) where
    with-head : whole_at s ≡ (good_splits s && ((lists s && counts s) && (good_chains s && (lanes s && branches s))))
    unfolding chain
    with-head = whole-chain s ∙ ap (λ t. chain t (good_splits s) (lists s && counts s) (good_chains s) (lanes s) (branches s)) a

    pub no-splits : good_splits s ≡ false → false ≡ whole_at s
    no-splits b = sym (with-head ∙ ap (λ t. t && ((lists s && counts s) && (good_chains s && (lanes s && branches s)))) b)

    module _ (b : good_splits s ≡ true) where
      with-splits : whole_at s ≡ ((lists s && counts s) && (good_chains s && (lanes s && branches s)))
      with-splits = with-head ∙ ap (λ t. t && ((lists s && counts s) && (good_chains s && (lanes s && branches s)))) b

      pub no-trees : (lists s && counts s) ≡ false → false ≡ whole_at s
      no-trees c = sym (with-splits ∙ ap (λ t. t && (good_chains s && (lanes s && branches s))) c)

      module _ (c : (lists s && counts s) ≡ true) where
        with-trees : whole_at s ≡ (good_chains s && (lanes s && branches s))
        with-trees = with-splits ∙ ap (λ t. t && (good_chains s && (lanes s && branches s))) c

        pub no-chains : good_chains s ≡ false → false ≡ whole_at s
        no-chains e = sym (with-trees ∙ ap (λ t. t && (lanes s && branches s)) e)

        module _ (e : good_chains s ≡ true) where
          with-chains : whole_at s ≡ (lanes s && branches s)
          with-chains = with-trees ∙ ap (λ t. t && (lanes s && branches s)) e

          pub no-lanes : lanes s ≡ false → false ≡ whole_at s
          no-lanes f = sym (with-chains ∙ ap (λ t. t && branches s) f)

          -- ---- the last test decides
          pub by-branches : lanes s ≡ true → {r : Bool} → r ≡ branches s → r ≡ whole_at s
          by-branches f g = g ∙ sym (with-chains ∙ ap (λ t. t && branches s) f)
