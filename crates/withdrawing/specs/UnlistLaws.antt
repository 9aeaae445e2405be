-- Parts without one of their trees. Assumes nothing.
--
--   unlist-held        what they hold is without it
--   unlist-counted     each split of the tree counts one less
--   unlist-splits      the rows are those there were
--   unlist-trees       there is one tree less
--   unlist-sound       sound parts stay sound
use Rattle.std.specs.Prelude.{ℕ, suc, ◌+◌, ◌-◌, ◌<◌, ◌≡◌}
use Rattle.std.proofs.Common.{arith, ◌∙◌}
use Rattle.std.proofs.Math.Path.{refl}
use mathlib.Core.List.{[], map}
use Rattle.std.proofs.Math.Seq.{take-length}
use Rattle.trees.specs.Plain.{member}
use Rattle.trees.specs.Opening.{Opening}
use Rattle.trees.specs.Withdrawing.{without_at, without_tree}
use Rattle.head.specs.HeadLaws.{up_to-length, up_to-at}
use Rattle.layout.specs.Store.{Parts, splits_in, trees_in, mask_in, count_in, list_in, branches_in, held_in}
use Rattle.layout.specs.WholeStore.{listed_in}
use Rattle.layout.specs.WholeFacts.{ListIn}
use Rattle.layout.specs.Sound.{Sound}
use Rattle.layout.specs.UpToLaws.{one_if}
use Rattle.layout.specs.HighestLaws.{highest-same}
use Rattle.withdrawing.specs.Left.{without_list}
use Rattle.theorems.specs.WithdrawLaws.{without_fewer, without-map}
use Rattle.withdrawing.specs.WithoutLaws.{old_number, without_at_lem, without-below, count_less}

pub unlist-held : (o : Opening) (k : ℕ) (p : Parts) → held_in o (without_list k p) ≡ without_tree (held_in o p) k
unfolding held_in without_list without_tree
unlist-held o k p i = record { opening = o; trees = without-map (map (mask_in p)) k p.lists i; lengths = without_at k p.branches; texts = p.texts }

module _ (k : ℕ) (p : Parts) where
  pub unlist-counted : (r : ℕ) → r < splits_in p → count_in (without_list k p) r ≡ count_in p r - one_if (member r (list_in p k))
  unfolding without_list
  unlist-counted r h = up_to-at (λ i. count_in p i - one_if (member i (list_in p k))) (splits_in p) r 0 h

  pub unlist-splits : splits_in (without_list k p) ≡ splits_in p
  unfolding without_list
  unlist-splits = refl

  module _ (h : k < trees_in p) where
    pub unlist-trees : suc (trees_in (without_list k p)) ≡ trees_in p
    unfolding without_list
    unlist-trees = without_fewer k p.lists h

    listed-less : (r : ℕ) → listed_in p r (trees_in p) ≡ listed_in (without_list k p) r (trees_in (without_list k p)) + one_if (member r (list_in p k))
    unfolding listed_in without_list
    listed-less r = rw (take-length p.lists, take-length (without_at k p.lists)) (count_less k p.lists r h)

    each-list : ((i : ℕ) → i < trees_in p → ListIn p i) → (i : ℕ) → i < trees_in (without_list k p) → ListIn (without_list k p) i
    unfolding without_list
    each-list f i b =
        let a = f (old_number k i) (without-below k p.lists i h b) in
        let e = without_at_lem k p.lists i [] in
        record { few = rw e a.few; numbers-below = rw e a.numbers-below; tree-rising = rw e a.tree-rising; agreeing = rw e a.agreeing }

    pub unlist-sound : (o : Opening) → Sound o p → Sound o (without_list k p)
    unfolding without_list
    unlist-sound o f =
        let a = f.shaped in
        let b = f.splits in
        let c = f.chains in
        let at : (i : ℕ) → branches_in (without_list k p) i ≡ branches_in p (old_number k i) = λ i. without_at_lem k p.branches i [] in
        let trees = without_fewer k p.lists h in
        record {
          shaped =
              record {
                identifiers = a.identifiers;
                counts = up_to-length _ _;
                links = a.links;
                order = a.order;
                starts = a.starts;
                branches = omega (arith, without_fewer k p.branches (omega (arith, a.branches)), a.branches, trees);
                branches-each = λ i l. rw (at i, without_at_lem k p.lists i []) (a.branches-each (old_number k i) (without-below k p.lists i h l));
                lengths = a.lengths;
                texts = a.texts;
              };
          splits = record { rows-below = b.rows-below; masks-proper = b.masks-proper; masks-rising = b.masks-rising; identifiers = b.identifiers };
          lists = each-list f.lists;
          counts = λ r l. unlist-counted r l ∙ omega (arith, f.counts r l, listed-less r);
          chains = record { links = λ r l. c.links r l ∙ highest-same _ _ p _ r (λ i q. refl); starts = λ q l. c.starts q l ∙ highest-same _ _ p q _ (λ i z. refl) };
          lanes = f.lanes;
          branches = λ i l. rw (at i) (f.branches (old_number k i) (without-below k p.lists i h l));
        }
