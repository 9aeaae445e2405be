-- The splits that are written are those of a tree, and are few. Assumes nothing.
--
--   good-few                           a good tree over n names has at most n - 2 splits
-- of a whole store that holds t trees:
--   names-good                         its names are good
--   tree-few, tree-short               a good tree over them has at most 62 splits, and its text at most 4,349 bytes
--   trees-good                         its trees are good
--   strict-chosen, majority-chosen     the strict splits are those that t trees have, the majority splits those that half of t and one more have
--   strict_tree, majority-tree         and these are good trees
use Rattle.std.specs.Prelude.{ℕ, ◌+◌, ◌/◌, ◌≤◌, ◌≡◌, true, List, length}
use Rattle.std.proofs.Common.{arith}
use Rattle.trees.specs.Names.{good_names}
use Rattle.trees.specs.Consensus.{strict, majority}
use Rattle.trees.specs.Opening.{in_range, good_constants}
use Rattle.trees.specs.Written.{tree_of, shown, written}
use Rattle.trees.specs.Whole.{good_tree, good_opening}
use Rattle.theorems.specs.ListLaws.{and_right}
use Rattle.theorems.specs.NameLaws.{good-count}
use Rattle.theorems.specs.FewLaws.{few-splits}
use Rattle.theorems.specs.WrittenLaws.{written-tree-reads-back, written-length}
use Rattle.theorems.specs.ConsensusLaws.{AllGood, strict-good, majority-good}
use Rattle.head.specs.Head.{numbers_at, names_at, opening_at}
use Rattle.layout.specs.Store.{trees_held_at, held_at, held_in, most_splits}
use Rattle.layout.specs.WholeStore.{whole_at}
use Rattle.layout.specs.WholeFacts.{whole-at-facts}
use Rattle.store.specs.RecordedAtLaws.{trees-length, trees-mem}
use Rattle.store.specs.HeldWholeLaws.{opening-facts, tree-good}
use Rattle.consensus.specs.Chosen.{chosen}
use Rattle.consensus.specs.ChosenLaws.{chosen-strict, chosen-majority}

-- the tree that is written of them reads back as the same splits, and no text has more
pub good-few : (n : ℕ) (ns : List (List ℕ)) (l : List ℕ) → good_names n ns ≡ true → good_tree n l ≡ true → 2 ≤ n → n ≤ 64
    → length l + 2 ≤ n
good-few n ns l names good least most =
    let c = good-count n ns names in
    omega (arith, few-splits ns (shown (tree_of ns l)) l (omega arith) (written-tree-reads-back n ns l names good least most))

module _ (s : List ℕ) (w : whole_at s ≡ true) where
  pub names-good : good_names (numbers_at s).taxa (names_at s) ≡ true
  unfolding good_opening opening_at
  names-good =
      let o = opening_at s in
      and_right (good_constants o.numbers o.first o.second) _ (and_right (in_range o.numbers) _ (whole-at-facts s w).head.opening-good)

  pub tree-few : (l : List ℕ) → good_tree (numbers_at s).taxa l ≡ true → length l ≤ most_splits
  unfolding opening_at
  tree-few l g =
      let r = (opening-facts s w).ranges in
      let a = r.least-taxa in
      let b = r.most-taxa in
      omega (arith, good-few (numbers_at s).taxa (names_at s) l names-good g (omega arith) b)

  pub tree-short : (l : List ℕ) → good_tree (numbers_at s).taxa l ≡ true → length (written (held_at s).opening.names l) ≤ 4349
  unfolding held_in opening_at
  tree-short l g =
      let r = (opening-facts s w).ranges in
      let a = r.least-taxa in
      written-length (numbers_at s).taxa (names_at s) l names-good g (omega arith) r.most-taxa

  pub trees-good : AllGood (numbers_at s).taxa (held_at s).trees
  trees-good t h = let i = trees-mem s t h in rw i.2 (tree-good s w i.0 i.1)

  -- ---- what is chosen

  module _ (t : ℕ) (e : t ≡ trees_held_at s) where
    pub strict-chosen : chosen t (held_at s).trees ≡ strict (held_at s).trees
    strict-chosen = rw (e, ← trees-length s) (chosen-strict (held_at s).trees)

    pub majority-chosen : chosen (t / 2 + 1) (held_at s).trees ≡ majority (held_at s).trees
    majority-chosen = rw (e, ← trees-length s) (chosen-majority (held_at s).trees)

    pub strict_tree : good_tree (numbers_at s).taxa (chosen t (held_at s).trees) ≡ true
    strict_tree = rw strict-chosen (strict-good (numbers_at s).taxa (held_at s).trees trees-good)

    pub majority-tree : good_tree (numbers_at s).taxa (chosen (t / 2 + 1) (held_at s).trees) ≡ true
    majority-tree = rw majority-chosen (majority-good (numbers_at s).taxa (held_at s).trees trees-good)
