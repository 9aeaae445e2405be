-- What the questions answer of whole bytes, by what the bytes hold. Assumes nothing.
--
--   trees-given, splits-given     the number of trees, of splits
--   split-missing, split-found    one split: 13, or its mask and its count
--   tree-missing, tree-found      the splits of one tree: 13, or what is given of them
use Rattle.std.specs.Prelude.{ℕ, ◌≤◌, ◌<◌, ◌≡◌, true, List}
use Rattle.std.proofs.Math.Path.{sym, ap}
use Rattle.std.proofs.Common.{◌∙◌}
use borrow.Author.Tests.{lt-ltb, le-ltb}
use Rattle.trees.specs.Plain.{gives}
use Rattle.trees.specs.Questions.{if_room, tree, trees_held, splits_held, split_number, tree_number}
use Rattle.answers.specs.declared.Refusal.TheVariants as why
use Rattle.answers.specs.Answers.{refusal_number, refusing}
use Rattle.layout.specs.Store.{trees_held_at, splits_held_at, mask_at, count_at, order_at, split_at, tree_at}
use Rattle.layout.specs.WholeStore.{whole_at}
use Rattle.store.specs.RecordedAtLaws.{trees-length, tree-at, recorded-length, recorded-mask}
use Rattle.store.specs.LentLaws.{when_whole, asked-missing, asked-there}
use Rattle.store.specs.CountsLaws.{row_count, split-count}
use Rattle.table.specs.Asked.{trees_asked, splits_asked, split_asked, tree_asked}

module _ (s : List ℕ) (w : whole_at s ≡ true) where
  pub trees-given : trees_asked s ≡ gives (trees_held_at s)
  unfolding trees_held
  trees-given = when_whole s trees_held w ∙ ap gives (trees-length s)

  pub splits-given : splits_asked s ≡ gives (splits_held_at s)
  unfolding splits_held
  splits-given = when_whole s splits_held w ∙ ap gives (recorded-length s w)

  -- 13
  pub split-missing : (k : ℕ) → splits_held_at s ≤ k → split_asked s k ≡ refusing why.NoSuchNumber
  unfolding split_number refusal_number
  split-missing k h = when_whole s (λ x. split_number x k) w ∙ rw (recorded-length s w, le-ltb k (splits_held_at s) h)

  pub split-found : (k row m c : ℕ) → k < splits_held_at s → row ≡ order_at s k → m ≡ mask_at s row → c ≡ count_at s row → split_asked s k ≡ gives (m, c)
  unfolding split_number
  split-found k row m c h r p q =
      let x : split_at s k ≡ m = sym (p ∙ ap (mask_at s) r) in
      when_whole s (λ z. split_number z k) w
      ∙ rw (recorded-length s w, lt-ltb k (splits_held_at s) h, recorded-mask s w k h, split-count s w k h, x, ← row_count s k row c r q)

  -- 13
  pub tree-missing : (i room : ℕ) → trees_held_at s ≤ i → tree_asked s i room ≡ refusing why.NoSuchNumber
  unfolding tree_number
  tree-missing i room h = asked-missing s w (λ z. if_room room (tree z i)) i h

  pub tree-found : (i room : ℕ) → i < trees_held_at s → tree_asked s i room ≡ if_room room (tree_at s i)
  unfolding tree_number tree
  tree-found i room h = asked-there s w (λ z. if_room room (tree z i)) i h ∙ ap (if_room room) (tree-at s i h)
