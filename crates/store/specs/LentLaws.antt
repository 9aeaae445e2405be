-- What is answered of lent bytes, one check after another: 1, then 13 or 14. Assumes nothing.
--
--   not-whole, when_whole           any question: 1, or what is asked of what the bytes hold
--   tree-missing, tree-there        of what they hold: 13 for a tree that is not there
--   trees-none, trees-some          14 where there are no trees
--   asked-missing, asked-there      a question of whole bytes about a tree
use Rattle.std.specs.Prelude.{◌≡◌, ℕ, ◌<◌, ◌≤◌, true, false, List, ◌≢◌}
use Rattle.std.proofs.Common.{◌∙◌}
use borrow.Author.Tests.{lt-ltb, le-ltb, eq-eqb, ne_eqb}
use Rattle.trees.specs.Plain.{Answer}
use Rattle.trees.specs.Held.{Held}
use Rattle.trees.specs.Questions.{if_tree, if_trees}
use Rattle.answers.specs.declared.Refusal.TheVariants as why
use Rattle.answers.specs.Answers.{refusal_number, refusing}
use Rattle.layout.specs.Store.{trees_held_at, held_at}
use Rattle.layout.specs.WholeStore.{whole_at}
use Rattle.store.specs.RecordedAtLaws.{trees-length}
use Rattle.store.specs.Lent.{if_whole}

module _ {A : Type 0} (s : List ℕ) (f : Held → Answer A) where
  pub not-whole : whole_at s ≡ false → if_whole s f ≡ refusing why.NotWhole
  unfolding if_whole refusal_number
  not-whole e = rw e

  pub when_whole : whole_at s ≡ true → if_whole s f ≡ f (held_at s)
  unfolding if_whole
  when_whole e = rw e

module _ {A : Type 0} (s : List ℕ) (i : ℕ) (a : Answer A) where
  pub tree-missing : trees_held_at s ≤ i → if_tree (held_at s) i a ≡ refusing why.NoSuchNumber
  unfolding if_tree refusal_number
  tree-missing h = rw (trees-length s, le-ltb i (trees_held_at s) h)

  pub tree-there : i < trees_held_at s → if_tree (held_at s) i a ≡ a
  unfolding if_tree
  tree-there h = rw (trees-length s, lt-ltb i (trees_held_at s) h)

module _ {A : Type 0} (s : List ℕ) (a : Answer A) where
  pub trees-none : trees_held_at s ≡ 0 → if_trees (held_at s) a ≡ refusing why.NoTrees
  unfolding if_trees refusal_number
  trees-none z = rw (trees-length s, eq-eqb (trees_held_at s) 0 z)

  pub trees-some : (trees_held_at s ≢ 0) → if_trees (held_at s) a ≡ a
  unfolding if_trees
  trees-some z = rw (trees-length s, ne_eqb (trees_held_at s) 0 z)

module _ {A : Type 0} (s : List ℕ) (w : whole_at s ≡ true) (a : Held → Answer A) where
  pub asked-missing : (i : ℕ) → trees_held_at s ≤ i → if_whole s (λ h. if_tree h i (a h)) ≡ refusing why.NoSuchNumber
  asked-missing i m = when_whole s (λ h. if_tree h i (a h)) w ∙ tree-missing s i (a (held_at s)) m

  pub asked-there : (i : ℕ) → i < trees_held_at s → if_whole s (λ h. if_tree h i (a h)) ≡ a (held_at s)
  asked-there i m = when_whole s (λ h. if_tree h i (a h)) w ∙ tree-there s i (a (held_at s)) m
