-- Withdrawing a tree, return by return. Assumes nothing.
--
--   withdraw-not-whole, withdraw-no-tree, withdraw-done     what each return of the code promises
--   unlisted-sound                                          what dropping rows asks of the bytes that the tree is taken from
use Rattle.std.specs.Prelude.{ℕ, ◌≤◌, ◌<◌, ◌≡◌, refl, true, false, List, Ok, Err}
use Rattle.std.proofs.Common.{arith, ◌∙◌, true≢false}
use Rattle.std.proofs.Math.Path.{sym, ap}
use Rattle.std.proofs.Math.Bool.{and-false}
use borrow.Author.Tests.{lt-ltb, le-ltb}
use Rattle.trees.specs.Plain.{refused, gives}
use Rattle.trees.specs.Opening.{store_size}
use Rattle.trees.specs.Withdrawing.{without_tree, Withdrawn, withdrawing}
use Rattle.theorems.specs.ListLaws.{and-true}
use Rattle.answers.specs.declared.Refusal.TheVariants as why
use Rattle.answers.specs.Answers.{refusal_number, finish_given}
use Rattle.head.specs.Head.{numbers_at, opening_at}
use Rattle.layout.specs.Store.{size_at, parts_at, trees_held_at, splits_held_at, held_at}
use Rattle.layout.specs.WholeStore.{whole_at}
use Rattle.layout.specs.WholeFacts.{HeadAt, whole-at-facts}
use Rattle.layout.specs.Sound.{Sound, whole-sound, parts_whole}
use Rattle.layout.specs.OpeningKeptLaws.{numbers-held, size-held, head-held}
use Rattle.store.specs.RecordedAtLaws.{trees-length}
use Rattle.store.specs.HeldWholeLaws.{held-numbers}
use Rattle.store.specs.Lent.{Holds}
use Rattle.withdrawing.specs.Withdrawn.{there, withdrawn_of, SameFront, WithdrawnAs}
use Rattle.withdrawing.specs.Left.{without_list, without_rows, Turned}
use Rattle.withdrawing.specs.UnlistLaws.{unlist-held, unlist-splits, unlist-trees, unlist-sound}
use Rattle.withdrawing.specs.WithoutRowsLaws.{leave-trees, leave_fits}
use Rattle.withdrawing.specs.LeavingLaws.{leave-held, leave-counts, leave-sound}

module _ (s : List ℕ) (k : ℕ) where
  -- ---- not whole

  module _ (e : whole_at s ≡ false) where
    there-not-whole : there s k ≡ false
    unfolding there
    there-not-whole = rw e

    answer-not-whole : (withdrawn_of s k).answer ≡ refused 1
    unfolding withdrawn_of
    answer-not-whole = rw e

    pub withdraw-not-whole : WithdrawnAs s k (Err why.NotWhole) s
    unfolding finish_given refusal_number
    withdraw-not-whole = record {
      answer = sym answer-not-whole;
      found = λ f. refl;
      holds = λ f. absurd (true≢false (sym f ∙ there-not-whole));
      front = λ i a b. refl;
    }

  module _ (w : whole_at s ≡ true) where
    withdrawn-whole : withdrawn_of s k ≡ withdrawing (held_at s) k
    unfolding withdrawn_of
    withdrawn-whole = rw w

    -- ---- no such tree

    module _ (h : trees_held_at s ≤ k) where
      there-no-tree : there s k ≡ false
      unfolding there
      there-no-tree = rw (le-ltb k (trees_held_at s) h) (and-false (whole_at s))

      withdrawing-none : (withdrawing (held_at s) k).answer ≡ refused 13
      unfolding withdrawing
      withdrawing-none = rw (trees-length s, le-ltb k (trees_held_at s) h)

      pub withdraw-no-tree : WithdrawnAs s k (Err why.NoSuchNumber) s
      unfolding finish_given refusal_number
      withdraw-no-tree = record {
        answer = sym (ap (λ (x : Withdrawn). x.answer) withdrawn-whole ∙ withdrawing-none);
        found = λ f. refl;
        holds = λ f. absurd (true≢false (sym f ∙ there-no-tree));
        front = λ i a b. refl;
      }

    -- ---- done

    module _ (h : k < trees_held_at s) where
      there-here : there s k ≡ true
      unfolding there
      there-here = and-true w (lt-ltb k (trees_held_at s) h)

      withdrawing-here : withdrawing (held_at s) k ≡ record { answer = gives tt; after = without_tree (held_at s) k }
      unfolding withdrawing
      withdrawing-here = rw (trees-length s, lt-ltb k (trees_held_at s) h)

      withdrawn-here : withdrawn_of s k ≡ record { answer = gives tt; after = without_tree (held_at s) k }
      withdrawn-here = withdrawn-whole ∙ withdrawing-here

      module _ (u : List ℕ) (a : Turned s (without_list k (parts_at s)) u) where
        pub unlisted-sound : HeadAt u × Sound (opening_at u) (parts_at u)
        unlisted-sound =
            let c = a.becomes in
            let d = (whole-at-facts s w).head in
            let trees : trees_held_at u ≤ (numbers_at s).tree_room = rw c.parts (omega (arith, unlist-trees k (parts_at s) h, d.trees-fit)) in
            let splits : splits_held_at u ≤ (numbers_at s).split_room = rw (c.parts, unlist-splits k (parts_at s)) d.splits-fit in
            (head-held s u c.opening d c.size trees splits, rw (c.opening, c.parts) (unlist-sound k (parts_at s) h (opening_at s) (whole-sound s w)))

        module _ (t : List ℕ) (b : Turned u (without_rows (parts_at u)) t) where
          both-fronts : SameFront s t
          both-fronts i l o = b.front i (rw (numbers-held s u a.becomes.opening) l) o ∙ a.front i l o

          withdrawn-holds : Holds (without_tree (held_at s) k) s t
          unfolding without_tree size_at
          withdrawn-holds =
              let c = a.becomes in
              let d = b.becomes in
              let head = unlisted-sound.0 in
              let sound = unlisted-sound.1 in
              let p = parts_at u in
              let size : store_size (held_at s).opening.numbers ≡ size_at s = ap store_size (held-numbers s) in
              record {
                whole =
                    parts_whole u t (without_rows p) head d.size d.opening d.parts (leave-sound (opening_at u) p sound)
                    (rw (leave-trees p) head.trees-fit) (omega (arith, leave_fits p, head.splits-fit)) (leave-counts (opening_at u) p sound);
                held = rw (d.opening, d.parts) (leave-held (opening_at u) p sound ∙ rw (c.opening, c.parts) (unlist-held (opening_at s) k (parts_at s)));
                size = d.size ∙ c.size;
                behind = λ i l. d.behind i (omega (arith, size, size-held s u c.opening)) ∙ c.behind i (omega (arith, size));
              }

          pub withdraw-done : WithdrawnAs s k (Ok tt) t
          unfolding finish_given
          withdraw-done = record {
            answer = rw withdrawn-here;
            found = λ f. absurd (true≢false (sym there-here ∙ f));
            holds = λ f. rw withdrawn-here withdrawn-holds;
            front = both-fronts;
          }
