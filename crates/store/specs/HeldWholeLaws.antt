-- What whole bytes hold is whole. Assumes nothing.
--
--   held-opening, held-numbers     the opening of what is held
--   texts-length, texts-mem        its lanes
--   opening-facts                  the opening of whole bytes is in order
--   tree-rises, tree-good          each tree is in order
--   lengths-at                     the lengths of each tree
--   lane-good                      each lane's text has a length in range
--   held_whole                     all that is held is in order
use Rattle.std.specs.Prelude.{◌≡◌, ℕ, suc, ◌+◌, ◌<◌, true, List, [], ◌∷◌, length, take, drop, ◌==◌, slice_index_or}
use Rattle.std.proofs.Common.{arith, ◌∙◌}
use Rattle.std.proofs.Math.Path.{refl, sym, ap}
use Rattle.std.proofs.Math.ListN.{length-take}
use borrow.Author.Tests.{le-leb, eq-eqb, eqb-false}
use Rattle.trees.specs.Plain.{every}
use Rattle.trees.specs.Mask.{proper}
use Rattle.trees.specs.Value.{Length}
use Rattle.trees.specs.Held.{Lane, most_text}
use Rattle.trees.specs.Whole.{good_tree, good_branches, good_lengths, good_lane}
use Rattle.theorems.specs.ListLaws.{by-test, and-true, Mem, every-intro}
use Rattle.theorems.specs.RisingLaws.{Rising, rising-true}
use Rattle.theorems.specs.OpeningLaws.{GoodOpening, good-opening}
use Rattle.theorems.specs.WholeHeld.{whole}
use Rattle.theorems.specs.HeldLaws.{Whole, facts-whole}
use Rattle.fields.specs.Field.{number}
use Rattle.head.specs.Head.{numbers_at, opening_at}
use Rattle.head.specs.HeadLaws.{up_to-at}
use Rattle.layout.specs.Store.{parts_at, trees_held_at, lane_from, mask_at, list_at, tree_at, branches_at, branches_of, lane_at, held_at, held_in, text_from, ran_over, ran_over_open}
use Rattle.layout.specs.StoreLaws.{shaped-at, length-is, lane-is}
use Rattle.layout.specs.WholeStore.{whole_at}
use Rattle.layout.specs.WholeFacts.{WholeAt, whole-at-facts}
use Rattle.layout.specs.UpToLaws.{up_to-mem, length-map}
use Rattle.layout.specs.OrderLaws.{mask-proper}
use Rattle.store.specs.RecordedAtLaws.{trees-length, tree-at, trees-mem, tree-mem, recorded-length}

-- ---- what any bytes are read as

module _ (s : List ℕ) where
  pub held-opening : (held_at s).opening ≡ opening_at s
  unfolding held_in
  held-opening = refl

  pub held-numbers : (held_at s).opening.numbers ≡ numbers_at s
  unfolding held_in opening_at
  held-numbers = refl

  pub texts-length : length (held_at s).texts ≡ (numbers_at s).lanes
  unfolding held_in
  texts-length = (shaped-at s).texts

  lengths-length : length (held_at s).lengths ≡ trees_held_at s
  unfolding held_in
  lengths-length = (shaped-at s).branches

  pub lengths-at : (i : ℕ) → slice_index_or (held_at s).lengths i [] ≡ branches_at s i
  unfolding held_in
  lengths-at i = refl

  pub texts-mem : (x : Lane) → Mem x (held_at s).texts → (l : ℕ) × (l < (numbers_at s).lanes) × (x ≡ lane_at s l)
  unfolding held_in parts_at
  texts-mem x h =
      let r = up_to-mem _ (numbers_at s).lanes x h in
      (r.0, r.1, r.2 ∙ sym (up_to-at _ (numbers_at s).lanes r.0 _ r.1))

-- ---- lengths, tree by tree

lengths-each : (kept : ℕ) (ts : List (List ℕ)) (xss : List (List Length)) → length xss ≡ length ts
    → ((i : ℕ) → i < length ts → good_branches kept (slice_index_or ts i []) (slice_index_or xss i []) ≡ true) → good_lengths kept ts xss ≡ true
unfolding good_lengths
lengths-each kept [] [] e f = refl
lengths-each kept [] (xs ∷ xss) e f = absurd (omega arith)
lengths-each kept (t ∷ ts) [] e f = absurd (omega arith)
lengths-each kept (t ∷ ts) (xs ∷ xss) e f = and-true (f 0 (omega arith)) (lengths-each kept ts xss (omega arith) (λ i h. f (suc i) (omega arith)))

-- ---- what whole bytes hold

module _ (s : List ℕ) (w : whole_at s ≡ true) where
  facts : WholeAt s
  facts = whole-at-facts s w

  pub opening-facts : GoodOpening (opening_at s)
  opening-facts = good-opening (opening_at s) facts.head.opening-good

  tree-proper : (i : ℕ) → i < trees_held_at s → every (proper (numbers_at s).taxa) (tree_at s i) ≡ true
  tree-proper i h =
      every-intro (proper (numbers_at s).taxa) (tree_at s i)
      (λ m q.
      let k = tree-mem s i m q in
      rw k.2 (mask-proper (parts_at s) (shaped-at s).order facts.splits k.0 ((facts.lists i h).numbers-below k.0 k.1)))

  pub tree-rises : (i : ℕ) → i < trees_held_at s → Rising (tree_at s i)
  tree-rises i h = rising-true (tree_at s i) (facts.lists i h).tree-rising

  pub tree-good : (i : ℕ) → i < trees_held_at s → good_tree (numbers_at s).taxa (tree_at s i) ≡ true
  unfolding good_tree
  tree-good i h = and-true (tree-proper i h) (and-true (facts.lists i h).tree-rising (facts.lists i h).agreeing)

  lengths-good : (i : ℕ) → i < trees_held_at s → good_branches (numbers_at s).kept (tree_at s i) (branches_at s i) ≡ true
  unfolding good_branches branches_of
  lengths-good i h =
      and-true (eq-eqb _ _ ((shaped-at s).branches-each i h ∙ ap (branches_of (numbers_at s)) (sym (length-map (mask_at s) (list_at s i))))) (facts.branches i h)

  pub lane-good : (l : ℕ) → l < (numbers_at s).lanes → good_lane (lane_at s l) ≡ true
  unfolding good_lane text_from
  lane-good l h =
      let n = number 2 s (lane_from l) in
      rw (lane-is s l h)
      (by-test (λ (x : Lane). good_lane x ≡ true) (n == ran_over) (λ e. refl)
      (λ e.
      by-test (λ (x : Lane). good_lane x ≡ true) (n == ran_over_open) (λ f. refl)
      (λ f.
      le-leb (length (take n (drop (lane_from l + 8) s))) most_text
      (omega (arith, facts.lanes l h, length-is s l h, length-take n (drop (lane_from l + 8) s), eqb-false n ran_over e, eqb-false n ran_over_open f)))))

  held-facts : Whole (held_at s)
  held-facts =
      record {
        opening-good = rw held-opening facts.head.opening-good;
        trees-good =
            rw held-numbers
            (every-intro (good_tree (numbers_at s).taxa) (held_at s).trees (λ t h. let i = trees-mem s t h in rw i.2 (tree-good i.0 i.1)));
        lengths-good =
            rw held-numbers
            (lengths-each (numbers_at s).kept (held_at s).trees (held_at s).lengths (lengths-length s ∙ sym (trees-length s)) (λ i h.
            let b : i < trees_held_at s = omega (arith, trees-length s) in
            rw (tree-at s i b, lengths-at s i) (lengths-good i b)));
        trees-fit = rw (held-numbers, trees-length) facts.head.trees-fit;
        splits-fit = rw (held-numbers, recorded-length s w) facts.head.splits-fit;
        lanes_count = rw held-numbers (texts-length s);
        lanes-good = every-intro good_lane (held_at s).texts (λ x h. let l = texts-mem s x h in rw l.2 (lane-good l.0 l.1));
      }

  pub held_whole : whole (held_at s) ≡ true
  held_whole = facts-whole (held_at s) held-facts
