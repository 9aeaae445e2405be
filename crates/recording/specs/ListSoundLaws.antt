-- Parts with one tree more. Assumes nothing.
--
--   list_held        what they hold has the tree behind the others
--   list_counted     each split of the tree counts one more
--   list-sound       sound parts stay sound
use Prim.Native.Nat.{ℕ, suc, ◌+◌, ◌<◌}
use Rattle.std.specs.Prelude.{◌≡◌, true, length, get_or}
use Rattle.std.proofs.Math.Path.{refl, sym, ap}
use Rattle.std.proofs.Common.{◌∙◌}
use mathlib.Core.List.{List, [], ◌∷◌, ◌++◌, map, map-append}
use Rattle.std.proofs.Math.ListN.{get_or-append}
use Rattle.std.proofs.Math.Seq.{take-length}
use Rattle.std.proofs.lemmas.List.{get_or_at}
use Rattle.trees.specs.Plain.{every, member}
use Rattle.trees.specs.Consensus.{count}
use Rattle.trees.specs.Opening.{Opening}
use Rattle.trees.specs.Value.{Length}
use Rattle.trees.specs.Held.{with_tree}
use Rattle.trees.specs.Whole.{good_length}
use Rattle.theorems.specs.RisingLaws.{rising-true, true-rising}
use Rattle.head.specs.HeadLaws.{up_to-length, up_to-at}
use Rattle.layout.specs.Store.{Parts, branches_of, splits_in, trees_in, mask_in, count_in, list_in, held_in}
use Rattle.layout.specs.StoreLaws.{Shaped}
use Rattle.layout.specs.WholeStore.{listed_in}
use Rattle.layout.specs.WholeFacts.{ListIn}
use Rattle.layout.specs.Sound.{Sound}
use Rattle.layout.specs.UpToLaws.{one_more, each_more, count-append, one_if, one-if}
use Rattle.layout.specs.HighestLaws.{highest-same}
use Rattle.recording.specs.Added.{with_list, Rows}

module _ (rs : List ℕ) (xs : List Length) (p : Parts) where
  pub list_counted : (k : ℕ) → k < splits_in p → count_in (with_list rs xs p) k ≡ count_in p k + one_if (member k rs)
  unfolding with_list
  list_counted k h = up_to-at (λ i. count_in p i + one_if (member i rs)) (splits_in p) k 0 h

  listed_more : (k : ℕ) → listed_in (with_list rs xs p) k (trees_in (with_list rs xs p)) ≡ listed_in p k (trees_in p) + one_if (member k rs)
  unfolding listed_in with_list
  listed_more k = rw (take-length (p.lists ++ rs ∷ []), take-length p.lists, count-append p.lists rs k) (one-if (member k rs) (count p.lists k))

  each-list : Rows p rs → ((i : ℕ) → i < trees_in p → ListIn p i) → (i : ℕ) → i < trees_in (with_list rs xs p) → ListIn (with_list rs xs p) i
  unfolding with_list
  each-list r f i h =
      let old : (j : ℕ) → j < trees_in p → Rows p (list_in p j) =
      λ j l. let g = f j l in record { few = g.few; below = g.numbers-below; rises = rising-true _ g.tree-rising; agrees = g.agreeing } in
      let a = each_more p.lists rs [] (trees_in p) refl (λ (j : ℕ) (l : List ℕ). Rows p l) old r i (rw (← one_more p.lists rs) h) in
      record { few = a.few; numbers-below = a.below; tree-rising = true-rising _ a.rises; agreeing = a.agrees }

module _ (o : Opening) (rs : List ℕ) (xs : List Length) (p : Parts) where
  pub list_held : held_in o (with_list rs xs p) ≡ with_tree (held_in o p) (record { splits = map (mask_in p) rs; lengths = xs })
  unfolding held_in with_list with_tree
  list_held i = record { opening = o; trees = map-append (map (mask_in p)) p.lists (rs ∷ []) i; lengths = p.branches ++ xs ∷ []; texts = p.texts }

  each-lengths : Shaped o.numbers p → length xs ≡ branches_of o.numbers (length rs)
      → (i : ℕ) → i < suc (trees_in p) → length (get_or (p.branches ++ xs ∷ []) i []) ≡ branches_of o.numbers (length (get_or (p.lists ++ rs ∷ []) i []))
  each-lengths a long =
      each_more p.branches xs [] (trees_in p) a.branches (λ (i : ℕ) (l : List Length). length l ≡ branches_of o.numbers (length (get_or (p.lists ++ rs ∷ []) i [])))
      (λ i h. rw (get_or-append p.lists (rs ∷ []) [] i h) (a.branches-each i h)) (rw (get_or_at p.lists rs [] [] _ refl) long)

  pub list-sound : Sound o p → Rows p rs → length xs ≡ branches_of o.numbers (length rs) → every good_length xs ≡ true → Sound o (with_list rs xs p)
  unfolding with_list
  list-sound f r long good =
      let a = f.shaped in
      let b = f.splits in
      let c = f.chains in
      let n = up_to-length _ _ in
      let e = one_more p.lists rs in
      record {
        shaped =
            record {
              identifiers = a.identifiers;
              counts = n;
              links = a.links;
              order = a.order;
              starts = a.starts;
              branches = one_more p.branches xs ∙ ap suc a.branches ∙ sym e;
              branches-each = λ i h. each-lengths a long i (rw e at h);
              lengths = a.lengths;
              texts = a.texts;
            };
        splits = record { rows-below = b.rows-below; masks-proper = b.masks-proper; masks-rising = b.masks-rising; identifiers = b.identifiers };
        lists = each-list rs xs p r f.lists;
        counts = λ k h. list_counted rs xs p k h ∙ rw (f.counts k h) (sym (listed_more rs xs p k));
        chains = record { links = λ k h. c.links k h ∙ highest-same _ _ p _ k (λ i l. refl); starts = λ q h. c.starts q h ∙ highest-same _ _ p q _ (λ i l. refl) };
        lanes = f.lanes;
        branches = λ i h. each_more p.branches xs [] (trees_in p) a.branches (λ (j : ℕ) (l : List Length). every good_length l ≡ true) f.branches good i (rw e at h);
      }
