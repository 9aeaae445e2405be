-- The laws of a split's lengths, gone over tree by tree. Assumes nothing.
--
--   none-met                             before the first tree: what is answered is what is left
--   here, further, nowhere               a split in a tree, as a loop over the tree's list finds it
--   each-branch                          where lengths are kept, there is one for each split of a tree
--   few-splits, branch-good, by_rows     of whole bytes: a tree's list fits its place, its lengths are good, a split in it by its row
--   tree-lacking, tree-absent, tree-given, trees-over     the trees, one after another
--   lengths-missing, lengths-not-kept, lengths-found      one split: 13, 18, or what is answered of its row
use Rattle.std.specs.Prelude.{ℕ, ◌+◌, ◌≤◌, ◌<◌, ◌≡◌, Bool, true, false, List, [], ◌∷◌, map, eqb, Float, length, get_or, drop, if◌then◌else◌, None, Some, Option as CodeOption}
use Rattle.std.proofs.Common.{add-one, arith, sym, ap, ◌∙◌, inl, inr, drop_of_length-le}
use Rattle.std.proofs.Math.Path.{refl}
use Rattle.std.proofs.Math.Option.{Option, none, some}
use Rattle.std.proofs.Math.Seq.{drop-cons}
use borrow.Author.Tests.{lt-ltb, le-ltb, eqb-true, eq-eqb, ne_eqb}
use Rattle.trees.specs.Plain.{member, Answer, refused, gives}
use Rattle.trees.specs.Value.{Length}
use Rattle.trees.specs.Sums.{Sums, sums}
use Rattle.trees.specs.Whole.{good_length}
use Rattle.trees.specs.Questions.{if_kept, all_given, with_given, if_given, length_for, lengths_for, sums_of}
use Rattle.theorems.specs.ListLaws.{Mem, same_bool}
use Rattle.theorems.specs.OpeningLaws.{every-get_d}
use Rattle.answers.specs.declared.Refusal.TheVariants as why
use Rattle.answers.specs.Answers.{refusal_number, refusing}
use Rattle.doubles.specs.Stored.{branch_given}
use Rattle.weighing.specs.Summed.{with_length}
use Rattle.weighing.specs.SummedLaws.{in_order, sums-in_order}
use Rattle.head.specs.Head.{numbers_at, opening_at}
use Rattle.layout.specs.Store.{parts_at, trees_held_at, splits_held_at, mask_at, order_at, list_at, tree_at, branches_of, branches_at, held_at, held_in, most_splits}
use Rattle.layout.specs.StoreLaws.{shaped-at}
use Rattle.layout.specs.WholeStore.{whole_at}
use Rattle.layout.specs.WholeFacts.{whole-at-facts}
use Rattle.layout.specs.OrderLaws.{mask-same}
use Rattle.store.specs.RecordedAtLaws.{trees-length, tree-at, member-at, recorded-length, recorded-mask}
use Rattle.store.specs.LentLaws.{when_whole}
use Rattle.table.specs.Asked.{split_lengths_asked}
use Rattle.table.specs.SplitLengths.{branch_found, in_tree, go_on, lengths_left, row_lengths}

-- ---- what is left of the lengths

-- where some were met
met : Sums → Option (List Float) → Answer Sums
met z none = refused 18
met z (some ys) = gives (in_order z ys)

go_on-met : (z : Sums) (xs : List Length) → go_on true z xs ≡ met z (all_given xs)
unfolding go_on met all_given with_given in_order
go_on-met z [] = refl
go_on-met z (none ∷ xs) = refl
go_on-met z (some x ∷ xs) = go_on-met (with_length z x) xs ∙ go (all_given xs)
  where
    go : (o : Option (List Float)) → met (with_length z x) o ≡ met z (with_given (some x) o)
    go none = refl
    go (some ys) = refl

pub none-met : (xs : List Length) → go_on false (sums []) xs ≡ if_given xs sums
unfolding go_on met if_given all_given with_given
none-met [] = refl
none-met (none ∷ xs) = refl
none-met (some x ∷ xs) = go_on-met (sums (x ∷ [])) xs ∙ go (all_given xs)
  where
    go : (o : Option (List Float)) → met (sums (x ∷ [])) o ≡ elim (with_given (some x) o) [ none ↦ refused 18 | some ys ↦ gives (sums ys) ]
    go none = refl
    go (some ys) = ap gives (sums-in_order x ys)

-- ---- a split in a tree

module _ (m : ℕ) (t : List ℕ) (xs : List Length) (j : ℕ) where
  pub nowhere : length t ≤ j → in_tree m (drop j t) (drop j xs) ≡ none
  unfolding in_tree member
  nowhere h = rw (drop_of_length-le t h)

  module _ (a : j < length t) (b : j < length xs) where
    pub here : get_or t j 0 ≡ m → in_tree m (drop j t) (drop j xs) ≡ some (get_or xs j none)
    unfolding in_tree member length_for
    here e = rw (drop-cons t j 0 a, drop-cons xs j none b, e, eq-eqb m m refl)

    pub further : (get_or t j 0 ≡ m → ⊥) → in_tree m (drop j t) (drop j xs) ≡ in_tree m (drop (j + 1) t) (drop (j + 1) xs)
    unfolding in_tree member length_for
    further f = rw (add-one j, drop-cons t j 0 a, drop-cons xs j none b, ne_eqb m (get_or t j 0) (λ z. f (sym z)))

length-mapped : (f : ℕ → ℕ) (m : ℕ) (l : List ℕ) (xs : List Length) → ((k : ℕ) → Mem k l → eqb (f m) (f k) ≡ eqb m k) → length_for (f m) (map f l) xs ≡ length_for m l xs
unfolding length_for
length-mapped f m [] xs e = refl
length-mapped f m (k ∷ l) [] e = refl
length-mapped f m (k ∷ l) (x ∷ xs) e = rw (e k (inl refl), length-mapped f m l xs (λ z h. e z (inr h)))

pub each-branch : (s : List ℕ) (i : ℕ) → i < trees_held_at s → 1 ≤ (numbers_at s).kept → length (branches_at s i) ≡ length (list_at s i)
unfolding branches_of
each-branch s i h k = (shaped-at s).branches-each i h ∙ rw (ne_eqb (numbers_at s).kept 0 (λ z. omega arith))

module _ (s : List ℕ) (w : whole_at s ≡ true) (i : ℕ) (h : i < trees_held_at s) where
  pub few-splits : length (list_at s i) ≤ most_splits
  few-splits = ((whole-at-facts s w).lists i h).few

  pub branch-good : (j : ℕ) → good_length (get_or (branches_at s i) j none) ≡ true
  branch-good j = every-get_d good_length (branches_at s i) none (unfold good_length in refl) ((whole-at-facts s w).branches i h) j

  module _ (row : ℕ) (r : row < splits_held_at s) where
    mask-test : (k : ℕ) → Mem k (list_at s i) → eqb (mask_at s row) (mask_at s k) ≡ eqb row k
    mask-test k q =
        let f = whole-at-facts s w in
        same_bool _ _
        (λ e. eq-eqb row k (mask-same (parts_at s) (shaped-at s).order f.splits row k r ((f.lists i h).numbers-below k q) (eqb-true _ _ e)))
        (λ e. eq-eqb _ _ (ap (mask_at s) (eqb-true row k e)))

    pub by_rows : in_tree row (list_at s i) (branches_at s i) ≡ in_tree (mask_at s row) (tree_at s i) (branches_at s i)
    unfolding in_tree
    by_rows = rw (member-at s w row i r h, length-mapped (mask_at s) row (list_at s i) (branches_at s i) mask-test)

-- ---- the trees, one after another

with_tree : Option Length → List Length → List Length
with_tree none xs = xs
with_tree (some x) xs = x ∷ xs

tree-first : (m : ℕ) (t : List ℕ) (xs : List Length) (ts : List (List ℕ)) (xss : List (List Length))
    → lengths_for m (t ∷ ts) (xs ∷ xss) ≡ with_tree (in_tree m t xs) (lengths_for m ts xss)
unfolding lengths_for in_tree with_tree
tree-first m t xs ts xss = go (member m t)
  where
    go : (c : Bool) → (if c then length_for m t xs ∷ lengths_for m ts xss else lengths_for m ts xss) ≡ with_tree (if c then some (length_for m t xs) else none) (lengths_for m ts xss)
    go true = refl
    go false = refl

tree-next : (m : ℕ) (ts : List (List ℕ)) (xss : List (List Length)) (i : ℕ) → i < length ts → i < length xss
    → lengths_for m (drop i ts) (drop i xss) ≡ with_tree (in_tree m (get_or ts i []) (get_or xss i [])) (lengths_for m (drop (i + 1) ts) (drop (i + 1) xss))
tree-next m ts xss i a b = rw (add-one i, drop-cons ts i [] a, drop-cons xss i [] b) (tree-first m (get_or ts i []) (get_or xss i []) _ _)

module _ (s : List ℕ) (row i : ℕ) where
  branches-count : length (held_at s).lengths ≡ trees_held_at s
  unfolding held_in
  branches-count = (shaped-at s).branches

  branches-here : get_or (held_at s).lengths i [] ≡ branches_at s i
  unfolding held_in
  branches-here = refl

  pub trees-over : (b : Bool) (z : Sums) → trees_held_at s ≤ i → go_on b z (lengths_left s row i) ≡ gives z
  unfolding go_on lengths_for
  trees-over b z h = rw (drop_of_length-le (held_at s).trees {i = i} (omega (arith, trees-length s)))

  module _ (h : i < trees_held_at s) (f : CodeOption (CodeOption Float)) (e : branch_found f ≡ in_tree (mask_at s row) (tree_at s i) (branches_at s i)) where
    in-next : lengths_left s row i ≡ with_tree (branch_found f) (lengths_left s row (i + 1))
    in-next =
        tree-next (mask_at s row) (held_at s).trees (held_at s).lengths i (omega (arith, trees-length s)) (omega (arith, branches-count))
        ∙ rw (e, tree-at s i h, branches-here)

    pub tree-lacking : f ≡ None → lengths_left s row i ≡ lengths_left s row (i + 1)
    unfolding with_tree branch_found
    tree-lacking q = in-next ∙ rw q

    module _ (x : CodeOption Float) (q : f ≡ Some x) (b : Bool) (z : Sums) where
      -- 18
      pub tree-absent : x ≡ None → go_on b z (lengths_left s row i) ≡ refusing why.NoLength
      unfolding go_on with_tree branch_found branch_given refusal_number
      tree-absent a = rw (in-next, q, a)

      pub tree-given : (y : Float) → x ≡ Some y → go_on b z (lengths_left s row i) ≡ go_on true (if b then with_length z y else sums (y ∷ [])) (lengths_left s row (i + 1))
      unfolding go_on with_tree branch_found branch_given
      tree-given y a = rw (in-next, q, a)

-- ---- one split

module _ (s : List ℕ) (w : whole_at s ≡ true) (k : ℕ) where
  -- 13
  pub lengths-missing : splits_held_at s ≤ k → split_lengths_asked s k ≡ refusing why.NoSuchNumber
  unfolding sums_of refusal_number
  lengths-missing h = when_whole s (λ x. sums_of x k) w ∙ rw (recorded-length s w, le-ltb k (splits_held_at s) h)

  module _ (h : k < splits_held_at s) where
    lengths-there : split_lengths_asked s k ≡ if_kept (held_at s) (row_lengths s (order_at s k))
    unfolding sums_of
    lengths-there = when_whole s (λ x. sums_of x k) w ∙ rw (recorded-length s w, lt-ltb k (splits_held_at s) h, recorded-mask s w k h)

    -- 18: "none are kept"
    pub lengths-not-kept : (numbers_at s).kept ≡ 0 → split_lengths_asked s k ≡ refusing why.NoLength
    unfolding if_kept held_in opening_at refusal_number
    lengths-not-kept z = lengths-there ∙ rw (eq-eqb (numbers_at s).kept 0 z)

    pub lengths-found : ((numbers_at s).kept ≡ 0 → ⊥) → (row : ℕ) → row ≡ order_at s k → split_lengths_asked s k ≡ row_lengths s row
    unfolding if_kept held_in opening_at
    lengths-found z row e = lengths-there ∙ rw (ne_eqb (numbers_at s).kept 0 z, e)
