-- Laws of short lists and of their table. Assumes nothing.
--
--   kept_in, kept_out, kept-end      one turn of a loop that leaves members out
--   row-missing, row_common     the code's test of a row
--   Left, left-all, left-inside, left_in, left_out, left_end     a short list that is being stored, row by row
--   short-rows         a tree's short list is a list of rows
--   short-doubled      trees compared by their short lists are compared by their splits
--   rows_apart         the sum of the marks, and the distance by it
--   shortened-none     no list stands in the table yet
--   shortened-more     one list more
--   size_few           a list's places are enough
use Rattle.std.specs.Prelude.{◌≡◌, ℕ, suc, ◌+◌, ◌*◌, ◌<◌, ◌≤◌, Bool, true, false, not, ◌⊎◌, List, [], ◌∷◌, ◌++◌, length, take, drop, ◌≢◌, slice_index, slice_set}
use Rattle.std.proofs.Math.Numerals.{add-one}
use Rattle.std.proofs.Common.{arith, ap₂, ◌∙◌, inl, inr, append_assoc, drop_of_length-le, drop-cons, get_or-set_same, get_or-set_other, take_at, drop_at, take-add, length-take-le}
use Rattle.std.proofs.Math.Path.{refl, ap, sym}
use Rattle.std.proofs.Math.ListN.{length-set}
use Rattle.std.proofs.lemmas.List.Edits.{sets, sets-eq}
use Rattle.std.proofs.Math.Seq.{length-sets}
use Rattle.std.proofs.lemmas.List.{take-set-le}
use borrow.Author.Tests.{eqb-true, eq-eqb, ne_eqb}
use Rattle.trees.specs.Plain.{keep}
use Rattle.trees.specs.Distance.{one_sided, doubled}
use Rattle.trees.specs.Consensus.{recorded, count, is_strict, strict}
use Rattle.theorems.specs.ListLaws.{equal_or_not, Mem, member-mem, mem-member, keep-mem, mem-keep, keep-most}
use Rattle.theorems.specs.RisingLaws.{mem-recorded}
use Rattle.theorems.specs.CountLaws.{strict-exactly}
use Rattle.layout.specs.Store.{trees_held_at, mask_at, count_at, list_at, tree_at, held_at, most_splits}
use Rattle.layout.specs.WholeStore.{whole_at}
use Rattle.layout.specs.InsideLaws.{trees-few}
use Rattle.store.specs.RecordedAtLaws.{trees-length, mem-trees, mem-tree, member-at, count_at_lem}
use Rattle.store.specs.HeldWholeLaws.{tree-rises}
use Rattle.distances.specs.Short.{Rows, is_missing, short_list, rows_in, Shortened}
use Rattle.distances.specs.Marks.{marks_of, mark_sum}
use Rattle.distances.specs.MarkLaws.{sum-lacks}
use Rattle.distances.specs.LackLaws.{one_sided-most, one_sided-keep, rising-different, different-map, different-keep, one_sided-balance}
use Rattle.distances.specs.WholeTreeLaws.{head_at, list-few, row-few, row-held, list_same}

-- ---- one turn of a loop that leaves members out

module _ (p : ℕ → Bool) (l : List ℕ) (j k : ℕ) (h : j < length l) (q : k ≡ slice_index l j) where
  pub kept_in : p k ≡ true → keep p (drop j l) ≡ k ∷ keep p (drop (j + 1) l)
  unfolding keep
  kept_in e = rw (drop-cons l j 0 h, ← q, add-one j, e)

  pub kept_out : p k ≡ false → keep p (drop j l) ≡ keep p (drop (j + 1) l)
  unfolding keep
  kept_out e = rw (drop-cons l j 0 h, ← q, add-one j, e)

pub kept-end : (p : ℕ → Bool) (l : List ℕ) (j : ℕ) → length l ≤ j → keep p (drop j l) ≡ []
unfolding keep
kept-end p l j h = rw (drop_of_length-le l h)

-- ---- the test of the code

module _ (s : List ℕ) (k n trees : ℕ) (e : n ≡ count_at s k) (f : trees ≡ trees_held_at s) where
  pub row-missing : (n ≢ trees) → is_missing s k ≡ true
  unfolding is_missing
  row-missing g = ap not (ne_eqb (count_at s k) (trees_held_at s) (λ q. g (e ∙ q ∙ sym f)))

  pub row_common : n ≡ trees → is_missing s k ≡ false
  unfolding is_missing
  row_common q = ap not (eq-eqb (count_at s k) (trees_held_at s) (sym e ∙ q ∙ f))

-- ---- a short list that is being stored: the rows from j on are left

pub record Left (s : List ℕ) (i : ℕ) (old new : List ℕ) (at j : ℕ) : Type 0 where
  pub many : at + length (keep (is_missing s) (drop j (list_at s i))) ≡ 64 * i + length (short_list s i)
  pub rest : sets old (64 * i) (short_list s i) ≡ sets new at (keep (is_missing s) (drop j (list_at s i)))

module _ (s : List ℕ) (i : ℕ) (old : List ℕ) where
  pub left-all : Left s i old old (64 * i) 0
  unfolding short_list
  left-all = record { many = refl; rest = refl }

  module _ (new : List ℕ) (at j k : ℕ) (h : j < length (list_at s i)) (q : k ≡ slice_index (list_at s i) j) (f : Left s i old new at j) where
    pub left-inside : is_missing s k ≡ true → at < 64 * i + length (short_list s i)
    left-inside e = omega (arith, f.many, ap length (kept_in (is_missing s) (list_at s i) j k h q e))

    pub left_in : is_missing s k ≡ true → Left s i old (slice_set new at k) (at + 1) (j + 1)
    left_in e =
        let r = kept_in (is_missing s) (list_at s i) j k h q e in
        record {
          many = omega (arith, f.many, ap length r);
          rest = f.rest ∙ ap (sets new at) r ∙ ap (λ (x : ℕ). sets (slice_set new at k) x (keep (is_missing s) (drop (j + 1) (list_at s i)))) (sym (add-one at));
        }

    pub left_out : is_missing s k ≡ false → Left s i old new at (j + 1)
    left_out e = let r = kept_out (is_missing s) (list_at s i) j k h q e in record { many = rw (← r) f.many; rest = rw (← r) f.rest }

  pub left_end : (new : List ℕ) (at j : ℕ) → length (list_at s i) ≤ j → Left s i old new at j
      → (at ≡ 64 * i + length (short_list s i)) × (new ≡ sets old (64 * i) (short_list s i))
  left_end new at j h f =
      let e = kept-end (is_missing s) (list_at s i) j h in
      (omega (arith, f.many, ap length e), sym (f.rest ∙ ap (sets new at) e))

-- ---- short lists of a whole store

module _ (s : List ℕ) (w : whole_at s ≡ true) where
  pub short-few : (i : ℕ) → i < trees_held_at s → length (short_list s i) ≤ most_splits
  unfolding short_list
  short-few i h = omega (arith, keep-most (is_missing s) (list_at s i), list-few s w i h)

  pub short-rows : (i : ℕ) → i < trees_held_at s → Rows (short_list s i)
  unfolding short_list
  short-rows i h = record {
    few = short-few i h;
    below = λ k m. row-few s w i h k (keep-mem (is_missing s) (list_at s i) k m).0;
    different = different-keep (is_missing s) (list_at s i) (different-map (mask_at s) (list_at s i) (rising-different (tree_at s i) (tree-rises s w i h)));
  }

  -- a row that is left out is one that every tree lists
  all_list : (i j k : ℕ) → i < trees_held_at s → j < trees_held_at s → Mem k (list_at s i) → is_missing s k ≡ false → Mem k (list_at s j)
  unfolding is_missing strict is_strict
  all_list i j k h f m e =
      let r = row-held s w i h k m in
      let ts = (held_at s).trees in
      let n : count ts (mask_at s k) ≡ length ts = count_at_lem s w k r ∙ eqb-true _ _ (not-not _ e) ∙ sym (trees-length s) in
      let q = mem-keep (is_strict ts) (recorded ts) (mask_at s k) (mem-recorded ts (tree_at s i) (mask_at s k) (mem-trees s i h) (mem-tree s i k m)) (eq-eqb _ _ n) in
      let all = (strict-exactly ts (mask_at s k) (omega (arith, trees-length s))).0 q (tree_at s j) (mem-trees s j f) in
      member-mem k (list_at s j) (sym (member-at s w k j r f) ∙ mem-member (mask_at s k) (tree_at s j) all)
    where
      not-not : (b : Bool) → not b ≡ false → b ≡ true
      not-not true e = refl
      not-not false e = sym e

  short-same : (i j : ℕ) → i < trees_held_at s → j < trees_held_at s → one_sided (tree_at s i) (tree_at s j) ≡ one_sided (short_list s i) (short_list s j)
  unfolding short_list
  short-same i j h f = list_same s w i j h f ∙ sym (one_sided-keep (is_missing s) (list_at s i) (list_at s j) (λ k m e. all_list i j k h f m e))

  pub short-doubled : (i j : ℕ) → i < trees_held_at s → j < trees_held_at s → doubled (short_list s i) (short_list s j) ≡ doubled (tree_at s i) (tree_at s j)
  unfolding doubled
  short-doubled i j h f = sym (ap₂ ◌+◌ (short-same i j h f) (short-same j i f h))

-- ---- lists of rows compared

pub rows_apart : (a b marks : List ℕ) (n : ℕ) → Rows a → Rows b → marks ≡ marks_of a → n ≡ mark_sum marks b
    → (n ≡ one_sided b a) × (n ≤ most_splits) × (length a + n ≡ length b + one_sided a b)
rows_apart a b marks n p q e f =
    let r : n ≡ one_sided b a = f ∙ ap (λ (m : List ℕ). mark_sum m b) e ∙ sum-lacks b a q.below in
    (r, omega (arith, one_sided-most b a, q.few), omega (arith, one_sided-balance a b p.different q.different))

-- ---- the table

part-is : (l : List ℕ) (a n : ℕ) → a ≤ length l → drop a (take (a + n) l) ≡ take n (drop a l)
part-is l a n h = rw (take-add a n l) (drop_at (take a l) (take n (drop a l)) a (length-take-le a l h))

sets-front : (vs l : List ℕ) (a t : ℕ) → t ≤ a → take t (sets l a vs) ≡ take t l
sets-front [] l a t h = refl
sets-front (v ∷ vs) l a t h = sets-front vs (slice_set l a v) (suc a) t (omega arith) ∙ take-set-le t l a v h

module _ (vs l : List ℕ) (a : ℕ) (fits : a + length vs ≤ length l) where
  -- what is stored, and what stands before it
  part-stored : take (length vs) (drop a (sets l a vs)) ≡ vs
  part-stored =
      rw (sets-eq vs l a fits, append_assoc, drop_at (take a l) (vs ++ drop (a + length vs) l) a (length-take-le a l (omega arith)))
      (take_at vs (drop (a + length vs) l) (length vs) refl)

  part-before : (b n : ℕ) → b + n ≤ a → take n (drop b (sets l a vs)) ≡ take n (drop b l)
  part-before b n h =
      sym (part-is (sets l a vs) b n (omega (arith, length-sets l a vs))) ∙ ap (drop b) (sets-front vs l a (b + n) h) ∙ part-is l b n (omega arith)

pub shortened-none : (s short sizes : List ℕ) → length short ≡ 65536 → length sizes ≡ 1024 → Shortened s 0 short sizes
shortened-none s short sizes a b = record { room = a; trees = b; sized = λ i h. absurd (omega arith); listed = λ i h. absurd (omega arith) }

module _ (s : List ℕ) (w : whole_at s ≡ true) (n : ℕ) (short sizes : List ℕ) (f : Shortened s n short sizes) where
  pub size_few : (i : ℕ) → i < n → i < trees_held_at s → slice_index sizes i ≤ 64
  size_few i h k = omega (arith, f.sized i h, short-few s w i k)

  pub shortened-more : (m : ℕ) → n < trees_held_at s → m ≡ length (short_list s n) → Shortened s (n + 1) (sets short (64 * n) (short_list s n)) (slice_set sizes n m)
  unfolding rows_in
  shortened-more m k e = record {
    room = length-sets short (64 * n) (short_list s n) ∙ f.room;
    trees = length-set sizes n m ∙ f.trees;
    sized = λ i h. size i h (equal_or_not i n);
    listed = λ i h. list i h (equal_or_not i n);
  }
    where
      few : n < length sizes
      few = omega (arith, f.trees, trees-few s (head_at s w))

      fits : 64 * n + length (short_list s n) ≤ length short
      fits = omega (arith, f.room, short-few s w n k, trees-few s (head_at s w))

      size : (i : ℕ) → i < n + 1 → (i ≡ n) ⊎ (i ≢ n) → slice_index (slice_set sizes n m) i ≡ length (short_list s i)
      size i h (inl q) = rw q (get_or-set_same sizes n m 0 few ∙ e)
      size i h (inr q) = get_or-set_other sizes n i m 0 q ∙ f.sized i (omega arith)

      list : (i : ℕ) → i < n + 1 → (i ≡ n) ⊎ (i ≢ n) → rows_in (sets short (64 * n) (short_list s n)) (slice_set sizes n m) i ≡ short_list s i
      list i h (inl q) = rw (q, get_or-set_same sizes n m 0 few, e) (part-stored (short_list s n) short (64 * n) fits)
      list i h (inr q) =
          let b : i < n = omega arith in
          rw (get_or-set_other sizes n i m 0 q)
          (part-before (short_list s n) short (64 * n) fits (64 * i) (slice_index sizes i) (omega (arith, f.sized i b, short-few s w i (omega arith))) ∙ f.listed i b)
