-- Trees and their lengths moved down over one of them. Assumes nothing.
--
--   moved-unkept, moved-kept            the lengths moved, where they are not kept and where they are
--   moved_length                        as many bytes as before
--   lengths-room, lists-room            what is moved lies inside the store, the lists before the masks
--   trees-moved                         all steps
use Rattle.std.specs.Prelude.{ℕ, suc, ◌+◌, ◌*◌, ◌≤◌, ◌<◌, ◌≡◌, refl, ◌⊎◌, eqb, get_or}
use Rattle.std.proofs.Common.{mul-suc, mul-add, mul-le-mul_left, mul-le-mul_right, arith, ◌∙◌, inl, inr, eq-eqb, ne_eqb}
use Rattle.std.proofs.Math.Logic.{⊎_map}
use mathlib.Core.List.{List}
use Rattle.std.proofs.Math.ListN.{length}
use Rattle.trees.specs.Opening.{Numbers, tree_bytes, branch_bytes}
use Rattle.theorems.specs.ListLaws.{less-or-not, equal_or_not, by-test, if-true, if-false}
use Rattle.fields.specs.Field.{put}
use Rattle.fields.specs.FieldLaws.{put-length, put-outside, number_put}
use Rattle.fields.specs.Run.{copied}
use Rattle.fields.specs.RunLaws.{copied-length, copied-inside, copied-outside}
use Rattle.head.specs.Head.{numbers_at}
use Rattle.layout.specs.Store.{tree_from, masks_from, branches_from, lengths_from, size_at, trees_held_at}
use Rattle.layout.specs.StoreLaws.{tree-from, masks-from, branches-from, lengths-from, size_is}
use Rattle.layout.specs.WholeFacts.{HeadAt}
use Rattle.layout.specs.InsideLaws.{trees-few}
use Rattle.withdrawing.specs.WithoutLaws.{old_number, old-before, old-behind, old-most}
use Rattle.withdrawing.specs.Unlisted.{lengths_moved, TreesMoved}

-- ---- runs of w bytes from a on: the m behind the k-th

module _ (w a k m to : ℕ) (s : List ℕ) (o : to ≡ a + w * k) (fits : to + w + w * m ≤ length s) where
  runs_moved : (i b : ℕ) → i < k + m → b < w → get_or (copied s to s (to + w) (w * m)) (a + w * i + b) 0 ≡ get_or s (a + w * old_number k i + b) 0
  runs_moved i b h l = go (less-or-not i k)
    where
      go : (i < k) ⊎ (k ≤ i) → get_or (copied s to s (to + w) (w * m)) (a + w * i + b) 0 ≡ get_or s (a + w * old_number k i + b) 0
      go (inl c) =
          let d = rw (mul-suc w i) at (mul-le-mul_left w c) in
          rw (old-before k i c) (copied-outside s to s (to + w) (w * m) (a + w * i + b) (inl (omega arith)))
      go (inr c) =
          let d = mul-le-mul_left w c in
          let e : w * i + w ≤ w * k + w * m = rw (mul-suc w i, mul-add w k m) at (mul-le-mul_left w h) in
          rw (old-behind k i c, mul-suc w i)
          (copied-inside s to s (to + w) (w * m) (a + w * i + b) (a + (w * i + w) + b) (omega arith) (omega arith) (omega arith) (omega arith) (omega arith))

-- ---- the lengths

module _ (n : Numbers) (k m : ℕ) (s : List ℕ) where
  pub moved-unkept : n.kept ≡ 0 → lengths_moved n k m s ≡ s
  unfolding lengths_moved
  moved-unkept e = if-true s _ (eq-eqb n.kept 0 e)

  pub moved-kept : (n.kept ≡ 0 → ⊥) → lengths_moved n k m s ≡ copied s (lengths_from n k) s (lengths_from n k + branch_bytes) (branch_bytes * m)
  unfolding lengths_moved
  moved-kept f = if-false s _ (ne_eqb n.kept 0 f)

  pub moved_length : length (lengths_moved n k m s) ≡ length s
  unfolding lengths_moved
  moved_length =
      by-test (λ (t : List ℕ). length t ≡ length s) (eqb n.kept 0) (λ _. refl) (λ _. copied-length s (lengths_from n k) s (lengths_from n k + branch_bytes) (branch_bytes * m))

-- ---- all steps

module _ (s : List ℕ) (g : HeadAt s) (k m : ℕ) (h : suc (k + m) ≡ trees_held_at s) where
  abbrev n : Numbers
  n = numbers_at s

  -- the bytes with the lengths moved, and then the lists
  abbrev u : List ℕ
  u = lengths_moved n k m s

  abbrev v : List ℕ
  v = copied u (tree_from n k) u (tree_from n k + tree_bytes) (tree_bytes * m)

  -- where lengths are kept, there is room for those of each tree
  pub lengths-room : 1 ≤ n.kept → lengths_from n k + branch_bytes + branch_bytes * m ≤ size_at s
  lengths-room e =
      let d : 1 * n.tree_room ≤ n.kept * n.tree_room = mul-le-mul_right n.tree_room e in
      omega (arith, g.trees-fit, size_is s, lengths-from n k, branches-from n)

  other-lengths : (i : ℕ) → (i < branches_from n) ⊎ (size_at s ≤ i) → get_or u i 0 ≡ get_or s i 0
  other-lengths i a = go (equal_or_not n.kept 0)
    where
      go : (n.kept ≡ 0) ⊎ (n.kept ≡ 0 → ⊥) → get_or u i 0 ≡ get_or s i 0
      go (inl e) = rw (moved-unkept n k m s e)
      go (inr e) =
          rw (moved-kept n k m s e)
          (copied-outside s _ s _ _ i (⊎_map (λ l. omega (arith, lengths-from n k)) (λ l. omega (arith, lengths-room (omega arith))) a))

  pub lists-room : tree_from n k + tree_bytes + tree_bytes * m ≤ masks_from n
  lists-room = omega (arith, g.trees-fit, tree-from n k, masks-from n)

  other-lists : (i : ℕ) → (i < tree_from n 0) ⊎ (masks_from n ≤ i) → get_or v i 0 ≡ get_or u i 0
  other-lists i a = copied-outside u _ u _ _ i (⊎_map (λ l. omega (arith, tree-from n 0, tree-from n k)) (λ l. omega (arith, lists-room)) a)

  -- the list of tree i, and its lengths
  list-moved : (i b : ℕ) → suc i < trees_held_at s → b < tree_bytes → get_or v (tree_from n i + b) 0 ≡ get_or s (tree_from n (old_number k i) + b) 0
  list-moved i b c d =
      let first = tree-from n 0 in
      let p : tree_from n k ≡ tree_from n 0 + tree_bytes * k = omega (arith, tree-from n k) in
      let q : tree_from n i ≡ tree_from n 0 + tree_bytes * i = omega (arith, tree-from n i) in
      let r : tree_from n (old_number k i) ≡ tree_from n 0 + tree_bytes * old_number k i = omega (arith, tree-from n (old_number k i)) in
      rw (q, r) (runs_moved tree_bytes (tree_from n 0) k m (tree_from n k) u p (omega (arith, lists-room, moved_length n k m s, size_is s, g.reached)) i b (omega arith) d)
      ∙ other-lengths (tree_from n (old_number k i) + b) (inl (omega (arith, r, old-most k i, lists-room, branches-from n)))

  branches-moved : 1 ≤ n.kept → (i b : ℕ) → suc i < trees_held_at s → b < branch_bytes → get_or u (lengths_from n i + b) 0 ≡ get_or s (lengths_from n (old_number k i) + b) 0
  branches-moved e i b c d =
      rw (moved-kept n k m s (λ z. omega arith), lengths-from n i, lengths-from n (old_number k i))
      (runs_moved branch_bytes (branches_from n) k m (lengths_from n k) s (lengths-from n k) (omega (arith, lengths-room e, g.reached)) i b (omega arith) d)

  pub trees-moved : (x : ℕ) → x ≡ k + m → (t : List ℕ) → t ≡ put 2 v 10 x → TreesMoved s k t
  trees-moved x p t y =
      let size : length v ≡ length s = copied-length u _ u _ _ ∙ moved_length n k m s in
      let behind : (i : ℕ) → 12 ≤ i → get_or t i 0 ≡ get_or v i 0 = λ i l. rw y (put-outside 2 v 10 x i (inr l)) in
      record {
        size = rw y (put-length 2 v 10 x ∙ size);
        trees = rw y (omega (arith, number_put 2 v 10 x (omega (arith, size, g.head-there)) (omega (arith, trees-few s g))));
        lists = λ i b c d. behind (tree_from n i + b) (omega (arith, tree-from n i)) ∙ list-moved i b c d;
        branches =
            λ e i b c d.
            let a = lengths-from n i in
            behind (lengths_from n i + b) (omega (arith, branches-from n, masks-from n))
            ∙ other-lists (lengths_from n i + b) (inr (omega (arith, branches-from n)))
            ∙ branches-moved e i b c d;
        outside = λ i a b c. rw y (put-outside 2 v 10 x i a ∙ other-lists i b ∙ other-lengths i c);
      }
