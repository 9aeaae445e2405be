-- The splits of a tree counted one less: one turn of the loop, and what all leave. Assumes nothing.
--
--   Counting s k j u                 u is s with the first j splits of tree k counted one less
--   counting-none, counting_more     the loop
--   counting-row                     the tree's list is read as it was
--   counting-fits                    the next split's count lies inside and is at least 1
--   counted                          all turns
use Rattle.std.specs.Prelude.{ℕ, suc, ◌+◌, ◌-◌, ◌*◌, ◌≤◌, ◌<◌, ◌≡◌, ◌⊎◌, Bool, ◌||◌, List, ◌∷◌, map, eqb, length, get_or, drop}
use Rattle.std.proofs.Common.{add-one, arith, sym, ◌∙◌, inl, drop-cons}
use Rattle.std.proofs.Math.Path.{refl, ap}
use Rattle.std.proofs.Math.Logic.{⊎_map}
use Rattle.std.proofs.Math.Bool.{true, false}
use Rattle.std.proofs.Math.Seq.{drop-length}
use borrow.Author.Tests.{eqb-true, eqb-false}
use Rattle.trees.specs.Plain.{member}
use Rattle.trees.specs.Opening.{Numbers}
use Rattle.theorems.specs.ListLaws.{less-or-not, mem-get_d, mem-member, member-not}
use Rattle.theorems.specs.RisingLaws.{Rising, rising-true}
use Rattle.fields.specs.Field.{number, put}
use Rattle.fields.specs.FieldLaws.{put-length, put-outside, number_put, number-put-outside, number_same}
use Rattle.head.specs.Head.{numbers_at}
use Rattle.layout.specs.Store.{tree_from, counts_from, links_from, parts_at, trees_held_at, splits_held_at, mask_at, count_at, list_at}
use Rattle.layout.specs.StoreLaws.{tree-from, masks-from, counts-from, links-from, count-is, list_length, list_at_lem}
use Rattle.layout.specs.WholeFacts.{WholeAt}
use Rattle.layout.specs.UpToLaws.{mem-map, one_if, listed-most}
use Rattle.layout.specs.InsideLaws.{trees-few, count-inside}
use Rattle.withdrawing.specs.Unlisted.{CountedLess}

pub record Counting (s : List ℕ) (k j : ℕ) (u : List ℕ) : Type 0 where
  pub size : length u ≡ length s
  -- with all splits of the tree counted, the counts are as before but for those that are still to come
  pub counts : (r : ℕ) → r < splits_held_at s
      → number 4 u (counts_from (numbers_at s) + 4 * r) + one_if (member r (list_at s k)) ≡ count_at s r + one_if (member r (drop j (list_at s k)))
  pub rises : Rising (map (mask_at s) (drop j (list_at s k)))
  pub outside : (i : ℕ) → (i < counts_from (numbers_at s)) ⊎ (links_from (numbers_at s) ≤ i) → get_or u i 0 ≡ get_or s i 0

module _ (s : List ℕ) (f : WholeAt s) (k : ℕ) (b : k < trees_held_at s) where
  abbrev n : Numbers
  n = numbers_at s

  abbrev rs : List ℕ
  rs = list_at s k

  pub counting-none : Counting s k 0 s
  counting-none = record { size = refl; counts = λ r h. rw (count-is s r h); rises = rising-true _ (f.lists k b).tree-rising; outside = λ i p. refl }

  pub counting-row : (j : ℕ) (u : List ℕ) → Counting s k j u → j < length rs → number 2 u (tree_from n k + 2 + 2 * j) ≡ get_or rs j 0
  counting-row j u e h =
      let l = list_length s k b in
      number_same 2 u s _ _ (λ d c.
      e.outside (tree_from n k + 2 + 2 * j + d) (inl (omega (arith, (f.lists k b).few, f.head.trees-fit, tree-from n k, counts-from n, masks-from n))))
      ∙ sym (list_at_lem s k b j (omega arith))

  -- the next row is x, and its count is at `at`
  module _ (j : ℕ) (u : List ℕ) (e : Counting s k j u) (h : j < length rs) (x at : ℕ) (d : x ≡ get_or rs j 0) (p : at ≡ counts_from n + 4 * x) where
    row : x < splits_held_at s
    row = rw d ((f.lists k b).numbers-below (get_or rs j 0) (mem-get_d rs j h))

    -- the rows behind it
    abbrev ys : List ℕ
    ys = drop (suc j) rs

    rest : drop j rs ≡ x ∷ ys
    rest = rw d (drop-cons rs j 0 h)

    still : number 4 u at ≡ count_at s x
    unfolding one_if
    still =
        let m = mem-member x rs (rw d (mem-get_d rs j h)) in
        let l = mem-member x (drop j rs) (rw rest (inl refl)) in
        rw p (omega (arith, rw (m, l) at (e.counts x row)))

    -- "each count is the number of trees listing that split, at least 1"
    pub counting-fits : (at + 4 ≤ length u) × (1 ≤ number 4 u at)
    counting-fits = (omega (arith, count-inside s f.head x row, e.size), rw still (f.counts x row).some-tree)

    -- it fits its bytes, as it was the number of the trees that list the split
    small : count_at s x ≤ 1024
    small = omega (arith, (f.counts x row).counted, listed-most (parts_at s) x (trees_held_at s) (omega arith), trees-few s f.head)

    module _ (v : ℕ) (q : v ≡ number 4 u at) where
      abbrev w : List ℕ
      w = put 4 u at (v - 1)

      counted-more : (r : ℕ) (t : Bool) → eqb r x ≡ t → number 4 w (counts_from n + 4 * r) + one_if (t || member r ys) ≡ number 4 u (counts_from n + 4 * r) + one_if (member r ys)
      unfolding one_if
      counted-more r true y =
          let a = eqb-true r x y in
          let m = member-not r ys (λ l. omega (arith, (rw rest at e.rises).0 (mask_at s r) (mem-map (mask_at s) ys r l), ap (mask_at s) a)) in
          let c = number_put 4 u at (v - 1) counting-fits.0 (omega (arith, still, small)) in
          rw (m, a, ← p) (omega (arith, c, counting-fits.1))
      counted-more r false y =
          let c : (counts_from n + 4 * r + 4 ≤ at) ⊎ (at + 4 ≤ counts_from n + 4 * r) = ⊎_map (λ l. omega arith) (λ l. omega (arith, eqb-false r x y)) (less-or-not r x) in
          rw (number-put-outside 4 4 u at (v - 1) (counts_from n + 4 * r) c)

      -- the counts lie between the identifiers and the links
      beside : (i : ℕ) → (i < counts_from n) ⊎ (links_from n ≤ i) → (i < at) ⊎ (at + 4 ≤ i)
      beside i = ⊎_map (λ l. omega arith) (λ l. omega (arith, row, f.head.splits-fit, counts-from n, links-from n))

      pub counting_more : Counting s k (j + 1) w
      unfolding member
      counting_more = record {
        size = put-length 4 u at (v - 1) ∙ e.size;
        counts = λ r l. rw (add-one j) (omega (arith, counted-more r (eqb r x) refl, rw rest at (e.counts r l)));
        rises = rw (add-one j) (rw rest at e.rises).1;
        outside = λ i a. put-outside 4 u at (v - 1) i (beside i a) ∙ e.outside i a;
      }

  pub counted : (u : List ℕ) → Counting s k (length rs) u → CountedLess s k u
  unfolding member one_if
  counted u e = record {
    size = e.size;
    counts = λ r h. omega (arith, rw (drop-length rs) at (e.counts r h));
    outside = e.outside;
  }
