-- A tree taken from the lists: what the steps leave together. Assumes nothing.
--
--   up_to-without                    a list made by `up_to` without one of its elements
--   counted-trees, counted-head     where counts alone change, the number of trees stays, and the head stays in order
--   unlisted                        both steps
use Rattle.std.specs.Prelude.{ℕ, suc, ◌+◌, ◌-◌, ◌*◌, ◌≤◌, ◌<◌, ◌≡◌, ◌⊎◌, List, length, get_or}
use Rattle.std.proofs.Common.{arith, sym, ◌∙◌, inl, inr, ext_get_or}
use Rattle.std.proofs.Math.Path.{ap}
use Rattle.std.proofs.Math.Logic.{⊎_map}
use Rattle.trees.specs.Plain.{member}
use Rattle.trees.specs.Opening.{Numbers, head_bytes, tree_bytes, branch_bytes}
use Rattle.trees.specs.Withdrawing.{without_at}
use Rattle.theorems.specs.WithdrawLaws.{without_fewer}
use Rattle.fields.specs.Field.{number}
use Rattle.fields.specs.FieldLaws.{number_same}
use Rattle.head.specs.Head.{up_to, numbers_at, opening_at}
use Rattle.head.specs.HeadLaws.{up_to-length, up_to-at, up_to-same}
use Rattle.layout.specs.Columns.{column_at, column-same}
use Rattle.layout.specs.Store.{tree_from, masks_from, identifiers_from, counts_from, links_from, order_from, places_from, branches_from, lengths_from, size_at, list_from, branches_of, lengths_at, parts_at, trees_held_at, splits_held_at, count_at, list_at, most_splits}
use Rattle.layout.specs.StoreLaws.{tree-from, masks-from, identifiers-from, counts-from, links-from, order_from_lem, places-from, branches-from, lengths-from, lengths-same, branches-some, size_is, trees-held-is, splits-held-is, list_length, length-is}
use Rattle.layout.specs.WholeFacts.{HeadAt, WholeAt}
use Rattle.layout.specs.UpToLaws.{one_if}
use Rattle.layout.specs.InsideLaws.{ranges}
use Rattle.layout.specs.KeptLaws.{Kept, number-kept, lengths-kept, texts-kept, numbers-kept, opening-kept}
use Rattle.layout.specs.OpeningKeptLaws.{numbers-held, size-held, head-held}
use Rattle.withdrawing.specs.Left.{without_list, Turned}
use Rattle.withdrawing.specs.WithoutLaws.{old_number, old-most, without_at_lem}
use Rattle.withdrawing.specs.Unlisted.{CountedLess, TreesMoved}

-- ---- lists

pub up_to-without : {A : Type 0} (f : ℕ → A) (n k : ℕ) → k ≤ n → without_at k (up_to f (suc n)) ≡ up_to (λ i. f (old_number k i)) n
up_to-without f n k h =
    let z = up_to-length f (suc n) in
    let e = without_fewer k (up_to f (suc n)) (omega (arith, z)) in
    ext_get_or (f 0) _ _ (omega (arith, e, z, up_to-length (λ i. f (old_number k i)) n)) (λ i l.
    let b : i < n = omega (arith, e, z) in
    without_at_lem k (up_to f (suc n)) i (f 0) ∙ up_to-at f (suc n) (old_number k i) (f 0) (omega (arith, old-most k i)) ∙ sym (up_to-at (λ j. f (old_number k j)) n i (f 0) b))

-- equal bytes, in two lists and at two places, give equal lists
list_same : (s t : List ℕ) (a b : ℕ) → number 2 t b ≤ most_splits → ((d : ℕ) → d < tree_bytes → get_or s (a + d) 0 ≡ get_or t (b + d) 0) → list_from s a ≡ list_from t b
unfolding list_from column_at
list_same s t a b few same =
    rw (number_same 2 s t a b (λ d h. same d (omega arith)))
    (up_to-same _ _ (number 2 t b) (λ j h.
    number_same 2 s t _ _ (λ d l.
    let p : a + 2 + 2 * j + d ≡ a + (2 + 2 * j + d) = omega arith in
    let q : b + 2 + 2 * j + d ≡ b + (2 + 2 * j + d) = omega arith in
    rw (p, q) (same (2 + 2 * j + d) (omega arith)))))

-- ---- the counts

module _ (s : List ℕ) (g : HeadAt s) (bytes : (i : ℕ) → get_or s i 0 < 256) (k : ℕ) (u : List ℕ) (c : CountedLess s k u) where
  front : Kept s u 0 head_bytes
  front i a b = c.outside i (inl (omega (arith, counts-from (numbers_at s), masks-from (numbers_at s))))

  counted-opening : opening_at u ≡ opening_at s
  counted-opening =
      opening-kept s u (λ i a b. front i a (omega arith)) (λ i a b. front i (omega arith) b) g.head-there c.size bytes (ranges s g).most-taxa

  pub counted-trees : trees_held_at u ≡ trees_held_at s
  counted-trees = trees-held-is u ∙ number-kept s u 0 head_bytes front 2 10 (omega arith) (omega arith) ∙ sym (trees-held-is s)

  counted-splits : splits_held_at u ≡ splits_held_at s
  counted-splits = splits-held-is u ∙ number-kept s u 0 head_bytes front 2 12 (omega arith) (omega arith) ∙ sym (splits-held-is s)

  pub counted-head : HeadAt u
  counted-head = head-held s u counted-opening g c.size (omega (arith, counted-trees, g.trees-fit)) (omega (arith, counted-splits, g.splits-fit))

-- ---- both steps

module _ (s : List ℕ) (f : WholeAt s) (bytes : (i : ℕ) → get_or s i 0 < 256) (k : ℕ) (h : k < trees_held_at s)
    (u : List ℕ) (c : CountedLess s k u) (t : List ℕ) (m : TreesMoved u k t) where
  abbrev n : Numbers
  n = numbers_at s

  numbers-u : numbers_at u ≡ n
  numbers-u = numbers-held s u (counted-opening s f.head bytes k u c)

  size-u : size_at u ≡ size_at s
  size-u = size-held s u (counted-opening s f.head bytes k u c)

  size : length t ≡ length s
  size = m.size ∙ c.size

  -- every byte but the number of trees, their lists and lengths, and the counts
  byte : (i : ℕ) → (i < 10) ⊎ (12 ≤ i) → (i < tree_from n 0) ⊎ (masks_from n ≤ i) → (i < counts_from n) ⊎ (links_from n ≤ i) → (i < branches_from n) ⊎ (size_at s ≤ i)
      → get_or t i 0 ≡ get_or s i 0
  byte i a b d e = rw (numbers-u, size-u) at (m.outside i) a b e ∙ c.outside i d

  early : (i : ℕ) → i < tree_from n 0 → (i < 10) ⊎ (12 ≤ i) → get_or t i 0 ≡ get_or s i 0
  early i b a =
      let z = tree-from n 0 in
      let y = masks-from n in
      byte i a (inl b) (inl (omega (arith, counts-from n))) (inl (omega (arith, branches-from n)))

  front-head : Kept s t 0 10
  front-head i a b = early i (omega (arith, tree-from n 0)) (inl b)

  before : Kept s t 12 (tree_from n 0)
  before i a b = early i b (inr a)

  between : Kept s t (masks_from n) (counts_from n)
  between i a b = byte i (inr (omega (arith, masks-from n))) (inr a) (inl b) (inl (omega (arith, counts-from n, branches-from n)))

  links : Kept s t (links_from n) (branches_from n)
  links i a b = byte i (inr (omega (arith, links-from n, masks-from n))) (inr (omega (arith, links-from n))) (inr a) (inl b)

  behind : (i : ℕ) → size_at s ≤ i → get_or t i 0 ≡ get_or s i 0
  behind i a =
      byte i (inr (omega (arith, size_is s, masks-from n))) (inr (omega (arith, size_is s))) (inr (omega (arith, size_is s, links-from n))) (inr a)

  -- ---- the trees

  abbrev last : ℕ
  last = number 2 t 10

  trees : number 2 s 10 ≡ suc last
  trees = sym (m.trees ∙ counted-trees s f.head bytes k u c ∙ trees-held-is s)

  -- tree i, by its old number
  module _ (i : ℕ) (b : i < last) where
    abbrev old : ℕ
    old = old_number k i

    held : old < trees_held_at s
    held = omega (arith, old-most k i, trees, trees-held-is s)

    few : number 2 s (tree_from n old) ≤ most_splits
    few = omega (arith, list_length s old held, (f.lists old held).few)

    list-byte : (d : ℕ) → d < tree_bytes → get_or t (tree_from n i + d) 0 ≡ get_or s (tree_from n old + d) 0
    list-byte d l =
        rw numbers-u at (m.lists i d (omega (arith, m.trees)) l)
        ∙ c.outside (tree_from n old + d) (inl (omega (arith, f.head.trees-fit, held, tree-from n old, counts-from n, masks-from n)))

    list-old : list_from t (tree_from n i) ≡ list_from s (tree_from n old)
    list-old = list_same t s (tree_from n i) (tree_from n old) few list-byte

    entries-old : number 2 t (tree_from n i) ≡ number 2 s (tree_from n old)
    entries-old = number_same 2 t s (tree_from n i) (tree_from n old) (λ d l. list-byte d (omega arith))

    branch-byte : 1 ≤ n.kept → (d : ℕ) → d < branch_bytes → get_or t (lengths_from n i + d) 0 ≡ get_or s (lengths_from n old + d) 0
    branch-byte e d l =
        rw numbers-u at (m.branches (rw numbers-u e) i d (omega (arith, m.trees)) l)
        ∙ c.outside (lengths_from n old + d) (inr (omega (arith, lengths-from n old, branches-from n, links-from n)))

    branches-old : lengths_at t (lengths_from n i) (branches_of n (number 2 t (tree_from n i))) ≡ lengths_at s (lengths_from n old) (branches_of n (number 2 s (tree_from n old)))
    branches-old =
        rw entries-old
        (lengths-same t s (lengths_from n i) (lengths_from n old) _ (λ j l.
        let x = branches-some n (number 2 s (tree_from n old)) j l in
        number_same 8 t s _ _ (λ d r.
        let p : lengths_from n i + 8 * j + d ≡ lengths_from n i + (8 * j + d) = omega arith in
        let q : lengths_from n old + 8 * j + d ≡ lengths_from n old + (8 * j + d) = omega arith in
        rw (p, q) (branch-byte x.0 (8 * j + d) (omega (arith, few, x.1))))))

  lists : up_to (λ i. list_from t (tree_from n i)) last ≡ without_at k (up_to (λ i. list_from s (tree_from n i)) (number 2 s 10))
  lists = rw (trees, up_to-without (λ i. list_from s (tree_from n i)) last k (omega (arith, trees-held-is s, trees))) (up_to-same _ _ last list-old)

  branches : up_to (λ i. lengths_at t (lengths_from n i) (branches_of n (number 2 t (tree_from n i)))) last
      ≡ without_at k (up_to (λ i. lengths_at s (lengths_from n i) (branches_of n (number 2 s (tree_from n i)))) (number 2 s 10))
  branches =
      rw (trees, up_to-without (λ i. lengths_at s (lengths_from n i) (branches_of n (number 2 s (tree_from n i)))) last k (omega (arith, trees-held-is s, trees)))
      (up_to-same _ _ last branches-old)

  -- ---- all of it

  counted : (r : ℕ) → r < splits_held_at s → number 4 t (counts_from n + 4 * r) ≡ count_at s r - one_if (member r (list_at s k))
  counted r b =
      number_same 4 t u _ _ (λ d l.
      rw (numbers-u, size-u) at (m.outside (counts_from n + 4 * r + d)) (inr (omega (arith, counts-from n, masks-from n))) (inr (omega (arith, counts-from n)))
      (inl (omega (arith, f.head.splits-fit, counts-from n, branches-from n))))
      ∙ c.counts r b

  parts : parts_at t ≡ without_list k (parts_at s)
  unfolding parts_at without_list column_at opening_at
  parts =
      let e = numbers-kept s t front-head (λ i a b. before i (omega arith) (omega (arith, tree-from n 0))) in
      let d = splits-held-is s in
      let fit = f.head.splits-fit in
      rw (
        e,
        ap (λ (x : Numbers). x.places) e,
        ap (λ (x : Numbers). x.lanes) e,
        number-kept s t 12 (tree_from n 0) before 2 12 (omega arith) (omega (arith, tree-from n 0)),
        column-same 8 (masks_from n) (number 2 s 12) t s (λ i a b. between i a (omega (arith, counts-from n))),
        column-same 8 (identifiers_from n) (number 2 s 12) t s (λ i a b. between i (omega (arith, identifiers-from n)) (omega (arith, identifiers-from n, counts-from n))),
        rw d at (up_to-same _ _ (splits_held_at s) counted),
        d,
        column-same 2 (links_from n) (number 2 s 12) t s (λ i a b. links i a (omega (arith, links-from n, branches-from n))),
        column-same 2 (order_from n) (number 2 s 12) t s (λ i a b. links i (omega (arith, links-from n, order_from_lem n)) (omega (arith, order_from_lem n, branches-from n))),
        column-same 2 (places_from n) n.places t s (λ i a b. links i (omega (arith, links-from n, places-from n)) (omega (arith, places-from n, branches-from n))),
        lists,
        branches,
        lengths-kept s t 12 (tree_from n 0) before n (omega arith) (omega arith),
        texts-kept s t 12 (tree_from n 0) before n (omega arith) (omega arith) (omega (arith, tree-from n 0, masks-from n, size_is s, f.head.reached)) size (λ l b.
            omega (arith, f.lanes l b, length-is s l b)),
      )

  pub unlisted : Turned s (without_list k (parts_at s)) t
  unlisted = record {
    becomes = record {
      parts = parts;
      opening =
          opening-kept s t front-head (λ i a b. before i (omega arith) (omega (arith, tree-from n 0))) f.head.head-there size bytes (ranges s f.head).most-taxa;
      size = size;
      behind = behind;
    };
    front = λ i b a. early i b (⊎_map (λ l. l) (λ l. omega arith) a);
  }
