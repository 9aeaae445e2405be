-- The lengths of a tree put where those of the next tree belong. Assumes nothing.
--
--   branches-behind                  the trees' lengths stay where no byte behind the places and no tree's number of splits changes
--   all-lengths                      where lengths are kept, a tree has one for each split
--   lengths_next s                    where the next tree's lengths begin
--   Putting s ws j u                 u is s with the first j of the words ws there
--   putting-none, putting-more       the loop
--   lengths-fit                      they lie inside the lent bytes
--   put-none, put_all                what all steps leave, where lengths are not kept and where they are
use Rattle.std.specs.Prelude.{ℕ, zero, suc, ◌+◌, ◌*◌, ◌^◌, ◌≤◌, ◌<◌, ◌≡◌, refl, ◌⊎◌, List, ◌∷◌, map, get_or, take}
use Rattle.std.proofs.Common.{add-one, one-mul, arith, sym, ap₂, ◌∙◌, inl, inr, take-suc, eq-eqb, ne_eqb}
use Rattle.std.proofs.Math.Path.{ap}
use Rattle.std.proofs.Math.ListN.{length}
use Rattle.trees.specs.Value.{Length}
use Rattle.trees.specs.Opening.{Numbers, head_bytes, branch_bytes}
use Rattle.theorems.specs.ListLaws.{if-true, if-false}
use Rattle.fields.specs.Field.{number, put}
use Rattle.fields.specs.FieldLaws.{put-length, put-outside, number_same}
use Rattle.doubles.specs.Stored.{length_at}
use Rattle.doubles.specs.Double.{double_at}
use Rattle.head.specs.Head.{from_to, up_to, numbers_at, opening_at}
use Rattle.head.specs.HeadLaws.{up_to-same}
use Rattle.layout.specs.Columns.{column_at, column-same, column-more}
use Rattle.layout.specs.Store.{tree_from, masks_from, identifiers_from, counts_from, links_from, order_from, places_from, branches_from, lengths_from, branches_of, lengths_at, size_at, parts_at, trees_held_at, most_splits}
use Rattle.layout.specs.StoreLaws.{tree-from, masks-from, identifiers-from, counts-from, links-from, order_from_lem, places-from, branches-from, lengths-from, lengths-same, size_is, trees-held-is, splits-held-is, list_length, length-is}
use Rattle.layout.specs.WholeFacts.{HeadAt}
use Rattle.layout.specs.Sound.{Sound}
use Rattle.layout.specs.InsideLaws.{ranges, lengths-inside}
use Rattle.layout.specs.KeptLaws.{Kept, number-kept, lists-kept, branches-kept, lengths-kept, texts-kept, numbers-kept, opening-kept}
use Rattle.recording.specs.Recording.{length_of_word}
use Rattle.recording.specs.Added.{LengthsPut}

-- ---- the lengths of the trees that are there

pub branches-behind : (s t : List ℕ) (n : Numbers) (trees : ℕ) → ((i : ℕ) → branches_from n ≤ i → get_or t i 0 ≡ get_or s i 0)
    → ((i : ℕ) → i < trees → number 2 t (tree_from n i) ≡ number 2 s (tree_from n i))
    → up_to (λ i. lengths_at t (lengths_from n i) (branches_of n (number 2 t (tree_from n i)))) trees
    ≡ up_to (λ i. lengths_at s (lengths_from n i) (branches_of n (number 2 s (tree_from n i)))) trees
branches-behind s t n trees same entries =
    up_to-same _ _ trees (λ i h.
    rw (entries i h)
    (lengths-same t s (lengths_from n i) (lengths_from n i) _ (λ j l.
    number_same 8 t s _ _ (λ b m. same (lengths_from n i + 8 * j + b) (omega (arith, lengths-from n i))))))

-- ---- lengths as words

length-word : (s : List ℕ) (at : ℕ) → length_at s at ≡ length_of_word (number 8 s at)
unfolding length_at double_at length_of_word
length-word s at = refl

words-from : (s : List ℕ) (at i k : ℕ) → from_to (λ j. length_at s (at + 8 * j)) i k ≡ map length_of_word (from_to (λ j. number 8 s (at + 8 * j)) i k)
unfolding from_to
words-from s at i zero = refl
words-from s at i (suc k) = ap₂ (λ (x : Length) (l : List Length). x ∷ l) (length-word s (at + 8 * i)) (words-from s at (suc i) k)

lengths-words : (s : List ℕ) (at k : ℕ) → lengths_at s at k ≡ map length_of_word (column_at 8 at k s)
unfolding lengths_at column_at up_to
lengths-words s at k = words-from s at 0 k

module _ (n : Numbers) (k : ℕ) where
  no_lengths : n.kept ≡ 0 → branches_of n k ≡ 0
  unfolding branches_of
  no_lengths e = if-true 0 k (eq-eqb n.kept 0 e)

  pub all-lengths : (n.kept ≡ 0 → ⊥) → branches_of n k ≡ k
  unfolding branches_of
  all-lengths f = if-false 0 k (ne_eqb n.kept 0 f)

-- ---- none are kept

pub put-none : (s : List ℕ) (k : ℕ) (ws : List ℕ) → (numbers_at s).kept ≡ 0 → LengthsPut s k ws s
unfolding lengths_at up_to from_to
put-none s k ws e = record {
  becomes = record { parts = refl; opening = refl; size = refl; behind = λ i h. refl };
  lengths = rw (no_lengths (numbers_at s) k e);
}

-- ---- where they are kept

abbrev pub lengths_next : List ℕ → ℕ
lengths_next s = lengths_from (numbers_at s) (trees_held_at s)

pub record Putting (s ws : List ℕ) (j : ℕ) (u : List ℕ) : Type 0 where
  pub size : length u ≡ length s
  pub words : column_at 8 (lengths_next s) j u ≡ take j ws
  pub outside : (i : ℕ) → (i < lengths_next s) ⊎ (lengths_next s + branch_bytes ≤ i) → get_or u i 0 ≡ get_or s i 0

pub putting-none : (s ws : List ℕ) → Putting s ws 0 s
unfolding column_at up_to from_to
putting-none s ws = record { size = refl; words = refl; outside = λ i h. refl }

module _ (s ws : List ℕ) (inside : lengths_next s + branch_bytes ≤ length s) where
  pub putting-more : (j : ℕ) (u : List ℕ) → Putting s ws j u → j < length ws → j < most_splits → (x to : ℕ) → x ≡ get_or ws j 0 → x < 2 ^ 64 → to ≡ lengths_next s + 8 * j
      → Putting s ws (j + 1) (put 8 u to x)
  putting-more j u e h few x to d fits o = record {
    size = put-length 8 u to x ∙ e.size;
    words = rw (add-one j, take-suc ws j 0 h, ← d, ← e.words, o) (column-more 8 (lengths_next s) j x u fits (omega (arith, e.size)));
    outside = λ i a. put-outside 8 u to x i (side i a) ∙ e.outside i a;
  }
    where
      side : (i : ℕ) → (i < lengths_next s) ⊎ (lengths_next s + branch_bytes ≤ i) → (i < to) ⊎ (to + 8 ≤ i)
      side i (inl a) = inl (omega arith)
      side i (inr a) = inr (omega arith)

-- what all words leave
module _ (s : List ℕ) (g : HeadAt s) (room : trees_held_at s < (numbers_at s).tree_room) (kept : 1 ≤ (numbers_at s).kept) where
  abbrev n : Numbers
  n = numbers_at s

  pub lengths-fit : lengths_next s + branch_bytes ≤ length s
  lengths-fit = lengths-inside s g (trees_held_at s) room kept

  module _ (f : Sound (opening_at s) (parts_at s)) (ws : List ℕ) (k : ℕ) (u : List ℕ) (e : Putting s ws k u) where
    before : Kept s u 0 (lengths_next s)
    before i a b = e.outside i (inl b)

    -- everything lies before them
    last : branches_from n ≤ lengths_next s
    last = omega (arith, lengths-from n (trees_held_at s))

    tree-last : (i : ℕ) → i ≤ trees_held_at s → tree_from n i ≤ masks_from n
    tree-last i h = omega (arith, tree-from n i, masks-from n, g.trees-fit)

    all-kept : n.kept * number 2 s 10 ≡ trees_held_at s
    all-kept =
        let one : n.kept ≡ 1 = omega (arith, (ranges s g).most-kept) in
        rw (one, one-mul (number 2 s 10)) (sym (trees-held-is s))

    front : (hi : ℕ) → hi ≤ head_bytes → Kept s u 0 hi
    front hi h i a b = before i a (omega (arith, last, branches-from n, masks-from n))

    numbers : numbers_at u ≡ numbers_at s
    numbers = numbers-kept s u (front 10 (omega arith)) (λ i a b. front 16 (omega arith) i (omega arith) b)

    column : (w a k : ℕ) → a + w * k ≤ branches_from n → column_at w a k u ≡ column_at w a k s
    column w a k h = column-same w a k u s (λ i p q. before i (omega arith) (omega (arith, last)))

    number-before : (a : ℕ) → a + 2 ≤ branches_from n → number 2 u a ≡ number 2 s a
    number-before a h = number-kept s u 0 (lengths_next s) before 2 a (omega arith) (omega (arith, last))

    few : (i : ℕ) → i < number 2 s 10 → number 2 s (tree_from n i) ≤ most_splits
    few i h = let d : i < trees_held_at s = omega (arith, trees-held-is s) in omega (arith, list_length s i d, (f.lists i d).few)

    branches : up_to (λ i. lengths_at u (lengths_from n i) (branches_of n (number 2 u (tree_from n i)))) (number 2 s 10)
        ≡ up_to (λ i. lengths_at s (lengths_from n i) (branches_of n (number 2 s (tree_from n i)))) (number 2 s 10)
    branches =
        up_to-same _ _ (number 2 s 10) (λ i h. rw (number-before (tree_from n i) (omega (arith, tree-from n i, masks-from n, branches-from n, trees-held-is s, g.trees-fit))))
        ∙ branches-kept s u 0 (lengths_next s) before n (number 2 s 10) (λ i. number 2 s (tree_from n i)) (omega arith) (omega (arith, all-kept, lengths-from n (trees_held_at s))) few

    -- the room for them lies inside the store
    beyond : lengths_next s + branch_bytes ≤ size_at s
    beyond =
        let one : n.kept ≡ 1 = omega (arith, (ranges s g).most-kept) in
        let all : n.kept * n.tree_room ≡ n.tree_room = rw (one, one-mul n.tree_room) in
        omega (arith, all, size_is s, lengths-from n (trees_held_at s), branches-from n)

    parts : parts_at u ≡ parts_at s
    unfolding parts_at opening_at
    parts =
        let d = splits-held-is s in
        let z = branches-from n in
        let first = tree-from n 0 in
        let b = g.splits-fit in
        let trees : tree_from n (number 2 s 10) ≤ masks_from n = tree-last (number 2 s 10) (omega (arith, trees-held-is s)) in
        let long : lengths_next s ≤ length s = omega (arith, lengths-fit) in
        rw (
          numbers,
          ap (λ (x : Numbers). x.places) numbers,
          ap (λ (x : Numbers). x.lanes) numbers,
          number-before 10 (omega (arith, masks-from n)),
          number-before 12 (omega (arith, masks-from n)),
          column 8 (masks_from n) (number 2 s 12) (omega arith),
          column 8 (identifiers_from n) (number 2 s 12) (omega (arith, identifiers-from n)),
          column 4 (counts_from n) (number 2 s 12) (omega (arith, counts-from n)),
          column 2 (links_from n) (number 2 s 12) (omega (arith, links-from n)),
          column 2 (order_from n) (number 2 s 12) (omega (arith, order_from_lem n)),
          column 2 (places_from n) n.places (omega (arith, places-from n)),
          lists-kept s u 0 (lengths_next s) before n (number 2 s 10) (omega arith) (omega (arith, last)) few,
          branches,
          lengths-kept s u 0 (lengths_next s) before n (omega arith) (omega (arith, last, tree-last 0 (omega arith))),
          texts-kept s u 0 (lengths_next s) before n (omega arith) (omega (arith, last, tree-last 0 (omega arith))) long e.size (λ l h. omega (arith, f.lanes l h, length-is s l h)),
        )

    pub put_all : ((i : ℕ) → get_or s i 0 < 256) → k ≤ length ws → LengthsPut s k ws u
    put_all bytes h = record {
      becomes = record {
        parts = parts;
        opening = opening-kept s u (front 10 (omega arith)) (λ i a b. front head_bytes (omega arith) i (omega arith) b) g.head-there e.size bytes (ranges s g).most-taxa;
        size = e.size;
        behind = λ i a. e.outside i (inr (omega (arith, beyond)));
      };
      lengths =
          rw (numbers, parts, all-lengths n k (λ z. omega arith)) (lengths-words u (lengths_next s) k ∙ ap (map length_of_word) e.words);
    }
