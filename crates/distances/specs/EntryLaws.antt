-- Laws of the entries of a matrix of distances that is being written. Assumes nothing.
--
--   entry-below      entry b of row a is one of n * n
--   square-few       rows of up to 1,024 make no long matrix
--   entry-same       it is no other row's and no other column's
--   filled_none      no entry is written yet
--   filled_row       a row that is written to its end
--   pair-more        one turn of the loop that writes a row: one pair more is written, and the length and what lies behind the matrix stay
--   filled-all       with every row written, the matrix is there
use Rattle.std.specs.Prelude.{◌≡◌, ℕ, suc, ◌+◌, ◌*◌, ◌/◌, ◌%◌, ◌<◌, ◌≤◌, ◌⊎◌, List, ◌++◌, length, take, drop, set, ◌≢◌, slice_index, slice_index_or, slice_set}
use Rattle.std.proofs.Common.{mul-le-mul, mul-le-mul_right, suc-mul, mod-lt, div-lt_iff_lt-mul, div-add-mod', arith, ap, ap₂, sym, ◌∙◌, inl, inr, length-set, take-append-drop, length-take-le, get_or-set_same, get_or-set_other, get_or-take, drop-set-lt, ext_get_or}
use Rattle.theorems.specs.ListLaws.{less-or-not, equal_or_not}
use Rattle.trees.specs.Distance.{doubled, matrix}
use Rattle.theorems.specs.DistanceLaws.{doubled-sym}
use Rattle.layout.specs.Store.{trees_held_at, tree_at, held_at}
use Rattle.store.specs.RecordedAtLaws.{trees-length, tree-at}
use Rattle.distances.specs.Entries.{Written, Filled}
use Rattle.theorems.specs.MatrixLaws.{matrix-length, matrix-at}

-- ---- where an entry is

pub entry-below : (n a b : ℕ) → a < n → b < n → a * n + b < n * n
entry-below n a b h f =
    let m : suc a * n ≤ n * n = mul-le-mul_right n h in
    omega (arith, m, suc-mul a n)

pub square-few : (n : ℕ) → n ≤ 1024 → n * n ≤ 1048576
square-few n h =
    let m : n * n ≤ 1024 * 1024 = mul-le-mul h h in
    omega (arith, m)

row_same : (n a b c d : ℕ) → b < n → d < n → a * n + b ≡ c * n + d → a ≡ c
row_same n a b c d h f e = go (less-or-not a c) (less-or-not c a)
  where
    go : (a < c) ⊎ (c ≤ a) → (c < a) ⊎ (a ≤ c) → a ≡ c
    go (inl l) r =
        let m : suc a * n ≤ c * n = mul-le-mul_right n l in
        absurd (omega (arith, m, suc-mul a n))
    go (inr l) (inl r) =
        let m : suc c * n ≤ a * n = mul-le-mul_right n r in
        absurd (omega (arith, m, suc-mul c n))
    go (inr l) (inr r) = omega arith

entry-same : (n a b c d : ℕ) → b < n → d < n → a * n + b ≡ c * n + d → (a ≡ c) × (b ≡ d)
entry-same n a b c d h f e =
    let r = row_same n a b c d h f e in
    let q : a * n ≡ c * n = ap (λ (x : ℕ). x * n) r in
    (r, omega (arith, q))

-- ---- one pair more

module _ (s : List ℕ) where
  pub filled_none : (out : List ℕ) → Filled s 0 0 out
  filled_none out = record { entries = λ a b l h d. absurd (none a b d) }
    where
      none : (a b : ℕ) → (a < 0) ⊎ ((a ≡ 0) × (b < 0)) → ⊥
      none a b (inl h) = omega arith
      none a b (inr h) = omega (arith, h.1)

  pub filled_row : (i : ℕ) (j : ℕ) (out : List ℕ) → trees_held_at s ≤ j → Filled s i j out → Filled s (i + 1) (i + 1) out
  filled_row i j out h f = record { entries = λ a b l k d. f.entries a b l k (go a b l k d) }
    where
      go : (a b : ℕ) → a ≤ b → b < trees_held_at s → (a < i + 1) ⊎ ((a ≡ i + 1) × (b < i + 1)) → (a < i) ⊎ ((a ≡ i) × (b < j))
      go a b l k (inl q) = either (less-or-not a i)
        where
          either : (a < i) ⊎ (i ≤ a) → (a < i) ⊎ ((a ≡ i) × (b < j))
          either (inl x) = inl x
          either (inr x) = inr (omega arith, omega arith)
      go a b l k (inr q) = absurd (omega (arith, q.0, q.1))

  module _ (i j : ℕ) (out : List ℕ) (f : Filled s i j out) (h : i ≤ j) (k : j < trees_held_at s)
      (e : trees_held_at s * trees_held_at s ≤ length out) (d : ℕ) (q : d ≡ doubled (tree_at s i) (tree_at s j)) where
    abbrev n : ℕ
    n = trees_held_at s

    abbrev one : List ℕ
    one = slice_set out (i * n + j) d

    abbrev two : List ℕ
    two = slice_set one (j * n + i) d

    one-length : length one ≡ length out
    one-length = length-set out (i * n + j) d

    -- the entries of the pair itself
    here-column : slice_index_or two (j * n + i) 0 ≡ d
    here-column = get_or-set_same one (j * n + i) d 0 (omega (arith, one-length, entry-below n j i k (omega arith)))

    here-row : slice_index_or two (i * n + j) 0 ≡ d
    here-row = go (equal_or_not (i * n + j) (j * n + i))
      where
        go : (i * n + j ≡ j * n + i) ⊎ (i * n + j ≢ j * n + i) → slice_index two (i * n + j) ≡ d
        go (inl x) = ap (λ (p : ℕ). slice_index two p) x ∙ here-column
        go (inr x) =
            get_or-set_other one (j * n + i) (i * n + j) d 0 x
            ∙ get_or-set_same out (i * n + j) d 0 (omega (arith, entry-below n i j (omega arith) k))

    -- an entry that is neither
    there : (a b : ℕ) → b < n → (a ≡ i → b ≢ j) → (a ≡ j → b ≢ i) → slice_index two (a * n + b) ≡ slice_index out (a * n + b)
    there a b l u v =
        get_or-set_other one (j * n + i) (a * n + b) d 0 (λ x. let r = entry-same n a b j i l (omega arith) x in v r.0 r.1)
        ∙ get_or-set_other out (i * n + j) (a * n + b) d 0 (λ x. let r = entry-same n a b i j l k x in u r.0 r.1)

    filled_more : Filled s i (j + 1) two
    filled_more = record { entries = λ a b l m x. go a b l m x (equal_or_not a i) (equal_or_not b j) }
      where
        old : (a b : ℕ) → a ≤ b → b < n → (a < i) ⊎ ((a ≡ i) × (b < j)) → (a ≡ i → b ≢ j) → Written s two a b
        old a b l m x u =
            let w = f.entries a b l m x in
            record {
              in_row = there a b m u (λ y z. u (omega arith) (omega arith)) ∙ w.in_row;
              in-column = there b a (omega arith) (λ y z. u (omega arith) (omega arith)) (λ y z. u z y) ∙ w.in-column;
            }

        before : (a b : ℕ) → (a < i) ⊎ ((a ≡ i) × (b < j + 1)) → (b ≢ j) → (a < i) ⊎ ((a ≡ i) × (b < j))
        before a b (inl x) v = inl x
        before a b (inr x) v = inr (x.0, omega (arith, x.1, v))

        above : (a b : ℕ) → (a < i) ⊎ ((a ≡ i) × (b < j + 1)) → (a ≢ i) → (a < i) ⊎ ((a ≡ i) × (b < j))
        above a b (inl x) v = inl x
        above a b (inr x) v = absurd (v x.0)

        go : (a b : ℕ) → a ≤ b → b < n → (a < i) ⊎ ((a ≡ i) × (b < j + 1)) → (a ≡ i) ⊎ (a ≢ i) → (b ≡ j) ⊎ (b ≢ j) → Written s two a b
        go a b l m x (inl u) (inl v) = rw (u, v) record { in_row = here-row ∙ q; in-column = here-column ∙ q }
        go a b l m x (inl u) (inr v) = old a b l m (before a b x v) (λ y z. v z)
        go a b l m x (inr u) v = old a b l m (above a b x u) (λ y z. u y)

    pair-length : length two ≡ length out
    pair-length = length-set one (j * n + i) d ∙ one-length

    rest-same : drop (n * n) two ≡ drop (n * n) out
    rest-same =
        drop-set-lt (n * n) one (j * n + i) d (entry-below n j i k (omega arith))
        ∙ drop-set-lt (n * n) out (i * n + j) d (entry-below n i j (omega arith) k)

  pub pair-more : (i j trees d : ℕ) (out next : List ℕ) → trees ≡ trees_held_at s → Filled s i j out → i ≤ j → j < trees_held_at s
      → trees_held_at s * trees_held_at s ≤ length out → d ≡ doubled (tree_at s i) (tree_at s j)
      → next ≡ slice_set (slice_set out (i * trees + j) d) (j * trees + i) d
      → Filled s i (j + 1) next × (length next ≡ length out)
      × (drop (trees_held_at s * trees_held_at s) next ≡ drop (trees_held_at s * trees_held_at s) out)
  pair-more i j trees d out next z f h k e q w =
      let x : next ≡ set (slice_set out (i * trees_held_at s + j) d) (j * trees_held_at s + i) d =
      w ∙ ap (λ (n : ℕ). set (slice_set out (i * n + j) d) (j * n + i) d) z in
      rw x (filled_more i j out f h k e d q, pair-length i j out f h k e d q, rest-same i j out f h k e d q)

  -- ---- all of them

  filled_at : (i : ℕ) (out : List ℕ) → trees_held_at s ≤ i → Filled s i i out → (a b : ℕ) → a < trees_held_at s → b < trees_held_at s
      → slice_index out (a * trees_held_at s + b) ≡ doubled (tree_at s a) (tree_at s b)
  filled_at i out h f a b k l = go (less-or-not b a)
    where
      go : (b < a) ⊎ (a ≤ b) → slice_index out (a * trees_held_at s + b) ≡ doubled (tree_at s a) (tree_at s b)
      go (inl x) = (f.entries b a (omega arith) k (inl (omega arith))).in-column ∙ doubled-sym (tree_at s b) (tree_at s a)
      go (inr x) = (f.entries a b x l (inl (omega arith))).in_row

  -- the entries of a written matrix are those of the definition
  matrix-entry : (out : List ℕ) → ((a b : ℕ) → a < trees_held_at s → b < trees_held_at s → slice_index out (a * trees_held_at s + b) ≡ doubled (tree_at s a) (tree_at s b))
      → (p : ℕ) → p < trees_held_at s * trees_held_at s → slice_index out p ≡ slice_index (matrix (held_at s).trees) p
  matrix-entry out f p h = go (less-or-not 0 (trees_held_at s))
    where
      go : (0 < trees_held_at s) ⊎ (trees_held_at s ≤ 0) → slice_index out p ≡ slice_index (matrix (held_at s).trees) p
      go (inl z) =
          let a = p / trees_held_at s in
          let b = p % trees_held_at s in
          let k : a < trees_held_at s = (div-lt_iff_lt-mul z).1 h in
          let l : b < trees_held_at s = mod-lt p z in
          let e : a * trees_held_at s + b ≡ p = div-add-mod' p (trees_held_at s) in
          let n = trees-length s in
          let q : a * length (held_at s).trees + b ≡ p = ap (λ (x : ℕ). a * x + b) n ∙ e in
          let m = matrix-at (held_at s).trees a b (omega arith) (omega arith) ∙ ap₂ doubled (tree-at s a k) (tree-at s b l) in
          ap (λ (x : ℕ). slice_index out x) (sym e) ∙ f a b k l ∙ sym m ∙ ap (λ (x : ℕ). slice_index (matrix (held_at s).trees) x) q
      go (inr z) = let e : trees_held_at s ≡ 0 = omega arith in absurd (omega (arith, rw e at h))

  pub filled-all : (i : ℕ) (from out : List ℕ) → trees_held_at s ≤ i → Filled s i i out → trees_held_at s * trees_held_at s ≤ length out
      → drop (trees_held_at s * trees_held_at s) out ≡ drop (trees_held_at s * trees_held_at s) from
      → out ≡ matrix (held_at s).trees ++ drop (trees_held_at s * trees_held_at s) from
  filled-all i from out h f l e =
      let n = trees_held_at s * trees_held_at s in
      let u : length (take n out) ≡ n = length-take-le n out l in
      let v : length (matrix (held_at s).trees) ≡ n = matrix-length (held_at s).trees ∙ ap (λ (x : ℕ). x * x) (trees-length s) in
      let q : take n out ≡ matrix (held_at s).trees =
      ext_get_or 0 (take n out) (matrix (held_at s).trees) (u ∙ sym v)
      (λ p k.
      let m : p < n = omega arith in
      get_or-take n out p 0 m ∙ matrix-entry out (filled_at i out h f) p m) in
      sym (take-append-drop n out) ∙ ap₂ (λ (x y : List ℕ). x ++ y) q e
