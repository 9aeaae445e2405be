-- Every line of the sheet of a whole store fits into 8,192 bytes. Assumes nothing.
--
--   Short m ws       the words or lines ws have at most m bytes each
--   lines_fit        so have the lines of the sheet, with m = 8,192
use Prim.Native.Nat.{ℕ, zero, suc, ◌+◌, ◌*◌, ◌/◌, ◌%◌, ◌^◌, ◌≤◌, ◌<◌}
use Prim.Native.String.{String}
use Rattle.std.proofs.Common.{pow-suc, inl, inr, ltb-false}
use Rattle.std.proofs.Math.Nat.{pow-le-pow_right, suc-mul}
use native.Mathlib.Omega.{arith}
use Rattle.std.specs.Prelude.{◌≡◌, refl, Bool, ltb, eqb, get_or, if◌then◌else◌}
use Rattle.std.proofs.Math.Bool.{true, false}
use mathlib.Core.List.{List, [], ◌∷◌, ◌++◌, map}
use Rattle.std.proofs.Math.ListN.{length, length-append, length-map}
use Rattle.trees.specs.Plain.{bytes}
use Rattle.trees.specs.Mask.{every_taxon, proper}
use Rattle.trees.specs.Distance.{doubled}
use Rattle.trees.specs.Consensus.{recorded, count, strict, majority}
use Rattle.trees.specs.Written.{written}
use Rattle.trees.specs.Opening.{most_room}
use Rattle.trees.specs.Held.{Held}
use Rattle.trees.specs.Whole.{good_tree}
use Rattle.theorems.specs.ListLaws.{Mem, every-at}
use Rattle.theorems.specs.BitLaws.{sub-le}
use Rattle.theorems.specs.ProperLaws.{proper-sub}
use Rattle.theorems.specs.RisingLaws.{recorded-mem}
use Rattle.theorems.specs.ConsensusLaws.{count_most, good-proper, strict-good, majority-good}
use Rattle.head.specs.Head.{numbers_at, opening_at}
use Rattle.layout.specs.Store.{held_at}
use Rattle.layout.specs.WholeStore.{whole_at}
use Rattle.layout.specs.WholeFacts.{whole-at-facts}
use Rattle.layout.specs.InsideLaws.{trees-few}
use Rattle.store.specs.RecordedAtLaws.{trees-length, recorded-length}
use Rattle.store.specs.HeldWholeLaws.{held-numbers, opening-facts}
use Rattle.distances.specs.LackLaws.{one_sided-most}
use Rattle.consensus.specs.FewLaws.{tree-few, tree-short, trees-good}
use Rattle.trees.specs.Decimal.{digits_from, digits_of}
use Rattle.putting.specs.Lines.{spaced, fields, line_of}
use Rattle.sheet.specs.Sheet.{counts_line, split_line, row_line, tree_text, tree_line, majority_line, strict_line, sheet_lines}

-- ---- words and lines

Short : ℕ → List (List ℕ) → Type 0
Short m [] = Unit {0}
Short m (w ∷ ws) = (length w ≤ m) × Short m ws

module _ (m : ℕ) where
  short-append : (xs ys : List (List ℕ)) → Short m xs → Short m ys → Short m (xs ++ ys)
  unfolding Short
  short-append [] ys a b = b
  short-append (x ∷ xs) ys a b = (a.0, short-append xs ys a.1 b)

  short-map : {A : Type 0} (f : A → List ℕ) (xs : List A) → ((x : A) → Mem x xs → length (f x) ≤ m) → Short m (map f xs)
  unfolding Short
  short-map f [] h = tt
  short-map f (x ∷ xs) h = (h x (inl refl), short-map f xs (λ y k. h y (inr k)))

  short-at : (xs : List (List ℕ)) → Short m xs → (i : ℕ) → length (get_or xs i []) ≤ m
  unfolding Short
  short-at [] a i = omega arith
  short-at (x ∷ xs) a zero = a.0
  short-at (x ∷ xs) a (suc i) = short-at xs a.1 i

  spaced-short : (ws : List (List ℕ)) → Short m ws → length (spaced ws) ≤ length ws * suc m
  unfolding Short spaced
  spaced-short [] a = omega arith
  spaced-short (w ∷ ws) a = omega (arith, a.0, spaced-short ws a.1, length-append w (spaced ws), suc-mul (length ws) (suc m))

  line-short : (ws : List (List ℕ)) → Short m ws → length (line_of ws) ≤ length ws * suc m + 1
  unfolding Short line_of fields
  line-short [] a = omega arith
  line-short (w ∷ ws) a =
      omega (arith, a.0, spaced-short ws a.1, length-append w (spaced ws), length-append (w ++ spaced ws) (10 ∷ []), suc-mul (length ws) (suc m))

two-length : (v w : List ℕ) → length (line_of (v ∷ w ∷ [])) ≡ length v + length w + 2
unfolding line_of fields spaced
two-length v w =
    omega (arith, length-append (v ++ 32 ∷ (w ++ [])) (10 ∷ []), length-append v (32 ∷ (w ++ [])), length-append w [])

-- ---- numbers

digits_step : (f n m : ℕ) → n < 10 ^ suc m → ((k : ℕ) → n / 10 < 10 ^ suc k → length (digits_from f (n / 10)) ≤ suc k) → length (digits_from (suc f) n) ≤ suc m
unfolding digits_from
digits_step f n m h g = go (ltb n 10) refl m h
  where
    go : (b : Bool) → ltb n 10 ≡ b → (m : ℕ) → n < 10 ^ suc m
        → length {A = ℕ} (elim b as (λ _. List ℕ) [ true ↦ (48 + n) ∷ [] | false ↦ digits_from f (n / 10) ++ (48 + n % 10) ∷ [] ]) ≤ suc m
    go true e m l = omega arith
    go false e zero l = absurd (omega (arith, ltb-false n 10 e))
    go false e (suc m) l =
        omega (arith, length-append (digits_from f (n / 10)) ((48 + n % 10) ∷ []), g m (omega (arith, pow-suc 10 (suc m))))

digits-short : (f n m : ℕ) → n < 10 ^ suc m → length (digits_from f n) ≤ suc m
digits-short zero n m h = unfold digits_from in omega arith
digits-short (suc f) n m h = digits_step f n m h (λ k l. digits-short f (n / 10) k l)

number_short : (n m : ℕ) → n < 10 ^ suc m → length (digits_of n) ≤ suc m
unfolding digits_of
number_short n m h = digits-short (suc n) n m h

-- ---- the lines of a whole store

module _ (s : List ℕ) (w : whole_at s ≡ true) where
  abbrev h : Held
  h = held_at s

  taxa-few : (numbers_at s).taxa ≤ 64
  unfolding opening_at
  taxa-few = (opening-facts s w).ranges.most-taxa

  taxa-most : h.opening.numbers.taxa ≤ 64
  taxa-most = rw (held-numbers s) taxa-few

  trees-most : length h.trees ≤ 1024
  trees-most = omega (arith, trees-length s, trees-few s (whole-at-facts s w).head)

  splits-most : length (recorded h.trees) ≤ most_room
  unfolding opening_at
  splits-most = omega (arith, recorded-length s w, (whole-at-facts s w).head.splits-fit, (opening-facts s w).ranges.most-splits)

  counts-short : (n : ℕ) → n < 2 ^ 64 → length (counts_line h n) ≤ 8192
  unfolding counts_line Short bytes
  counts-short n b =
      let taxa = number_short h.opening.numbers.taxa 19 (omega (arith, taxa-most)) in
      let trees = number_short (length h.trees) 19 (omega (arith, trees-most)) in
      let refused = number_short n 19 (omega arith) in
      let splits = number_short (length (recorded h.trees)) 19 (omega (arith, splits-most)) in
      omega (arith, line-short 20 words (omega arith, (taxa, (omega arith, (trees, (omega arith, (refused, (omega arith, (splits, tt)))))))))
    where
      words : List (List ℕ)
      words =
          bytes "taxa"
          ∷ digits_of h.opening.numbers.taxa
          ∷ bytes "trees"
          ∷ digits_of (length h.trees)
          ∷ bytes "refused"
          ∷ digits_of n
          ∷ bytes "splits"
          ∷ digits_of (length (recorded h.trees))
          ∷ []

  mask_below : (m : ℕ) → Mem m (recorded h.trees) → m < 2 ^ 64
  unfolding every_taxon
  mask_below m k =
      let n = (numbers_at s).taxa in
      let r = recorded-mem h.trees m k in
      let p = every-at (proper n) r.0 (good-proper n r.0 (trees-good s w r.0 r.1)) m r.2 in
      omega (arith, sub-le m (every_taxon n) (proper-sub n m p), pow-le-pow_right {n = 2} (omega arith) {i = n} {j = 64} taxa-few)

  split-short : (m : ℕ) → Mem m (recorded h.trees) → length (split_line h m) ≤ 8192
  unfolding split_line Short
  split-short m k =
      let mask = number_short m 19 (omega (arith, mask_below m k)) in
      let trees = number_short (count h.trees m) 19 (omega (arith, count_most h.trees m, trees-most)) in
      omega (arith, line-short 20 (digits_of m ∷ digits_of (count h.trees m) ∷ []) (mask, (trees, tt)))

  distance-small : (t u : List ℕ) → Mem t h.trees → Mem u h.trees → doubled t u ≤ 124
  unfolding doubled
  distance-small t u a b =
      omega (arith, one_sided-most t u, one_sided-most u t, tree-few s w t (trees-good s w t a), tree-few s w u (trees-good s w u b))

  row-short : (t : List ℕ) → Mem t h.trees → length (row_line h t) ≤ 8192
  unfolding row_line
  row-short t k =
      let f : List ℕ → List ℕ = λ u. digits_of (doubled t u) in
      let words = short-map 5 f h.trees (λ u j. number_short (doubled t u) 4 (omega (arith, distance-small t u k j))) in
      omega (arith, line-short 5 (map f h.trees) words, length-map h.trees f, trees-most)

  -- ---- the two trees

  tree-line-short : (word : String) → length (bytes word) ≤ 2000 → (l : List ℕ) → good_tree (numbers_at s).taxa l ≡ true → length (tree_line h word l) ≤ 8192
  unfolding tree_line tree_text
  tree-line-short word a l g = omega (arith, two-length (bytes word) (tree_text h l), go (eqb (length h.trees) 0))
    where
      go : (b : Bool) → length (if b then bytes "none" else written h.opening.names l) ≤ 4352
      go true = unfold bytes in omega arith
      go false = omega (arith, tree-short s w l g)

  majority-short : length (majority_line h) ≤ 8192
  unfolding majority_line
  majority-short = tree-line-short "majority" (unfold bytes in omega arith) (majority h.trees) (majority-good (numbers_at s).taxa h.trees (trees-good s w))

  strict-short : length (strict_line h) ≤ 8192
  unfolding strict_line
  strict-short = tree-line-short "strict" (unfold bytes in omega arith) (strict h.trees) (strict-good (numbers_at s).taxa h.trees (trees-good s w))

  -- ---- all lines

  lines-short : (n : ℕ) → n < 2 ^ 64 → Short 8192 (sheet_lines h n)
  unfolding sheet_lines Short
  lines-short n b = (
    counts-short n b,
    short-append 8192 (map (split_line h) (recorded h.trees)) (map (row_line h) h.trees ++ majority_line h ∷ strict_line h ∷ [])
        (short-map 8192 (split_line h) (recorded h.trees) split-short)
        (short-append 8192 (map (row_line h) h.trees) (majority_line h ∷ strict_line h ∷ []) (short-map 8192 (row_line h) h.trees row-short)
        (majority-short, (strict-short, tt))),
  )

  pub lines_fit : (n : ℕ) → n < 2 ^ 64 → (i : ℕ) → length (get_or (sheet_lines h n) i []) ≤ 8192
  lines_fit n b i = short-at 8192 (sheet_lines h n) (lines-short n b) i
