-- The lines of the sheet, by their numbers. Assumes nothing.
--
--   map_at                            an element of a mapped list
-- of a whole store that holds n splits and t trees:
--   sheet-length                      there are n + t + 3 lines
--   line-counts, line-split, line_row, line-majority, line-strict     which line has which number
use Rattle.std.specs.Prelude.{ℕ, zero, suc, ◌+◌, ◌-◌, ◌≤◌, ◌<◌, ◌≡◌, refl, true, List, [], ◌∷◌, ◌++◌, map, length, get_or}
use Rattle.std.proofs.Common.{arith, sym, ap, ◌∙◌, length-append, get_or-append-add}
use Rattle.std.proofs.Math.ListN.{get_or-append}
use Rattle.trees.specs.Consensus.{recorded}
use Rattle.trees.specs.Held.{Held}
use Rattle.layout.specs.Store.{trees_held_at, splits_held_at, split_at, tree_at, held_at}
use Rattle.layout.specs.WholeStore.{whole_at}
use Rattle.store.specs.RecordedAtLaws.{trees-length, tree-at, recorded-length, recorded-mask}
use Rattle.sheet.specs.Sheet.{counts_line, split_line, row_line, majority_line, strict_line, sheet_lines}

-- ---- lists

module _ {A B : Type 0} (f : A → B) where
  map-length : (xs : List A) → length (map f xs) ≡ length xs
  map-length [] = refl
  map-length (x ∷ xs) = ap suc (map-length xs)

  pub map_at : (xs : List A) (i : ℕ) (a : A) (b : B) → i < length xs → get_or (map f xs) i b ≡ f (get_or xs i a)
  map_at [] i a b h = absurd (omega arith)
  map_at (x ∷ xs) zero a b h = refl
  map_at (x ∷ xs) (suc i) a b h = map_at xs i a b (omega arith)

module _ {A : Type 0} (c m z d : A) (xs ys : List A) where
  abbrev all : List A
  all = c ∷ (xs ++ (ys ++ m ∷ z ∷ []))

  all-length : length all ≡ length xs + length ys + 3
  all-length = omega (arith, length-append xs (ys ++ m ∷ z ∷ []), length-append ys (m ∷ z ∷ []))

  in-first : (k : ℕ) → k < length xs → get_or all (suc k) d ≡ get_or xs k d
  in-first k h = get_or-append xs (ys ++ m ∷ z ∷ []) d k h

  in-second : (k : ℕ) → k < length ys → get_or all (suc (length xs + k)) d ≡ get_or ys k d
  in-second k h = get_or-append-add xs (ys ++ m ∷ z ∷ []) k d ∙ get_or-append ys (m ∷ z ∷ []) d k h

  behind : (k : ℕ) → get_or all (suc (length xs + (length ys + k))) d ≡ get_or (m ∷ z ∷ []) k d
  behind k = get_or-append-add xs (ys ++ m ∷ z ∷ []) (length ys + k) d ∙ get_or-append-add ys (m ∷ z ∷ []) k d

-- ---- the sheet

sheet-is : (h : Held) (r : ℕ) → sheet_lines h r ≡ all (counts_line h r) (majority_line h) (strict_line h) [] (map (split_line h) (recorded h.trees)) (map (row_line h) h.trees)
unfolding sheet_lines counts_line split_line row_line majority_line strict_line recorded
sheet-is h r = refl

module _ (s : List ℕ) (w : whole_at s ≡ true) (r : ℕ) where
  abbrev h : Held
  h = held_at s

  abbrev split_lines : List (List ℕ)
  split_lines = map (split_line h) (recorded h.trees)

  abbrev rows : List (List ℕ)
  rows = map (row_line h) h.trees

  splits-many : length split_lines ≡ splits_held_at s
  splits-many = map-length (split_line h) (recorded h.trees) ∙ recorded-length s w

  rows-many : length rows ≡ trees_held_at s
  rows-many = map-length (row_line h) h.trees ∙ trees-length s

  pub sheet-length : length (sheet_lines h r) ≡ splits_held_at s + trees_held_at s + 3
  sheet-length = ap length (sheet-is h r) ∙ omega (arith, all-length (counts_line h r) (majority_line h) (strict_line h) [] split_lines rows, splits-many, rows-many)

  pub line-counts : (j : ℕ) → j ≡ 0 → counts_line h r ≡ get_or (sheet_lines h r) j []
  line-counts j e = rw (e, sheet-is h r) refl

  pub line-split : (j : ℕ) → (j ≡ 0 → ⊥) → j ≤ splits_held_at s → split_line h (split_at s (j - 1)) ≡ get_or (sheet_lines h r) j []
  line-split j p q =
      let e : j ≡ suc (j - 1) = omega (arith, p) in
      let n : j - 1 < splits_held_at s = omega (arith, p) in
      let l = recorded-length s w in
      sym (ap (λ (x : List (List ℕ)). get_or x j []) (sheet-is h r)
      ∙ ap (λ (i : ℕ). get_or (all (counts_line h r) (majority_line h) (strict_line h) [] split_lines rows) i []) e
      ∙ in-first (counts_line h r) (majority_line h) (strict_line h) [] split_lines rows (j - 1) (omega (arith, splits-many))
      ∙ map_at (split_line h) (recorded h.trees) (j - 1) 0 [] (omega arith)
      ∙ ap (split_line h) (recorded-mask s w (j - 1) n))

  pub line_row : (j n : ℕ) → n ≡ splits_held_at s → n < j → j ≤ n + trees_held_at s → row_line h (tree_at s (j - 1 - n)) ≡ get_or (sheet_lines h r) j []
  line_row j n f p q =
      let e : j ≡ suc (length split_lines + (j - 1 - n)) = omega (arith, splits-many) in
      let l = trees-length s in
      let i : j - 1 - n < trees_held_at s = omega arith in
      sym (ap (λ (x : List (List ℕ)). get_or x j []) (sheet-is h r)
      ∙ ap (λ (k : ℕ). get_or (all (counts_line h r) (majority_line h) (strict_line h) [] split_lines rows) k []) e
      ∙ in-second (counts_line h r) (majority_line h) (strict_line h) [] split_lines rows (j - 1 - n) (omega (arith, rows-many))
      ∙ map_at (row_line h) h.trees (j - 1 - n) [] [] (omega arith)
      ∙ ap (row_line h) (tree-at s (j - 1 - n) i))

  behind-rows : (j k : ℕ) → j ≡ splits_held_at s + trees_held_at s + suc k → get_or (sheet_lines h r) j [] ≡ get_or (majority_line h ∷ strict_line h ∷ []) k []
  behind-rows j k f =
      let e : j ≡ suc (length split_lines + (length rows + k)) = omega (arith, splits-many, rows-many) in
      ap (λ (x : List (List ℕ)). get_or x j []) (sheet-is h r)
      ∙ ap (λ (i : ℕ). get_or (all (counts_line h r) (majority_line h) (strict_line h) [] split_lines rows) i []) e
      ∙ behind (counts_line h r) (majority_line h) (strict_line h) [] split_lines rows k

  pub line-majority : (j : ℕ) → j ≡ splits_held_at s + trees_held_at s + 1 → majority_line h ≡ get_or (sheet_lines h r) j []
  line-majority j f = sym (behind-rows j 0 f)

  pub line-strict : (j : ℕ) → j ≡ splits_held_at s + trees_held_at s + 2 → strict_line h ≡ get_or (sheet_lines h r) j []
  line-strict j f = sym (behind-rows j 1 f)
