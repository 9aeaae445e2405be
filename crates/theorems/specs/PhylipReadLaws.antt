-- A matrix in PHYLIP's layout is read whatever its names, its spaces and its leading zeros are.
--
--   words ws           the parts of a line between its spaces that are not empty
--   lines-flat         the rows of a layout, one behind another, are its lines, each ended by LF
--   square-lines       a text is read by its first line and the lines behind it
--   layout-reads       what is laid out as request 2026-07 says is read as the matrix that it says
use Rattle.std.specs.Prelude.{ℕ, zero, suc, ◌≤◌, ◌<◌, ◌≡◌, refl, true, false, ◌&&◌, not, leb, replicate}
use Rattle.std.proofs.Common.{arith, ap₂, sym, ◌∙◌, subst, inl, inr, ⊎_elim, true≢false, take_at, drop_at, le-leb, eq-eqb}
use Rattle.std.proofs.Math.Path.{ap}
use mathlib.Core.List.{List, [], ◌∷◌, ◌++◌, map, flat_map, append_assoc, append-nil}
use Rattle.std.proofs.Math.Option.{Option, some}
use Rattle.std.proofs.Math.ListN.{length}
use Rattle.std.proofs.lemmas.List.{length-map}
use Rattle.trees.specs.Plain.{keep}
use Rattle.trees.specs.Length.{is_digit, is_digits}
use Rattle.trees.specs.Decimal.{number_in}
use Rattle.trees.specs.Phylip.{between, is_empty, ends_empty, with_value, numbers_in, values_in, is_name, exactly, row_in, with_row, rows_in, square_of, square_lines, square_in}
use Rattle.theorems.specs.ListLaws.{mem-flat, mem-copies, map-mem, if-true, and-true, Mem, mem-cases, every-at, every-intro}
use Rattle.theorems.specs.SplitFileLaws.{mem-some}
use Rattle.theorems.specs.DecimalLaws.{digit-above, worth-read}
use Rattle.theorems.specs.BetweenLaws.{between-some, between_first, between-without, between-ended}
use Rattle.theorems.specs.PhylipLayout.{Number, Row, Layout, number_text, line_of, text_of, worth, row_of, matrix_in, SoundNumber, SoundRow, Sound}

-- ---- bytes of digits

digits_above : (w : List ℕ) → is_digits w ≡ true → (b : ℕ) → Mem b w → 48 ≤ b
unfolding is_digits
digits_above [] e b h = elim h [ ]
digits_above (c ∷ w) e b h = digit-above b (every-at is_digit (c ∷ w) e b h)

digits-some : (w : List ℕ) → is_digits w ≡ true → is_empty w ≡ false
unfolding is_digits is_empty
digits-some [] e = absurd (true≢false (sym e))
digits-some (b ∷ w) e = refl

-- ---- the parts between spaces

-- those that are not empty
abbrev pub words : List (List ℕ) → List (List ℕ)
words ws = keep (λ w. not (is_empty w)) ws

ends-behind : (w s : List ℕ) → ends_empty (w ∷ between 32 s) ≡ ends_empty (between 32 s)
unfolding ends_empty
ends-behind w s = let r = between-some 32 s in rw r.2 refl

words-behind : (w : List ℕ) (ws : List (List ℕ)) → is_empty w ≡ false → words (w ∷ ws) ≡ w ∷ words ws
unfolding keep
words-behind w ws e = if-true _ _ (ap not e)

spaces-end : (k : ℕ) (s : List ℕ) → ends_empty (between 32 (replicate k 32 ++ s)) ≡ ends_empty (between 32 s)
unfolding between
spaces-end zero s = refl
spaces-end (suc k) s = ends-behind [] (replicate k 32 ++ s) ∙ spaces-end k s

spaces-words : (k : ℕ) (s : List ℕ) → words (between 32 (replicate k 32 ++ s)) ≡ words (between 32 s)
unfolding between keep is_empty
spaces-words zero s = refl
spaces-words (suc k) s = spaces-words k s

-- the words of a line that begins with the digits w
record Worded (s w : List ℕ) (xs : List Number) : Type 0 where
  ends : ends_empty (between 32 s) ≡ false
  parts : words (between 32 s) ≡ w ∷ map (λ x. x.digits) xs

no-space : (w : List ℕ) → is_digits w ≡ true → Mem 32 w → ⊥
no-space w e h = omega (arith, digits_above w e 32 h)

worded-one : (w : List ℕ) → is_digits w ≡ true → Worded w w []
unfolding ends_empty keep
worded-one w e = record {
  ends = ap ends_empty (between-without 32 w (no-space w e)) ∙ digits-some w e;
  parts = ap words (between-without 32 w (no-space w e)) ∙ words-behind w [] (digits-some w e);
}

worded-more : (w : List ℕ) (k : ℕ) (s v : List ℕ) (xs : List Number) → is_digits w ≡ true → Worded s v xs
    → Worded (w ++ (32 ∷ (replicate k 32 ++ s))) w (record { spaces = suc k; digits = v } ∷ xs)
worded-more w k s v xs e h = record {
  ends = ap ends_empty step ∙ ends-behind w (replicate k 32 ++ s) ∙ spaces-end k s ∙ h.ends;
  parts = ap words step ∙ words-behind w (between 32 (replicate k 32 ++ s)) (digits-some w e) ∙ ap (λ (l : List (List ℕ)). w ∷ l) (spaces-words k s ∙ h.parts);
}
  where
    step : between 32 (w ++ 32 ∷ (replicate k 32 ++ s)) ≡ w ∷ between 32 (replicate k 32 ++ s)
    step = between_first 32 w (replicate k 32 ++ s) (no-space w e)

worded : (w : List ℕ) (xs : List Number) → is_digits w ≡ true → ((x : Number) → Mem x xs → SoundNumber x) → Worded (w ++ flat_map number_text xs) w xs
unfolding flat_map
worded w [] e f = rw append-nil (worded-one w e)
worded w (x ∷ xs) e f = go x.spaces refl (f x (inl refl)).spaced (worded x.digits xs (f x (inl refl)).are-digits (λ y h. f y (inr h)))
  where
    go : (k : ℕ) → x.spaces ≡ k → 1 ≤ k → Worded (x.digits ++ flat_map number_text xs) x.digits xs → Worded (w ++ (number_text x ++ flat_map number_text xs)) w (x ∷ xs)
    go zero q l h = absurd (omega arith)
    go (suc k) q l h =
        let d = x.digits in
        let m = worded-more w k (d ++ flat_map number_text xs) d xs e h in
        let y : x ≡ record { spaces = suc k; digits = d } = ap (λ (n : ℕ). record { spaces = n; digits = d }) q in
        rw y (rw (append_assoc (replicate k 32) d (flat_map number_text xs)) m)

-- ---- the values of a line

numbers-read : (xs : List Number) → ((x : Number) → Mem x xs → SoundNumber x) → numbers_in (map (λ x. x.digits) xs) ≡ some (map worth xs)
unfolding numbers_in with_value
numbers-read [] f = refl
numbers-read (x ∷ xs) f =
    let g = f x (inl refl) in
    ap₂ with_value (worth-read 65535 x.digits (worth x) (record { are-digits = g.are-digits; number = refl; no_more = g.no_more })) (numbers-read xs (λ y h. f y (inr h)))

values-words : (s : List ℕ) → ends_empty (between 32 s) ≡ false → values_in (32 ∷ s) ≡ numbers_in (words (between 32 s))
unfolding values_in
values-words s e = if-true _ _ (ap not e)

values-read : (xs : List Number) → 0 < length xs → ((x : Number) → Mem x xs → SoundNumber x) → values_in (flat_map number_text xs) ≡ some (map worth xs)
unfolding flat_map
values-read [] l f = absurd (omega arith)
values-read (x ∷ xs) l f =
    go x.spaces refl (f x (inl refl)).spaced (worded x.digits xs (f x (inl refl)).are-digits (λ y h. f y (inr h))) (numbers-read (x ∷ xs) f)
  where
    go : (k : ℕ) → x.spaces ≡ k → 1 ≤ k → Worded (x.digits ++ flat_map number_text xs) x.digits xs → numbers_in (map (λ x. x.digits) (x ∷ xs)) ≡ some (map worth (x ∷ xs))
        → values_in (number_text x ++ flat_map number_text xs) ≡ some (map worth (x ∷ xs))
    go zero q m h n = absurd (omega arith)
    go (suc k) q m h n =
        let s = x.digits ++ flat_map number_text xs in
        rw q (rw (append_assoc (replicate k 32) x.digits (flat_map number_text xs)) (values-words (replicate k 32 ++ s) (spaces-end k s ∙ h.ends) ∙ ap numbers_in (spaces-words k s ∙ h.parts) ∙ n))

-- ---- a row

name-sound : (w : List ℕ) → length w ≡ 10 → ((b : ℕ) → Mem b w → (32 ≤ b) × (b ≤ 126)) → is_name w ≡ true
unfolding is_name
name-sound w e f =
    and-true (eq-eqb (length w) 10 e) (every-intro (λ b. leb 32 b && leb b 126) w (λ b h. and-true (le-leb 32 b (f b h).0) (le-leb b 126 (f b h).1)))

exactly-read : (t : ℕ) (vs : List ℕ) → length vs ≡ t → exactly t (some vs) ≡ some vs
unfolding exactly
exactly-read t vs e = if-true _ _ (eq-eqb (length vs) t e)

row_read : (t : ℕ) (r : Row) → 0 < t → SoundRow t r → row_in t (line_of r) ≡ some (row_of r)
unfolding row_in
row_read t r l g =
    let s = flat_map number_text r.numbers in
    if-true _ _ (ap is_name (take_at r.name s 10 g.ten-bytes) ∙ name-sound r.name g.ten-bytes g.shown-bytes)
    ∙ ap (λ (k : List ℕ). exactly t (values_in k)) (drop_at r.name s 10 g.ten-bytes)
    ∙ ap (exactly t) (values-read r.numbers (omega (arith, g.one_each)) g.numbers-sound)
    ∙ exactly-read t (row_of r) (length-map r.numbers worth ∙ g.one_each)

-- a row's bytes are shown, so none of them is LF
row-above : (t : ℕ) (r : Row) → SoundRow t r → (b : ℕ) → Mem b (line_of r) → 32 ≤ b
row-above t r g b h = ⊎_elim (λ m. (g.shown-bytes b m).0) (λ m. let x = mem-flat number_text b r.numbers m in number-above x.0 (g.numbers-sound x.0 x.1) x.2) (mem-cases b r.name (flat_map number_text r.numbers) h)
  where
    number-above : (x : Number) → SoundNumber x → Mem b (number_text x) → 32 ≤ b
    number-above x k m = ⊎_elim (λ c. omega (arith, mem-copies x.spaces 32 b c)) (λ c. omega (arith, digits_above x.digits k.are-digits b c)) (mem-cases b (replicate x.spaces 32) x.digits m)

rows-read : (t : ℕ) (rs : List Row) → ((r : Row) → Mem r rs → row_in t (line_of r) ≡ some (row_of r)) → rows_in (length rs) t (map line_of rs ++ [] ∷ []) ≡ some (flat_map row_of rs)
unfolding rows_in with_row is_empty flat_map
rows-read t [] f = refl
rows-read t (r ∷ rs) f = ap₂ with_row (f r (inl refl)) (rows-read t rs (λ x h. f x (inr h)))

-- ---- a text

pub lines-flat : (rs : List Row) → flat_map (λ r. line_of r ++ 10 ∷ []) rs ≡ flat_map (λ w. w ++ 10 ∷ []) (map line_of rs)
unfolding flat_map
lines-flat [] = refl
lines-flat (r ∷ rs) = ap (λ (k : List ℕ). (line_of r ++ 10 ∷ []) ++ k) (lines-flat rs)

pub square-lines : (f l : List ℕ) (ls : List (List ℕ)) → between 10 f ≡ l ∷ ls → square_in f ≡ square_lines (number_in 1024 l) ls
unfolding square_in
square-lines f l ls e = rw (square_in, e)

module _ (l : Layout) (g : Sound l) where
  no-LF : (w : List ℕ) → Mem w (map line_of l.rows) → Mem 10 w → ⊥
  no-LF w h m = let x = map-mem line_of l.rows w h in omega (arith, row-above (length l.rows) x.0 (g.rows-sound x.0 x.1) 10 (subst (λ (k : List ℕ). Mem 10 k) x.2 m))

  lines : between 10 (text_of l) ≡ l.first ∷ (map line_of l.rows ++ [] ∷ [])
  lines =
      between_first 10 l.first (flat_map (λ r. line_of r ++ 10 ∷ []) l.rows) (λ m. omega (arith, digits_above l.first g.first-digits 10 m))
      ∙ ap (λ (k : List (List ℕ)). l.first ∷ k) (ap (between 10) (lines-flat l.rows) ∙ between-ended 10 (map line_of l.rows) no-LF)

  each_row : (r : Row) → Mem r l.rows → row_in (length l.rows) (line_of r) ≡ some (row_of r)
  each_row r h = row_read (length l.rows) r (mem-some r l.rows h) (g.rows-sound r h)

  pub layout-reads : square_in (text_of l) ≡ some (matrix_in l)
  unfolding square_lines square_of
  layout-reads =
      let t = length l.rows in
      square-lines (text_of l) l.first (map line_of l.rows ++ [] ∷ []) lines
      ∙ ap (λ (n : Option ℕ). square_lines n (map line_of l.rows ++ [] ∷ [])) (worth-read 1024 l.first t (record { are-digits = g.first-digits; number = g.first-number; no_more = g.few-trees }))
      ∙ ap (square_of t) (rows-read t l.rows each_row)
