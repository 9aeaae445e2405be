-- What is written of a matrix: its lines, their lengths, and that it reads back.
--
--   Writable rows          the rows make a matrix that may be read: at most 1,024, as many values in each, none above 65,535
--   layout_of rows          how they are laid out: names t0, t1 and so on, one space before each value, no leading zeros
--   written-laid           the text of the rows is laid out in this way
--   written-sound          which is a layout as request 2026-07 says
--   square-reads-back      the text of such rows reads back as these rows
--   row_ends               a written row ends with LF, and no other byte of it is LF
--   row-short              a row whose values are below 1,000 has at most 11 bytes, and 4 for each value
--   square-short           the text of such rows has at most 5 bytes, and these for each row
use Rattle.std.specs.Prelude.{ℕ, suc, ◌+◌, ◌-◌, ◌*◌, ◌^◌, ◌≤◌, ◌<◌, ◌≡◌, refl, length, replicate}
use Rattle.std.proofs.Common.{suc-mul, arith, ap, ap₂, sym, ◌∙◌, subst, inl, inr, ⊎_elim, length-append}
use mathlib.Core.List.{List, [], ◌∷◌, ◌++◌, map, flat_map, flatten}
use Rattle.std.proofs.Math.Option.{some}
use Rattle.std.proofs.lemmas.List.{length-replicate, length-map}
use Rattle.trees.specs.Plain.{bytes}
use Rattle.trees.specs.Length.{is_digit}
use Rattle.trees.specs.Decimal.{digits_of}
use Rattle.trees.specs.Phylip.{name_of, padded, row_text, row_texts, square_text, square_in}
use Rattle.theorems.specs.ListLaws.{mem-flat, mem-copies, Mem, mem-cases, every-at}
use Rattle.theorems.specs.DecimalLaws.{digit-above, digit-below, digits-digit, digits_are, digits_number, digits-few, digits-three}
use Rattle.theorems.specs.PhylipLayout.{Number, Row, Layout, number_text, line_of, text_of, worth, row_of, SoundNumber, SoundRow, Sound}
use Rattle.theorems.specs.PhylipReadLaws.{layout-reads}

-- ---- names

name-short : (i : ℕ) → i < 10 ^ 9 → length (name_of i) ≤ 10
unfolding name_of bytes
name-short i h = omega (arith, digits-few i 8 h)

padded-ten : (w : List ℕ) → length w ≤ 10 → length (padded w) ≡ 10
unfolding padded
padded-ten w h = omega (arith, length-append w (replicate (10 - length w) 32), length-replicate {A = ℕ} (10 - length w) 32)

digits-shown : (n b : ℕ) → Mem b (digits_of n) → (48 ≤ b) × (b ≤ 57)
digits-shown n b h = let d = every-at is_digit (digits_of n) (digits-digit n) b h in (digit-above b d, digit-below b d)

name-shown : (i b : ℕ) → Mem b (name_of i) → (32 ≤ b) × (b ≤ 126)
unfolding name_of bytes
name-shown i b (inl e) = (omega arith, omega arith)
name-shown i b (inr h) = let d = digits-shown i b h in (omega (arith, d.0), omega (arith, d.1))

padded-shown : (i b : ℕ) → Mem b (padded (name_of i)) → (32 ≤ b) × (b ≤ 126)
unfolding padded
padded-shown i b h =
    ⊎_elim (name-shown i b) (λ m. let e = mem-copies (10 - length (name_of i)) 32 b m in (omega arith, omega arith)) (mem-cases b (name_of i) (replicate (10 - length (name_of i)) 32) h)

-- ---- how rows are laid out

abbrev number_for : ℕ → Number
number_for v = record { spaces = 1; digits = digits_of v }

abbrev row_for : ℕ → List ℕ → Row
row_for i vs = record { name = padded (name_of i); numbers = map number_for vs }

abbrev rows_for : ℕ → List (List ℕ) → List Row
rows_for i [] = []
rows_for i (vs ∷ rows) = row_for i vs ∷ rows_for (suc i) rows

abbrev pub layout_of : List (List ℕ) → Layout
layout_of rows = record { first = digits_of (length rows); rows = rows_for 0 rows }

values-laid : (vs : List ℕ) → flat_map number_text (map number_for vs) ≡ flat_map (λ v. 32 ∷ digits_of v) vs
unfolding flat_map
values-laid [] = refl
values-laid (v ∷ vs) = ap (λ (s : List ℕ). (32 ∷ digits_of v) ++ s) (values-laid vs)

row_laid : (i : ℕ) (vs : List ℕ) → line_of (row_for i vs) ++ 10 ∷ [] ≡ row_text i vs
unfolding row_text
row_laid i vs = ap (λ (s : List ℕ). (padded (name_of i) ++ s) ++ 10 ∷ []) (values-laid vs)

rows-laid : (i : ℕ) (rows : List (List ℕ)) → flat_map (λ r. line_of r ++ 10 ∷ []) (rows_for i rows) ≡ row_texts i rows
unfolding flat_map row_texts
rows-laid i [] = refl
rows-laid i (vs ∷ rows) = ap₂ (λ (s r : List ℕ). s ++ r) (row_laid i vs) (rows-laid (suc i) rows)

pub written-laid : (rows : List (List ℕ)) → text_of (layout_of rows) ≡ square_text rows
unfolding square_text
written-laid rows = ap (λ (s : List ℕ). digits_of (length rows) ++ 10 ∷ s) (rows-laid 0 rows)

-- ---- they are sound

number-sound : (v : ℕ) → v ≤ 65535 → SoundNumber (number_for v)
number-sound v h = record { spaced = omega arith; are-digits = digits_are v; no_more = omega (arith, digits_number v) }

numbers-sound : (vs : List ℕ) → ((v : ℕ) → Mem v vs → v ≤ 65535) → (x : Number) → Mem x (map number_for vs) → SoundNumber x
numbers-sound [] f x x4 = elim x4 [ ]
numbers-sound (v ∷ vs) f x (inl e) = subst SoundNumber (sym e) (number-sound v (f v (inl refl)))
numbers-sound (v ∷ vs) f x (inr m) = numbers-sound vs (λ y h. f y (inr h)) x m

row-sound : (t i : ℕ) (vs : List ℕ) → i < 10 ^ 9 → length vs ≡ t → ((v : ℕ) → Mem v vs → v ≤ 65535) → SoundRow t (row_for i vs)
row-sound t i vs l e f = record {
  ten-bytes = padded-ten (name_of i) (name-short i l);
  shown-bytes = padded-shown i;
  one_each = length-map vs number_for ∙ e;
  numbers-sound = numbers-sound vs f;
}

rows-sound : (t i : ℕ) (rows : List (List ℕ)) → i + length rows ≤ 10 ^ 9 → ((vs : List ℕ) → Mem vs rows → length vs ≡ t)
    → ((vs : List ℕ) → Mem vs rows → (v : ℕ) → Mem v vs → v ≤ 65535) → (r : Row) → Mem r (rows_for i rows) → SoundRow t r
rows-sound t i [] l e f r x4 = elim x4 [ ]
rows-sound t i (vs ∷ rows) l e f r (inl q) = subst (SoundRow t) (sym q) (row-sound t i vs (omega arith) (e vs (inl refl)) (f vs (inl refl)))
rows-sound t i (vs ∷ rows) l e f r (inr m) = rows-sound t (suc i) rows (omega arith) (λ k h. e k (inr h)) (λ k h. f k (inr h)) r m

rows-count : (i : ℕ) (rows : List (List ℕ)) → length (rows_for i rows) ≡ length rows
rows-count i [] = refl
rows-count i (vs ∷ rows) = ap suc (rows-count (suc i) rows)

-- "0 to 1,024 trees", "values up to 65,535"
pub record Writable (rows : List (List ℕ)) : Type 0 where
  pub few-rows : length rows ≤ 1024
  pub square : (vs : List ℕ) → Mem vs rows → length vs ≡ length rows
  pub small : (vs : List ℕ) → Mem vs rows → (v : ℕ) → Mem v vs → v ≤ 65535

pub written-sound : (rows : List (List ℕ)) → Writable rows → Sound (layout_of rows)
written-sound rows w =
    let c = rows-count 0 rows in
    record {
      first-digits = digits_are (length rows);
      first-number = digits_number (length rows) ∙ sym c;
      few-trees = omega (arith, w.few-rows);
      rows-sound = rows-sound (length (rows_for 0 rows)) 0 rows (omega (arith, w.few-rows)) (λ vs m. w.square vs m ∙ sym c) w.small;
    }

-- ---- and read back

values-back : (vs : List ℕ) → map worth (map number_for vs) ≡ vs
values-back [] = refl
values-back (v ∷ vs) = ap₂ (λ (x : ℕ) (r : List ℕ). x ∷ r) (digits_number v) (values-back vs)

rows_back : (i : ℕ) (rows : List (List ℕ)) → flat_map row_of (rows_for i rows) ≡ flatten rows
unfolding flat_map flatten
rows_back i [] = refl
rows_back i (vs ∷ rows) = ap₂ (λ (s r : List ℕ). s ++ r) (values-back vs) (rows_back (suc i) rows)

-- "What we write reads back as the same matrix"
pub square-reads-back : (rows : List (List ℕ)) → Writable rows → square_in (square_text rows) ≡ some (record { trees = length rows; values = flatten rows })
square-reads-back rows w =
    ap square_in (sym (written-laid rows))
    ∙ layout-reads (layout_of rows) (written-sound rows w)
    ∙ ap₂ (λ (t : ℕ) (vs : List ℕ). some (record { trees = t; values = vs })) (rows-count 0 rows) (rows_back 0 rows)

-- ---- lines and lengths

-- "Every line ends with LF", "one line a row"
pub row_ends : (i : ℕ) (vs : List ℕ) → (w : List ℕ) × (row_text i vs ≡ w ++ 10 ∷ []) × (Mem 10 w → ⊥)
unfolding row_text
row_ends i vs = (padded (name_of i) ++ flat_map (λ v. 32 ∷ digits_of v) vs, refl, λ h. ⊎_elim name values (mem-cases 10 (padded (name_of i)) _ h))
  where
    name : Mem 10 (padded (name_of i)) → ⊥
    name m = omega (arith, (padded-shown i 10 m).0)

    value : (v : ℕ) → Mem 10 (32 ∷ digits_of v) → ⊥
    value v (inl e) = omega arith
    value v (inr m) = omega (arith, (digits-shown v 10 m).0)

    values : Mem 10 (flat_map (λ v. 32 ∷ digits_of v) vs) → ⊥
    values m = let x = mem-flat (λ v. 32 ∷ digits_of v) 10 vs m in value x.0 x.2

values-short : (vs : List ℕ) → ((v : ℕ) → Mem v vs → v < 1000) → length (flat_map (λ v. 32 ∷ digits_of v) vs) ≤ 4 * length vs
unfolding flat_map
values-short [] f = omega arith
values-short (v ∷ vs) f =
    omega (arith, length-append (digits_of v) (flat_map (λ v. 32 ∷ digits_of v) vs), digits-three v (f v (inl refl)), values-short vs (λ x m. f x (inr m)))

pub row-short : (i : ℕ) (vs : List ℕ) → i < 10 ^ 9 → ((v : ℕ) → Mem v vs → v < 1000) → length (row_text i vs) ≤ 10 + 4 * length vs + 1
unfolding row_text
row-short i vs l f =
    let s = flat_map (λ v. 32 ∷ digits_of v) vs in
    omega (arith, length-append (padded (name_of i) ++ s) (10 ∷ []), length-append (padded (name_of i)) s, padded-ten (name_of i) (name-short i l), values-short vs f)

rows_short : (t i : ℕ) (rows : List (List ℕ)) → i + length rows ≤ 10 ^ 9 → ((vs : List ℕ) → Mem vs rows → length vs ≡ t)
    → ((vs : List ℕ) → Mem vs rows → (v : ℕ) → Mem v vs → v < 1000) → length (row_texts i rows) ≤ length rows * (11 + 4 * t)
unfolding row_texts
rows_short t i [] l e f = omega arith
rows_short t i (vs ∷ rows) l e f =
    let a = suc-mul (length rows) (11 + 4 * t) in
    let b = e vs (inl refl) in
    omega (arith, length-append (row_text i vs) (row_texts (suc i) rows), row-short i vs (omega arith) (f vs (inl refl)), rows_short t (suc i) rows (omega arith) (λ k m. e k (inr m)) (λ k m. f k (inr m)))

pub square-short : (rows : List (List ℕ)) → Writable rows → ((vs : List ℕ) → Mem vs rows → (v : ℕ) → Mem v vs → v < 1000) → length (square_text rows) ≤ 5 + length rows * (11 + 4 * length rows)
unfolding square_text
square-short rows w f =
    omega (arith, length-append (digits_of (length rows)) (10 ∷ row_texts 0 rows), digits-few (length rows) 3 (omega (arith, w.few-rows)), rows_short (length rows) 0 rows (omega (arith, w.few-rows)) w.square f)
