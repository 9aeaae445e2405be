-- Reading a matrix in PHYLIP's layout is exact: whatever is read is laid out as request 2026-07 says.
--
--   laid-out-exactly     a text is read as a matrix exactly when it is laid out so and says that matrix
--   one-matrix           a text says one matrix only
--   laid-values          a matrix that is laid out has a value for each pair of trees
use Rattle.std.specs.Prelude.{ℕ, zero, suc, ◌*◌, ◌≡◌, refl, ◌↔◌, true, false, ◌&&◌, not, eqb, replicate, drop, if◌then◌else◌}
use Rattle.std.proofs.Common.{zero-mul, suc-mul, arith, ap₂, ◌∙◌, subst, inl, inr, true≢false, length-append}
use Rattle.std.proofs.Math.Path.{ap, sym}
use mathlib.Core.List.{List, [], ◌∷◌, ◌++◌, map, flat_map, append_assoc}
use Rattle.std.proofs.Math.Option.{Option, none, some}
use Rattle.std.proofs.Math.Dec.{leb}
use Rattle.std.proofs.Math.ListN.{length, take, take-append-drop}
use Rattle.std.proofs.lemmas.List.{length-map}
use borrow.Author.Tests.{leb-true, eqb-true, not-true}
use Rattle.trees.specs.Plain.{keep}
use Rattle.trees.specs.Decimal.{number_in}
use Rattle.trees.specs.Phylip.{between, is_empty, ends_empty, with_value, numbers_in, values_in, is_name, exactly, row_in, with_row, rows_in, Square, square_of, square_lines, square_in}
use Rattle.theorems.specs.ListLaws.{by-test, and_left, and_right, Mem, every-at}
use Rattle.theorems.specs.DecimalLaws.{WorthIn, worth-in}
use Rattle.theorems.specs.BetweenLaws.{between-some, between-joined, ended-joined}
use Rattle.theorems.specs.PhylipLayout.{Number, Row, number_text, line_of, text_of, worth, row_of, SoundNumber, SoundRow, LaidOut}
use Rattle.theorems.specs.PhylipReadLaws.{words, lines-flat, square-lines, layout-reads}

-- what holds of one and of each of the others
each_more : {A : Type 0} (P : A → Type 0) (x : A) (l : List A) → P x → ((y : A) → Mem y l → P y) → (y : A) → Mem y (x ∷ l) → P y
each_more P x l p f y (inl e) = subst P (sym e) p
each_more P x l p f y (inr m) = f y m

-- ---- the values of a line

-- the bytes s are numbers, and these are worth what was read
abbrev Numbered : List ℕ → Option (List ℕ) → Type 0
Numbered s none = Unit {0}
Numbered s (some vs) = (xs : List Number) × ((x : Number) → Mem x xs → SoundNumber x) × (flat_map number_text xs ≡ s) × (map worth xs ≡ vs)

one_more : (k : ℕ) (w s : List ℕ) (a : Option ℕ) (b : Option (List ℕ)) → WorthIn 65535 w a → Numbered s b → Numbered ((replicate (suc k) 32 ++ w) ++ s) (with_value a b)
unfolding with_value flat_map
one_more k w s none b g h = tt
one_more k w s (some v) none g h = tt
one_more k w s (some v) (some vs) g h =
    let x : Number = record { spaces = suc k; digits = w } in
    let sound : SoundNumber x = record { spaced = omega arith; are-digits = g.are-digits; no_more = omega (arith, g.number, g.no_more) } in (
      x ∷ h.0,
      each_more SoundNumber x h.0 sound h.1,
      ap (λ (r : List ℕ). (replicate (suc k) 32 ++ w) ++ r) h.2,
      ap₂ (λ (y : ℕ) (r : List ℕ). y ∷ r) g.number h.3,
    )

last-copy : (k : ℕ) (s : List ℕ) → replicate (suc k) 32 ++ s ≡ replicate k 32 ++ 32 ∷ s
last-copy zero s = refl
last-copy (suc k) s = ap (λ (r : List ℕ). 32 ∷ r) (last-copy k s)

-- k spaces, and then the parts ws, each behind a space
numbered : (k : ℕ) (ws : List (List ℕ)) → ends_empty ws ≡ false → Numbered (replicate k 32 ++ flat_map (λ w. 32 ∷ w) ws) (numbers_in (words ws))
unfolding ends_empty is_empty keep numbers_in flat_map
numbered k [] e = absurd (true≢false e)
numbered k ([] ∷ []) e = absurd (true≢false e)
numbered k ((b ∷ w) ∷ []) e =
    subst (λ (s : List ℕ). Numbered s (numbers_in ((b ∷ w) ∷ []))) (append_assoc (replicate (suc k) 32) (b ∷ w) [] ∙ last-copy k ((b ∷ w) ++ []))
    (one_more k (b ∷ w) [] (number_in 65535 (b ∷ w)) (some []) (worth-in 65535 (b ∷ w)) ([], λ x m. absurd m, refl, refl))
numbered k ([] ∷ v ∷ ws) e =
    subst (λ (s : List ℕ). Numbered s (numbers_in (words (v ∷ ws)))) (last-copy k (flat_map (λ w. 32 ∷ w) (v ∷ ws))) (numbered (suc k) (v ∷ ws) e)
numbered k ((b ∷ w) ∷ v ∷ ws) e =
    let r = flat_map (λ w. 32 ∷ w) (v ∷ ws) in
    subst (λ (s : List ℕ). Numbered s (numbers_in ((b ∷ w) ∷ words (v ∷ ws)))) (append_assoc (replicate (suc k) 32) (b ∷ w) r ∙ last-copy k ((b ∷ w) ++ r))
    (one_more k (b ∷ w) r (number_in 65535 (b ∷ w)) (numbers_in (words (v ∷ ws))) (worth-in 65535 (b ∷ w)) (numbered 0 (v ∷ ws) e))

values-numbered : (s : List ℕ) → Numbered s (values_in s)
unfolding values_in
values-numbered [] = tt
values-numbered (b ∷ s) =
    by-test (Numbered (b ∷ s)) (eqb b 32 && not (ends_empty (between 32 s)))
    (λ e. let q : flat_map (λ w. 32 ∷ w) (between 32 s) ≡ b ∷ s = between-joined 32 s ∙ ap (λ (c : ℕ). c ∷ s) (sym (eqb-true b 32 (and_left (eqb b 32) _ e))) in
    subst (λ (r : List ℕ). Numbered r (numbers_in (words (between 32 s)))) q (numbered 0 (between 32 s) (not-true _ (and_right (eqb b 32) _ e))))
    (λ e. tt)

-- ---- a row

-- the line w is a row of t numbers, and these are worth what was read
abbrev Rowed : ℕ → List ℕ → Option (List ℕ) → Type 0
Rowed t w none = Unit {0}
Rowed t w (some vs) = (r : Row) × SoundRow t r × (line_of r ≡ w) × (row_of r ≡ vs)

module _ (t : ℕ) (w : List ℕ) where
  row_made : is_name (take 10 w) ≡ true → (vs : List ℕ) → Numbered (drop 10 w) (some vs) → length vs ≡ t → Rowed t w (some vs)
  unfolding is_name
  row_made e vs h n = (
    record { name = take 10 w; numbers = h.0 },
    record {
      ten-bytes = eqb-true _ _ (and_left (eqb (length (take 10 w)) 10) _ e);
      shown-bytes = λ b m. let c = every-at (λ b. leb 32 b && leb b 126) (take 10 w) (and_right (eqb (length (take 10 w)) 10) _ e) b m in (leb-true 32 b (and_left (leb 32 b) _ c), leb-true b 126 (and_right (leb 32 b) _ c));
      one_each = sym (length-map h.0 worth) ∙ ap length h.3 ∙ n;
      numbers-sound = h.1;
    },
    ap (λ (s : List ℕ). take 10 w ++ s) h.2 ∙ take-append-drop 10 w,
    h.3,
  )

  row-counted : is_name (take 10 w) ≡ true → (a : Option (List ℕ)) → Numbered (drop 10 w) a → Rowed t w (exactly t a)
  unfolding exactly
  row-counted e none h = tt
  row-counted e (some vs) h = by-test (Rowed t w) (eqb (length vs) t) (λ n. row_made e vs h (eqb-true (length vs) t n)) (λ n. tt)

  row-rowed : Rowed t w (row_in t w)
  unfolding row_in
  row-rowed = by-test (Rowed t w) (is_name (take 10 w)) (λ e. row-counted e (values_in (drop 10 w)) (values-numbered (drop 10 w))) (λ e. tt)

-- ---- the rows

-- the lines ls are k rows of t numbers, and an empty line behind them
abbrev AllRowed : ℕ → ℕ → List (List ℕ) → Option (List ℕ) → Type 0
AllRowed k t ls none = Unit {0}
AllRowed k t ls (some vs) =
    (rs : List Row) × (length rs ≡ k) × ((r : Row) → Mem r rs → SoundRow t r) × (map line_of rs ++ [] ∷ [] ≡ ls) × (flat_map row_of rs ≡ vs)

row_more : (k t : ℕ) (w : List ℕ) (ls : List (List ℕ)) (a b : Option (List ℕ)) → Rowed t w a → AllRowed k t ls b → AllRowed (suc k) t (w ∷ ls) (with_row a b)
unfolding with_row flat_map
row_more k t w ls none b g h = tt
row_more k t w ls (some v) none g h = tt
row_more k t w ls (some v) (some vs) g h = (
  g.0 ∷ h.0,
  ap suc h.1,
  each_more (SoundRow t) g.0 h.0 g.1 h.2,
  ap₂ (λ (l : List ℕ) (r : List (List ℕ)). l ∷ r) g.2 h.3,
  ap₂ (λ (l r : List ℕ). l ++ r) g.3 h.4,
)

no_row : (t : ℕ) (w : List ℕ) → AllRowed zero t (w ∷ []) (if is_empty w then some [] else none)
unfolding is_empty flat_map
no_row t [] = ([], refl, λ r m. absurd m, refl, refl)
no_row t (b ∷ w) = tt

rows-rowed : (k t : ℕ) (ls : List (List ℕ)) → AllRowed k t ls (rows_in k t ls)
unfolding rows_in
rows-rowed k t [] = tt
rows-rowed zero t (w ∷ []) = no_row t w
rows-rowed zero t (w ∷ v ∷ ls) = tt
rows-rowed (suc k) t (w ∷ ls) = row_more k t w ls (row_in t w) (rows_in k t ls) (row-rowed t w) (rows-rowed k t ls)

-- ---- a text

abbrev Laid : List ℕ → Option Square → Type 0
Laid f none = Unit {0}
Laid f (some q) = LaidOut f q

lines-text : (first : List ℕ) (rs : List Row) → first ++ flat_map (λ w. 10 ∷ w) (map line_of rs ++ [] ∷ []) ≡ text_of (record { first = first; rows = rs })
lines-text first rs = ap (λ (s : List ℕ). first ++ s) (ended-joined 10 (map line_of rs) ∙ ap (λ (s : List ℕ). 10 ∷ s) (sym (lines-flat rs)))

rows-laid : (w : List ℕ) (ls : List (List ℕ)) (t : ℕ) → WorthIn 1024 w (some t) → (a : Option (List ℕ)) → AllRowed t t ls a → Laid (w ++ flat_map (λ w. 10 ∷ w) ls) (square_of t a)
unfolding square_of
rows-laid w ls t g none h = tt
rows-laid w ls t g (some vs) h = (
  record { first = w; rows = h.0 },
  record {
    first-digits = g.are-digits;
    first-number = g.number ∙ sym h.1;
    few-trees = omega (arith, g.no_more, h.1);
    rows-sound = λ r m. subst (λ (n : ℕ). SoundRow n r) (sym h.1) (h.2 r m);
  },
  sym (lines-text w h.0) ∙ ap (λ (k : List (List ℕ)). w ++ flat_map (λ w. 10 ∷ w) k) h.3,
  ap₂ (λ (n : ℕ) (v : List ℕ). record { trees = n; values = v }) h.1 h.4,
)

lines-laid : (w : List ℕ) (ls : List (List ℕ)) (n : Option ℕ) → WorthIn 1024 w n → Laid (w ++ flat_map (λ w. 10 ∷ w) ls) (square_lines n ls)
unfolding square_lines
lines-laid w ls none g = tt
lines-laid w ls (some t) g = rows-laid w ls t g (rows_in t t ls) (rows-rowed t t ls)

laid : (f : List ℕ) → Laid f (square_in f)
unfolding flat_map
laid f =
    let r = between-some 10 f in
    let w = r.0 in
    let ls = r.1 in
    let j : 10 ∷ (w ++ flat_map (λ w. 10 ∷ w) ls) ≡ 10 ∷ f = sym (ap (flat_map (λ w. 10 ∷ w)) r.2) ∙ between-joined 10 f in
    let e : w ++ flat_map (λ w. 10 ∷ w) ls ≡ f = cc in
    subst (Laid f) (sym (square-lines f w ls r.2)) (subst (λ (s : List ℕ). Laid s (square_lines (number_in 1024 w) ls)) e (lines-laid w ls (number_in 1024 w) (worth-in 1024 w)))

pub laid-out-exactly : (f : List ℕ) (q : Square) → (square_in f ≡ some q) ↔ LaidOut f q
laid-out-exactly f q = (λ e. subst (Laid f) e (laid f), λ x. sym (ap square_in x.2) ∙ layout-reads x.0 x.1 ∙ ap some x.3)

pub one-matrix : (f : List ℕ) (p q : Square) → LaidOut f p → LaidOut f q → p ≡ q
one-matrix f p q x y = cc ((laid-out-exactly f p).1 x, (laid-out-exactly f q).1 y)

-- ---- how many values

rows-length : (t : ℕ) (rs : List Row) → ((r : Row) → Mem r rs → SoundRow t r) → length (flat_map row_of rs) ≡ length rs * t
unfolding flat_map
rows-length t [] f = sym (zero-mul t)
rows-length t (r ∷ rs) f =
    let n = suc-mul (length rs) t in
    length-append (row_of r) (flat_map row_of rs) ∙ omega (arith, length-map r.numbers worth, (f r (inl refl)).one_each, rows-length t rs (λ x m. f x (inr m)))

pub laid-values : (f : List ℕ) (q : Square) → LaidOut f q → length q.values ≡ q.trees * q.trees
laid-values f q x = rw (← x.3) (rows-length (length x.0.rows) x.0.rows x.1.rows-sound)
