-- A line of a text, read from left to right: what stands behind its LF is not looked at. Assumes nothing.
--
--   others-nexts          a text without LF has none behind its values
--   and_last              tests the last of which fails
--   end-here, empty-is    LF stands at once behind a text without LF exactly where that is empty
--   row-in, row_next      a line is the row that `row_in` says, and the next row stands behind its LF
use Prim.Native.Nat.{ℕ, zero, suc, ◌≤◌, ◌<◌}
use Rattle.std.proofs.Common.{arith, inl, inr, sym, ap, ◌∙◌, true≢false, length-take, length-append, get_or-take, ne_eqb}
use Rattle.std.specs.Prelude.{◌⊎◌, ◌≡◌, true, false, ◌&&◌, leb, eqb, length, take, drop, get_or, if◌then◌else◌}
use Rattle.std.proofs.Math.Path.{refl}
use Rattle.std.proofs.Math.Bool.{Bool}
use mathlib.Core.List.{List, [], ◌∷◌, ◌++◌}
use Rattle.std.proofs.Math.Option.{Option, none, some}
use Rattle.std.proofs.Math.Seq.{take-append-le, drop-append-le, get_or-append_seam}
use Rattle.trees.specs.Plain.{every, byte}
use Rattle.trees.specs.Length.{is_digit}
use Rattle.trees.specs.Nexus.{behind_run, begins}
use Rattle.trees.specs.Phylip.{is_empty, is_name, values_in, exactly, row_in}
use Rattle.theorems.specs.ListLaws.{less-or-not, and_right, every-at, mem-get_d}
use Rattle.phylip.specs.Walk.{is_byte, number, value, next, is_value, values, nexts, are_values, ends_row, is_row, next_row}
use Rattle.phylip.specs.CutLaws.{is_other, run-up-to, behind-up-to, begins-up-to, others-behind, others-drop, starts_other}
use Rattle.phylip.specs.ValueLaws.{line_read, line-values}

-- ---- values before LF

module _ (r : List ℕ) where
  number-up-to : (w : List ℕ) → number (w ++ byte "\n" ∷ r) ≡ number w
  unfolding number is_digit
  number-up-to w = rw (run-up-to is_digit (byte "\n") refl r w)

  spaces-up-to : (w : List ℕ) → behind_run (is_byte (byte " ")) (w ++ byte "\n" ∷ r) ≡ behind_run (is_byte (byte " ")) w ++ byte "\n" ∷ r
  unfolding is_byte
  spaces-up-to w = behind-up-to (is_byte (byte " ")) (byte "\n") refl r w

  value-up-to : (w : List ℕ) → value (w ++ byte "\n" ∷ r) ≡ value w
  unfolding value
  value-up-to w = rw (spaces-up-to w) (number-up-to (behind_run (is_byte (byte " ")) w))

  next-up-to : (w : List ℕ) → next (w ++ byte "\n" ∷ r) ≡ next w ++ byte "\n" ∷ r
  unfolding next is_digit
  next-up-to w = rw (spaces-up-to w) (behind-up-to is_digit (byte "\n") refl r (behind_run (is_byte (byte " ")) w))

  is-up-to : (w : List ℕ) → is_value (w ++ byte "\n" ∷ r) ≡ is_value w
  unfolding is_value is_byte is_digit
  is-up-to w =
      rw (
        begins-up-to (is_byte (byte " ")) (byte "\n") refl r w,
        spaces-up-to w,
        begins-up-to is_digit (byte "\n") refl r (behind_run (is_byte (byte " ")) w),
        value-up-to w,
      )

  nexts-up-to : (n : ℕ) (w : List ℕ) → nexts n (w ++ byte "\n" ∷ r) ≡ nexts n w ++ byte "\n" ∷ r
  unfolding nexts
  nexts-up-to zero w = refl
  nexts-up-to (suc n) w = rw (next-up-to w) (nexts-up-to n (next w))

  values-up-to : (n : ℕ) (w : List ℕ) → values n (w ++ byte "\n" ∷ r) ≡ values n w
  unfolding values
  values-up-to zero w = refl
  values-up-to (suc n) w = rw (value-up-to w, next-up-to w) (ap (λ (l : List ℕ). value w ∷ l) (values-up-to n (next w)))

  are-up-to : (n : ℕ) (w : List ℕ) → are_values n (w ++ byte "\n" ∷ r) ≡ are_values n w
  unfolding are_values
  are-up-to zero w = refl
  are-up-to (suc n) w = rw (is-up-to w, next-up-to w) (ap (λ t. is_value w && t) (are-up-to n (next w)))

-- ---- no LF

pub others-nexts : (n : ℕ) (s : List ℕ) → every (is_other (byte "\n")) s ≡ true → every (is_other (byte "\n")) (nexts n s) ≡ true
unfolding nexts next
others-nexts zero s h = h
others-nexts (suc n) s h =
    others-nexts n (next s) (others-behind (byte "\n") is_digit (behind_run (is_byte (byte " ")) s) (others-behind (byte "\n") (is_byte (byte " ")) s h))

pub and_last : (a b : Bool) {c : Bool} → c ≡ false → (a && (b && c)) ≡ false
and_last true true e = e
and_last true false e = refl
and_last false b e = refl

-- LF stands at once behind s where nothing else does
pub end-here : (r s : List ℕ) → every (is_other (byte "\n")) s ≡ true → begins (is_byte (byte "\n")) (s ++ byte "\n" ∷ r) ≡ is_empty s
unfolding begins is_byte is_empty
end-here r [] h = refl
end-here r (b ∷ s) h = starts_other (byte "\n") (b ∷ s) h

pub empty-is : (s : List ℕ) → is_empty s ≡ true → s ≡ []
unfolding is_empty
empty-is [] e = refl
empty-is (b ∷ s) e = absurd (true≢false (sym e))

-- ---- a name

name-short : (w : List ℕ) → length w < 10 → is_name (take 10 w) ≡ false
unfolding is_name
name-short w h = rw (ne_eqb (length (take 10 w)) 10 (λ q. omega (arith, length-take 10 w)))

-- "names of any ten bytes from 32 to 126": none of them is LF
name-cut : (w r : List ℕ) → length w < 10 → is_name (take 10 (w ++ byte "\n" ∷ r)) ≡ false
unfolding is_name
name-cut w r h = go (is_name v) refl
  where
    v : List ℕ
    v = take 10 (w ++ byte "\n" ∷ r)

    stands : get_or v (length w) 0 ≡ byte "\n"
    stands = get_or-take 10 (w ++ byte "\n" ∷ r) (length w) 0 h ∙ get_or-append_seam w (byte "\n") r 0

    within : length w < length v
    within = omega (arith, length-take 10 (w ++ byte "\n" ∷ r), length-append w (byte "\n" ∷ r))

    go : (t : Bool) → is_name v ≡ t → is_name v ≡ false
    go true e =
        absurd
        (true≢false
        (sym (rw stands at (every-at (λ b. leb 32 b && leb b 126) v (and_right (eqb (length v) 10) (every (λ b. leb 32 b && leb b 126) v) e) (get_or v (length w) 0) (mem-get_d v (length w) within)))))
    go false e = e

-- ---- a row

module _ (n : ℕ) (r : List ℕ) where
  ends-up-to : (w : List ℕ) → every (is_other (byte "\n")) w ≡ true → ends_row n (w ++ byte "\n" ∷ r) ≡ (are_values n w && is_empty (nexts n w))
  unfolding ends_row
  ends-up-to w h = rw (are-up-to r n w, nexts-up-to r n w, end-here r (nexts n w) (others-nexts n w h))

  module _ (w : List ℕ) (h : every (is_other (byte "\n")) w ≡ true) where
    row-short : length w < 10 → is_row n (w ++ byte "\n" ∷ r) ≡ false
    unfolding is_row
    row-short l = rw (name-cut w r l)

    row-long : 10 ≤ length w → is_row n (w ++ byte "\n" ∷ r) ≡ (is_name (take 10 w) && (are_values n (drop 10 w) && is_empty (nexts n (drop 10 w))))
    unfolding is_row
    row-long l =
        rw (
          take-append-le 10 w (byte "\n" ∷ r) l,
          drop-append-le 10 w (byte "\n" ∷ r) l,
          ends-up-to (drop 10 w) (others-drop (byte "\n") 10 w h),
        )

    -- the name and the values of a line end with it
    row_named : is_row n (w ++ byte "\n" ∷ r) ≡ (is_name (take 10 w) && (are_values n (drop 10 w) && is_empty (nexts n (drop 10 w))))
    row_named = go (less-or-not (length w) 10)
      where
        go : (length w < 10) ⊎ (10 ≤ length w) → is_row n (w ++ byte "\n" ∷ r) ≡ (is_name (take 10 w) && (are_values n (drop 10 w) && is_empty (nexts n (drop 10 w))))
        go (inl l) = row-short l ∙ rw (name-short w l)
        go (inr l) = row-long l

    row-dropped : is_row n (w ++ byte "\n" ∷ r) ≡ true → drop 10 (w ++ byte "\n" ∷ r) ≡ drop 10 w ++ byte "\n" ∷ r
    row-dropped e = go (less-or-not (length w) 10)
      where
        go : (length w < 10) ⊎ (10 ≤ length w) → drop 10 (w ++ byte "\n" ∷ r) ≡ drop 10 w ++ byte "\n" ∷ r
        go (inl l) = absurd (true≢false (sym e ∙ row-short l))
        go (inr l) = drop-append-le 10 w (byte "\n" ∷ r) l

    pub row_next : is_row n (w ++ byte "\n" ∷ r) ≡ true → next_row n (w ++ byte "\n" ∷ r) ≡ r
    unfolding next_row
    row_next e =
        let k = and_right (is_name (take 10 w)) (are_values n (drop 10 w) && is_empty (nexts n (drop 10 w))) (sym row_named ∙ e) in
        let z = empty-is (nexts n (drop 10 w)) (and_right (are_values n (drop 10 w)) (is_empty (nexts n (drop 10 w))) k) in
        rw (row-dropped e, nexts-up-to r n (drop 10 w), z)

module _ (n : ℕ) (w r : List ℕ) (h : every (is_other (byte "\n")) w ≡ true) where
  pub row-in : row_in (suc n) w ≡ (if is_row (suc n) (w ++ byte "\n" ∷ r) then some (values (suc n) (drop 10 (w ++ byte "\n" ∷ r))) else none)
  unfolding row_in line_read
  row-in = line-in ∙ go (is_row (suc n) (w ++ byte "\n" ∷ r)) refl
    where
      line : Bool
      line = is_name (take 10 w) && (are_values (suc n) (drop 10 w) && is_empty (nexts (suc n) (drop 10 w)))

      name_in : (t c : Bool) (x : Option (List ℕ)) (vs : List ℕ) → x ≡ (if c then some vs else none) → (if t then x else none) ≡ (if t && c then some vs else none)
      name_in true c x vs e = e
      name_in false c x vs e = refl

      line-in : row_in (suc n) w ≡ (if line then some (values (suc n) (drop 10 w)) else none)
      line-in =
          name_in (is_name (take 10 w)) (are_values (suc n) (drop 10 w) && is_empty (nexts (suc n) (drop 10 w))) (exactly (suc n) (values_in (drop 10 w))) (values (suc n) (drop 10 w))
          (line-values n (drop 10 w))

      go : (t : Bool) → is_row (suc n) (w ++ byte "\n" ∷ r) ≡ t
          → (if line then some (values (suc n) (drop 10 w)) else none) ≡ (if t then some (values (suc n) (drop 10 (w ++ byte "\n" ∷ r))) else none)
      go true e = rw (sym (row_named (suc n) r w h) ∙ e, row-dropped (suc n) r w h e, values-up-to r (suc n) (drop 10 w))
      go false e = rw (sym (row_named (suc n) r w h) ∙ e)
