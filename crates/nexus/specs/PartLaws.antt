-- Laws of the parts of a file, between two places. Assumes nothing.
--
--   part_none, part-first     a part of no byte, and a part's first byte
--   part_length, part-some    how many bytes it has, and that it has one
--   part_join, part-more      two parts, one behind the other; one byte more
--   part-rest                 a part, and what stands behind it
--   part_of                   what stands in a part from a place on
use Rattle.std.specs.Prelude.{ℕ, ◌+◌, ◌-◌, ◌≤◌, ◌<◌, ◌≡◌, refl, List, [], ◌∷◌, ◌++◌, length, get_or, take, drop}
use Rattle.std.proofs.Common.{add-one, arith, sym, ap, ◌∙◌, length-drop, take-append-drop, drop-cons, drop-drop, drop_at, take-add, length-take-le}
use Rattle.nexus.specs.Places.{part}

module _ (s : List ℕ) where
  pub part_none : (i r : ℕ) → i ≡ r → part i r s ≡ []
  part_none i r e = let z : r - i ≡ 0 = omega arith in ap (λ (n : ℕ). take n (drop i s)) z

  pub part-first : (i r : ℕ) → i < r → i < length s → part i r s ≡ get_or s i 0 ∷ part (i + 1) r s
  part-first i r h g =
      let e : r - i ≡ (r - (i + 1)) + 1 = omega arith in
      rw (e, drop-cons s i 0 g, add-one (r - (i + 1)), add-one i)

  pub part_length : (i r : ℕ) → i ≤ r → r ≤ length s → length (part i r s) ≡ r - i
  part_length i r h g = let d = length-drop i s in length-take-le (r - i) (drop i s) (omega arith)

  pub part-some : (i r : ℕ) → i ≤ r → (i ≡ r → ⊥) → r ≤ length s → 1 ≤ length (part i r s)
  part-some i r h n g = omega (arith, part_length i r h g, n)

  pub part_join : (i j r : ℕ) → i ≤ j → j ≤ r → part i r s ≡ part i j s ++ part j r s
  part_join i j r h g =
      let n : r - i ≡ (j - i) + (r - j) = omega arith in
      let m : i + (j - i) ≡ j = omega arith in
      rw n (take-add (j - i) (r - j) (drop i s))
      ∙ ap (λ (l : List ℕ). part i j s ++ take (r - j) l) (drop-drop (j - i) i s ∙ ap (λ (k : ℕ). drop k s) m)

  pub part-more : (i r : ℕ) → i ≤ r → r < length s → part i (r + 1) s ≡ part i r s ++ (get_or s r 0 ∷ [])
  part-more i r h g =
      part_join i r (r + 1) h (omega arith)
      ∙ ap (λ (l : List ℕ). part i r s ++ l) (part-first r (r + 1) (omega arith) g ∙ ap (λ (l : List ℕ). get_or s r 0 ∷ l) (part_none (r + 1) (r + 1) refl))

  pub part-rest : (i r : ℕ) → i ≤ r → drop i s ≡ part i r s ++ drop r s
  part-rest i r h =
      let m : i + (r - i) ≡ r = omega arith in
      sym (take-append-drop (r - i) (drop i s))
      ∙ ap (λ (l : List ℕ). part i r s ++ l) (drop-drop (r - i) i s ∙ ap (λ (k : ℕ). drop k s) m)

  pub part_of : (i r j : ℕ) → i + j ≤ r → r ≤ length s → drop j (part i r s) ≡ part (i + j) r s
  part_of i r j h g =
      let n : length (part i (i + j) s) ≡ j = part_length i (i + j) (omega arith) (omega arith) ∙ omega arith in
      ap (drop j) (part_join i (i + j) r (omega arith) h) ∙ drop_at (part i (i + j) s) (part (i + j) r s) j n
