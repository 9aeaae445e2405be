-- The laws of a head that is written: the opening is read there, nothing is counted yet, and the bytes behind it are kept. Assumes nothing.
--
--   names-short            the names of a good list have at most 32 bytes
--   checked                the three checks of an opening, as facts
--   few-first, few-second, first_fits     what the calls that write it ask
--   written-calls          what these calls leave
--   written-opening        the opening that was written is read
--   written_none           no trees and no splits are counted
--   written-kept           the bytes from 4,096 on are kept
--   written-length         so is the length
use Rattle.std.specs.Prelude.{ℕ, zero, suc, ◌+◌, ◌*◌, ◌^◌, ◌≤◌, ◌<◌, ◌≡◌, true, List, [], ◌∷◌, get_or, drop}
use Rattle.std.proofs.Common.{arith, ap, ◌∙◌, inl, inr, length-drop, get_or-drop}
use Rattle.std.proofs.Math.Path.{sym}
use Rattle.std.proofs.Math.ListN.{length}
use Rattle.std.proofs.Math.Seq.{ext_get_or}
use Rattle.trees.specs.Plain.{every}
use Rattle.trees.specs.Names.{is_name, good_names}
use Rattle.trees.specs.Opening.{Numbers, Opening, in_range, good_constants, head_bytes}
use Rattle.theorems.specs.ListLaws.{and_left, and_right}
use Rattle.theorems.specs.NameLaws.{is_name-short}
use Rattle.theorems.specs.OpeningLaws.{in-range, constants, named, GoodOpening, first_below, second_below}
use Rattle.fields.specs.Field.{number}
use Rattle.fields.specs.FieldLaws.{put-length, put-outside, number_put, number-put-outside, number_same}
use Rattle.fields.specs.Run.{cleared}
use Rattle.fields.specs.RunLaws.{cleared-length, cleared-outside, number-cleared-inside}
use Rattle.head.specs.Head.{numbers_at, name_at, names_at, first_at, second_at, opening_at}
use Rattle.head.specs.HeadLaws.{names-length as listed-names, first-length as listed-first, second-length as listed-second, names-at, first-at, second_at_lem}
use Rattle.opening.specs.Given.{opening_with}
use Rattle.opening.specs.Places.{Lies}
use Rattle.opening.specs.PlacesLaws.{lies-name, lies-kept}
use Rattle.opening.specs.Writing.{puts, with_names, in_order, with_numbers}
use Rattle.opening.specs.HeadWriting.{clear, numbered, called, firsts, written}
use Rattle.opening.specs.WritingLaws.{puts-length, puts-outside, number-puts-outside, puts-at, names-length, names-outside, names-lie}

pub names-short : (ws : List (List ℕ)) → every is_name ws ≡ true → (i : ℕ) → length (get_or ws i []) ≤ 32
unfolding every
names-short [] e i = omega arith
names-short (w ∷ ws) e zero = is_name-short w (and_left (is_name w) (every is_name ws) e)
names-short (w ∷ ws) e (suc i) = names-short ws (and_right (is_name w) (every is_name ws) e) i

-- ---- an opening that passed the checks

pub checked : (x : Numbers) (ns : List (List ℕ)) (first second : List ℕ) → in_range x ≡ true → good_constants x first second ≡ true
    → good_names x.taxa ns ≡ true → GoodOpening (opening_with x ns first second)
checked x ns first second a b d =
    record { ranges = in-range x a; constants = constants x first second b; named = named x.taxa ns d }

module _ (o : Opening) (g : GoodOpening o) where
  pub few-first : length o.first ≤ 64
  few-first = omega (arith, g.constants.first-length, g.ranges.most-taxa)

  pub few-second : length o.second ≤ 64
  few-second = omega (arith, g.constants.second-length, g.ranges.most-taxa)

  pub first_fits : (i : ℕ) → get_or o.first i 0 < 65536
  first_fits i = omega (arith, first_below o g i, g.ranges.most-places, g.ranges.most-splits)

-- ---- the calls that write it

pub written-calls : (s t u v w z : List ℕ) (o : Opening) → t ≡ cleared s 0 head_bytes → u ≡ with_numbers t o.numbers
    → v ≡ with_names u 0 o.names → w ≡ puts 2 v 2128 o.first → z ≡ puts 8 w 2256 o.second → z ≡ written s o
unfolding written
written-calls s t u v w z o a b d e f =
    let p : u ≡ with_numbers (cleared s 0 head_bytes) o.numbers = b ∙ ap (λ (l : List ℕ). with_numbers l o.numbers) a in
    let q = d ∙ ap (λ (l : List ℕ). with_names l 0 o.names) p in
    f ∙ ap (λ (l : List ℕ). puts 8 l 2256 o.second) (e ∙ ap (λ (l : List ℕ). puts 2 l 2128 o.first) q)

module _ (s : List ℕ) (o : Opening) (g : GoodOpening o) (f : head_bytes ≤ length s) where
  -- ---- the lengths

  short : (i : ℕ) → length (get_or o.names i []) ≤ 32
  short = names-short o.names g.named.names

  clear-length : length (clear s) ≡ length s
  unfolding clear
  clear-length = cleared-length s 0 head_bytes

  -- without the flag
  abbrev five : List ℕ
  five = puts 2 (clear s) 0 (in_order o.numbers)

  numbered-length : length (numbered s o) ≡ length s
  unfolding numbered with_numbers
  numbered-length = put-length 2 five 14 o.numbers.kept ∙ puts-length 2 (in_order o.numbers) (clear s) 0 ∙ clear-length

  called-length : length (called s o) ≡ length s
  unfolding called
  called-length = names-length o.names (numbered s o) 0 ∙ numbered-length

  firsts-length : length (firsts s o) ≡ length s
  unfolding firsts
  firsts-length = puts-length 2 o.first (called s o) 2128 ∙ called-length

  pub written-length : length (written s o) ≡ length s
  unfolding written firsts called numbered clear
  written-length = puts-length 8 o.second (firsts s o) 2256 ∙ firsts-length

  -- ---- what each step leaves

  -- the constants lie behind the names
  to-called : (i : ℕ) → i < 2128 → get_or (written s o) i 0 ≡ get_or (called s o) i 0
  unfolding written firsts called numbered clear
  to-called i h =
      puts-outside 8 o.second (firsts s o) 2256 i (inl (omega arith)) ∙ puts-outside 2 o.first (called s o) 2128 i (inl h)

  -- the names lie behind the numbers
  to-numbered : (i : ℕ) → i < 16 → get_or (written s o) i 0 ≡ get_or (numbered s o) i 0
  unfolding called
  to-numbered i h = to-called i (omega arith) ∙ names-outside o.names (numbered s o) 0 i short (inl (omega arith))

  -- ---- the numbers

  numbers-below : (i : ℕ) → get_or (in_order o.numbers) i 0 < 256 ^ 2
  numbers-below zero = let r = g.ranges in omega arith
  numbers-below (suc zero) = let r = g.ranges in omega arith
  numbers-below (suc (suc zero)) = let r = g.ranges in omega arith
  numbers-below (suc (suc (suc zero))) = let r = g.ranges in omega arith
  numbers-below (suc (suc (suc (suc zero)))) = let r = g.ranges in omega arith
  numbers-below (suc (suc (suc (suc (suc i))))) = omega arith

  number_at : (i : ℕ) → i < 5 → number 2 (written s o) (0 + 2 * i) ≡ get_or (in_order o.numbers) i 0
  unfolding numbered with_numbers
  number_at i h =
      let l = clear-length in
      number_same 2 _ (numbered s o) _ (0 + 2 * i) (λ j m. to-numbered (0 + 2 * i + j) (omega arith))
      ∙ number-put-outside 2 2 five 14 o.numbers.kept (0 + 2 * i) (inl (omega arith))
      ∙ puts-at 2 (in_order o.numbers) (clear s) 0 i (omega arith) numbers-below h

  kept_at : number 2 (written s o) 14 ≡ o.numbers.kept
  unfolding numbered with_numbers
  kept_at =
      let l = puts-length 2 (in_order o.numbers) (clear s) 0 in
      let m = clear-length in
      let r = g.ranges in
      number_same 2 _ (numbered s o) 14 14 (λ j m. to-numbered (14 + j) (omega arith)) ∙ number_put 2 five 14 o.numbers.kept (omega arith) (omega arith)

  numbers-read : numbers_at (written s o) ≡ o.numbers
  unfolding numbers_at
  numbers-read =
      rw (
        number_at 0 (omega arith),
        number_at 1 (omega arith),
        number_at 2 (omega arith),
        number_at 3 (omega arith),
        number_at 4 (omega arith),
        kept_at,
      )

  pub written_none : (a : ℕ) → 10 ≤ a → a + 2 ≤ 14 → number 2 (written s o) a ≡ 0
  unfolding numbered with_numbers clear
  written_none a p q =
      number_same 2 _ (numbered s o) a a (λ j m. to-numbered (a + j) (omega arith))
      ∙ number-put-outside 2 2 five 14 o.numbers.kept a (inl (omega arith))
      ∙ number-puts-outside 2 2 (in_order o.numbers) (clear s) 0 a (inr (omega arith))
      ∙ number-cleared-inside s 0 head_bytes 2 a (omega arith) (omega arith) (omega arith)

  -- ---- the names and the constants

  taxa-read : (numbers_at (written s o)).taxa ≡ o.numbers.taxa
  taxa-read = ap (λ (x : Numbers). x.taxa) numbers-read

  called-lies : (i : ℕ) → i < length o.names → Lies (called s o) (0 + i) (get_or o.names i [])
  unfolding called
  called-lies i h =
      let r = g.ranges in
      let n = g.named.count in
      let m = numbered-length in
      names-lie o.names (numbered s o) 0 i short (omega arith) h

  name-read : (i : ℕ) → i < length o.names → name_at (written s o) i ≡ get_or o.names i []
  name-read i h =
      let r = g.ranges in
      let n = g.named.count in
      let l = written-length in
      let w = short i in
      let z : 0 + i ≡ i = omega arith in
      let p : Lies (called s o) i (get_or o.names i []) = rw z at (called-lies i h) in
      lies-name (written s o) i _ (lies-kept (called s o) _ i _ w (λ j a b. to-called j (omega arith)) p) (omega arith)

  names-read : names_at (written s o) ≡ o.names
  names-read =
      let n : length (names_at (written s o)) ≡ length o.names = listed-names (written s o) ∙ taxa-read ∙ sym g.named.count in
      let t = taxa-read in
      ext_get_or [] _ _ n (λ i h. names-at (written s o) i (omega (arith, listed-names (written s o))) ∙ name-read i (omega arith))

  first_read : first_at (written s o) ≡ o.first
  unfolding written firsts called numbered clear
  first_read =
      let r = g.ranges in
      let m = g.constants.first-length in
      let l = called-length in
      let k = listed-first (written s o) in
      let n : length (first_at (written s o)) ≡ length o.first = k ∙ taxa-read ∙ sym m in
      ext_get_or 0 _ _ n (λ i h.
      first-at (written s o) i (omega arith)
      ∙ number-puts-outside 8 2 o.second (firsts s o) 2256 (2128 + 2 * i) (inl (omega arith))
      ∙ puts-at 2 o.first (called s o) 2128 i (omega arith) (λ j. omega (arith, first_below o g j)) (omega arith))

  second-read : second_at (written s o) ≡ o.second
  unfolding written firsts called numbered clear
  second-read =
      let r = g.ranges in
      let m = g.constants.second-length in
      let l = firsts-length in
      let k = listed-second (written s o) in
      let n : length (second_at (written s o)) ≡ length o.second = k ∙ taxa-read ∙ sym m in
      ext_get_or 0 _ _ n (λ i h.
      second_at_lem (written s o) i (omega arith)
      ∙ puts-at 8 o.second (firsts s o) 2256 i (omega arith) (λ j. omega (arith, second_below o g j)) (omega arith))

  pub written-opening : opening_at (written s o) ≡ o
  unfolding opening_at
  written-opening = rw (numbers-read, names-read, first_read, second-read)

  -- ---- the bytes behind the head

  byte-kept : (i : ℕ) → head_bytes ≤ i → get_or (written s o) i 0 ≡ get_or s i 0
  unfolding written firsts called numbered with_numbers clear
  byte-kept i h =
      let r = g.ranges in
      let n = g.named.count in
      let a = g.constants.first-length in
      let b = g.constants.second-length in
      puts-outside 8 o.second (firsts s o) 2256 i (inr (omega arith))
      ∙ puts-outside 2 o.first (called s o) 2128 i (inr (omega arith))
      ∙ names-outside o.names (numbered s o) 0 i short (inr (omega arith))
      ∙ put-outside 2 five 14 o.numbers.kept i (inr (omega arith))
      ∙ puts-outside 2 (in_order o.numbers) (clear s) 0 i (inr (omega arith))
      ∙ cleared-outside s 0 head_bytes i (inr (omega arith))

  pub written-kept : drop head_bytes (written s o) ≡ drop head_bytes s
  written-kept =
      let l = written-length in
      ext_get_or 0 _ _ (simp length-drop (omega arith)) (λ i h. rw (get_or-drop, get_or-drop) (byte-kept (head_bytes + i) (omega arith)))
