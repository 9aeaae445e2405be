-- The laws of the test of names in their places. Assumes nothing.
--
--   good-not, good-names       the test, in two parts
--   different-more, different-not, different-end     one turn of the loop over the names
--   again-here, again-next, again-end                one turn of the loop over the names behind one
--   name-run                   a name, whose length was read
--   short-not, long-not, name-bytes     whether it is one
--   quoted-more, quoted-not, quoted-end     its bytes
--   same_pointwise             two runs of bytes, as the library compares them
use Rattle.std.specs.Prelude.{refl, ◌∷◌, ℕ, ◌+◌, ◌*◌, ◌≤◌, ◌<◌, ◌≡◌, true, false, ◌&&◌, ◌||◌, not, length, get_or, drop}
use Rattle.std.proofs.Math.Numerals.{add-one}
use Rattle.std.proofs.Common.{arith, ap, ◌∙◌, drop_of_length-le, drop-cons}
use mathlib.Core.List.{List, []}
use Rattle.std.proofs.Math.Seq.{slice, slice-cons, slice_empty, length-slice}
use borrow.Author.Tests.{le-leb, lt-leb, eq-eqb}
use lib.Pointwise.{pointwise}
use lib.Dec.{eqb}
use Rattle.trees.specs.Plain.{every, same_bytes, in_names}
use Rattle.trees.specs.Text.{is_quoted_byte}
use Rattle.trees.specs.Names.{is_name, different, good_names}
use Rattle.head.specs.Head.{name_at}
use Rattle.head.specs.HeadLaws.{up_to-length, name-slice}
use Rattle.opening.specs.Places.{first_names}

-- ---- the test, in two parts

module _ (n : ℕ) (s : List ℕ) where
  pub good-not : every is_name (first_names n s) ≡ false → good_names n (first_names n s) ≡ false
  unfolding good_names
  good-not e = rw (eq-eqb _ _ (up_to-length (name_at s) n), e)

  pub good-names : every is_name (first_names n s) ≡ true → good_names n (first_names n s) ≡ different (first_names n s)
  unfolding good_names
  good-names e = rw (eq-eqb _ _ (up_to-length (name_at s) n), e)

-- ---- the names, one by one

module _ (ns : List (List ℕ)) (i : ℕ) where
  different-cons : i < length ns → different (drop i ns) ≡ (not (in_names (get_or ns i []) (drop (i + 1) ns)) && different (drop (i + 1) ns))
  unfolding different
  different-cons h = rw (drop-cons ns i [] h, add-one i)

  pub different-more : i < length ns → in_names (get_or ns i []) (drop (i + 1) ns) ≡ false → different (drop i ns) ≡ different (drop (i + 1) ns)
  different-more h e = different-cons h ∙ rw e

  pub different-not : i < length ns → in_names (get_or ns i []) (drop (i + 1) ns) ≡ true → different (drop i ns) ≡ false
  different-not h e = different-cons h ∙ rw e

  pub different-end : length ns ≤ i → different (drop i ns) ≡ true
  unfolding different
  different-end h = rw (drop_of_length-le ns h)

  module _ (w : List ℕ) where
    again-cons : i < length ns → in_names w (drop i ns) ≡ (same_bytes (get_or ns i []) w || in_names w (drop (i + 1) ns))
    unfolding in_names
    again-cons h = rw (drop-cons ns i [] h, add-one i)

    pub again-here : i < length ns → same_bytes (get_or ns i []) w ≡ true → in_names w (drop i ns) ≡ true
    again-here h e = again-cons h ∙ rw e

    pub again-next : i < length ns → same_bytes (get_or ns i []) w ≡ false → in_names w (drop i ns) ≡ in_names w (drop (i + 1) ns)
    again-next h e = again-cons h ∙ rw e

    pub again-end : length ns ≤ i → in_names w (drop i ns) ≡ false
    unfolding in_names
    again-end h = rw (drop_of_length-le ns h)

-- ---- one name, whose length was read

module _ (s : List ℕ) (i n : ℕ) (q : n ≡ get_or s (16 + 33 * i) 0) where
  pub name-run : name_at s i ≡ slice (17 + 33 * i) (17 + 33 * i + n) s
  name-run = name-slice s i ∙ rw (← q)

  module _ (f : 17 + 33 * i + n ≤ length s) where
    name-size : length (name_at s i) ≡ n
    name-size = let l = length-slice (17 + 33 * i) (17 + 33 * i + n) s f in omega (arith, ap length name-run)

    pub short-not : n < 1 → is_name (name_at s i) ≡ false
    unfolding is_name
    short-not h = let l = name-size in rw (lt-leb 1 (length (name_at s i)) (omega arith))

    pub long-not : 32 < n → is_name (name_at s i) ≡ false
    unfolding is_name
    long-not h = let l = name-size in rw (le-leb 1 (length (name_at s i)) (omega arith), lt-leb (length (name_at s i)) 32 (omega arith))

    pub name-bytes : 1 ≤ n → n ≤ 32 → is_name (name_at s i) ≡ every is_quoted_byte (slice (17 + 33 * i) (17 + 33 * i + n) s)
    unfolding is_name
    name-bytes k h =
        let l = name-size in
        rw (le-leb 1 (length (name_at s i)) (omega arith), le-leb (length (name_at s i)) 32 (omega arith)) (ap (every is_quoted_byte) name-run)

-- ---- runs of bytes

pub same_pointwise : (v w : List ℕ) → pointwise eqb v w ≡ same_bytes v w
unfolding same_bytes
same_pointwise [] [] = refl
same_pointwise [] (y ∷ w) = refl
same_pointwise (x ∷ v) [] = refl
same_pointwise (x ∷ v) (y ∷ w) = ap (λ b. eqb x y && b) (same_pointwise v w)

-- ---- the bytes of a name in quotes

module _ (s : List ℕ) (b e : ℕ) (h : e ≤ length s) where
  quoted-cons : b < e → every is_quoted_byte (slice b e s) ≡ (is_quoted_byte (get_or s b 0) && every is_quoted_byte (slice (b + 1) e s))
  unfolding every
  quoted-cons l = rw (slice-cons b e s 0 l h, add-one b)

  pub quoted-more : b < e → is_quoted_byte (get_or s b 0) ≡ true → every is_quoted_byte (slice b e s) ≡ every is_quoted_byte (slice (b + 1) e s)
  quoted-more l q = quoted-cons l ∙ rw q

  pub quoted-not : b < e → is_quoted_byte (get_or s b 0) ≡ false → every is_quoted_byte (slice b e s) ≡ false
  quoted-not l q = quoted-cons l ∙ rw q

pub quoted-end : (s : List ℕ) (b e : ℕ) → b ≡ e → every is_quoted_byte (slice b e s) ≡ true
unfolding every
quoted-end s b e q = rw (q, slice_empty e s)
