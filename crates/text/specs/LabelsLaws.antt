-- The laws of labels as they are read. Assumes nothing.
--
--   opens-there, opens-none           whether bytes begin with a quote
--   quoted-reads, unquoted-reads      what a label is read as, by its first byte
--   quoted-other                      one in quotes never reads as its own bytes
--   plain-not, plain_byte             one byte of a label without quotes
--   plain_from s i e                   the bytes of s from i up to e read as themselves, without quotes
--   plain-all, plain_more, plain_end      a label without quotes, a byte at a time
--   spaced-more, spaced-end, quote-drops, quote-keeps, quoted-end     a byte more of what is read, and the last
--   reading-start, reading-left, reading-more, reading-full, reading-end     a reading, a byte at a time
--   read-room                         it keeps the length of what it is stored in
--   read-over, read-slice             what the answer says: the bytes are too many, or where they stand
use Rattle.std.specs.Prelude.{ℕ, suc, ◌+◌, ◌-◌, ◌≤◌, ◌<◌, ◌≡◌, refl, ◌⊎◌, Bool, false, ◌&&◌, length, set, take, drop}
use Rattle.std.proofs.Common.{add-one, add-zero, arith, ap₂, ◌∙◌, inl, inr, true≢false, length-set, length-append, take_all, take_at, drop_at, length-take-le, eq-eqb, ne_eqb}
use Rattle.std.proofs.Math.Path.{ap, sym}
use Rattle.std.proofs.Math.Bool.{true, not}
use mathlib.Core.List.{List, [], ◌∷◌, ◌++◌, map}
use Rattle.std.proofs.Math.Dec.{eqb}
use Rattle.std.proofs.Math.ListN.{get_or}
use Rattle.std.proofs.Math.Seq.{slice, length-sets, take-nil, slice-cons, slice_empty}
use Rattle.std.proofs.lemmas.List.Edits.{sets, sets-eq}
use Rattle.trees.specs.Plain.{same_bytes}
use Rattle.trees.specs.Text.{apostrophe, turned, spaced, unquoted, read_as}
use Rattle.theorems.specs.ListLaws.{less-or-not, by-test, if-true, if-false, and_left, and_right}
use Rattle.theorems.specs.NameLaws.{same_true, test-fails}
use Rattle.text.specs.Labels.{opens_quotes, ReadUpTo, Reading}

none_left : (s : List ℕ) (b e : ℕ) → b ≤ e → e ≤ b → slice b e s ≡ []
none_left s b e l h =
    let z : b ≡ e = omega arith in
    rw z (slice_empty e s)

-- ---- by the first byte

module _ (s : List ℕ) (b e : ℕ) where
  pub opens-there : b < e → e ≤ length s → eqb (get_or s b 0) apostrophe ≡ opens_quotes (slice b e s)
  unfolding opens_quotes
  opens-there h l = sym (ap opens_quotes (slice-cons b e s 0 h l))

  pub opens-none : e ≤ b → b ≤ e → false ≡ opens_quotes (slice b e s)
  unfolding opens_quotes
  opens-none h l = sym (ap opens_quotes (none_left s b e l h))

  -- behind the quote
  pub quoted-reads : b ≤ e → e ≤ length s → opens_quotes (slice b e s) ≡ true → (b < e) × (read_as (slice b e s) ≡ unquoted true (slice (b + 1) e s))
  unfolding read_as
  quoted-reads h l o =
      let q : b < e = go (less-or-not b e) in
      let c : slice b e s ≡ get_or s b 0 ∷ slice (suc b) e s = slice-cons b e s 0 q l in
      (q, ap read_as c ∙ if-true (unquoted true (slice (suc b) e s)) (map spaced (get_or s b 0 ∷ slice (suc b) e s)) (opens-there q l ∙ o) ∙ rw (add-one b))
    where
      go : (b < e) ⊎ (e ≤ b) → b < e
      go (inl m) = m
      go (inr m) = absurd (true≢false (sym o ∙ sym (opens-none m h)))

pub unquoted-reads : (w : List ℕ) → opens_quotes w ≡ false → read_as w ≡ map spaced w
unfolding read_as opens_quotes
unquoted-reads [] e = refl
unquoted-reads (b ∷ w) e = if-false (unquoted true w) (map spaced (b ∷ w)) e

-- ---- labels that read as their own bytes

unquoted-length : (q : Bool) (w : List ℕ) → length (unquoted q w) ≤ length w
unfolding unquoted
unquoted-length q [] = omega arith
unquoted-length q (b ∷ w) =
    let h = unquoted-length (turned q b) w in
    by-test (λ (v : List ℕ). length v ≤ suc (length w)) (q && eqb b apostrophe) (λ e. omega arith) (λ e. omega arith)

pub quoted-other : (w : List ℕ) → opens_quotes w ≡ true → same_bytes (read_as w) w ≡ false
unfolding opens_quotes read_as
quoted-other [] e = absurd (true≢false (sym e))
quoted-other (b ∷ w) e =
    test-fails (same_bytes (read_as (b ∷ w)) (b ∷ w)) (λ s.
    omega (arith, ap length (sym (if-true (unquoted true w) (map spaced (b ∷ w)) e) ∙ same_true (read_as (b ∷ w)) (b ∷ w) s), unquoted-length true w))

and_none : (p : Bool) → p && false ≡ false
and_none true = refl
and_none false = refl

and-all : (p : Bool) → p && true ≡ p
and-all true = refl
and-all false = refl

and_assoc : (p q r : Bool) → p && (q && r) ≡ (p && q) && r
and_assoc true q r = refl
and_assoc false q r = refl

module _ (b : ℕ) (p : Bool) where
  pub plain-not : b ≡ 95 → false ≡ p && eqb (spaced b) b
  unfolding spaced
  plain-not e = sym (ap (λ (x : ℕ). p && eqb (spaced x) x) e ∙ and_none p)

  pub plain_byte : (b ≡ 95 → ⊥) → p ≡ p && eqb (spaced b) b
  unfolding spaced
  plain_byte n = sym (ap (λ (t : Bool). p && t) (eq-eqb _ _ (if-false 32 b (ne_eqb b 95 n))) ∙ and-all p)

unfoldable pub plain_from : List ℕ → ℕ → ℕ → Bool
plain_from s i e = same_bytes (map spaced (slice i e s)) (slice i e s)

module _ (s : List ℕ) (e : ℕ) where
  pub plain-all : (b : ℕ) → opens_quotes (slice b e s) ≡ false → same_bytes (read_as (slice b e s)) (slice b e s) ≡ plain_from s b e
  unfolding plain_from
  plain-all b o = ap (λ (v : List ℕ). same_bytes v (slice b e s)) (unquoted-reads (slice b e s) o)

  pub plain_more : (i : ℕ) (p r : Bool) → i < e → e ≤ length s → r ≡ p && eqb (spaced (get_or s i 0)) (get_or s i 0) → p && plain_from s i e ≡ r && plain_from s (i + 1) e
  unfolding plain_from same_bytes
  plain_more i p r h l t =
      ap (λ (w : List ℕ). p && same_bytes (map spaced w) w) (slice-cons i e s 0 h l)
      ∙ and_assoc p (eqb (spaced (get_or s i 0)) (get_or s i 0)) (plain_from s (suc i) e)
      ∙ rw (add-one i, t)

  pub plain_end : (i : ℕ) (p : Bool) → i ≤ e → e ≤ i → p && plain_from s i e ≡ p
  unfolding plain_from same_bytes
  plain_end i p h l = ap (λ (w : List ℕ). p && same_bytes (map spaced w) w) (none_left s i e h l) ∙ and-all p

-- ---- a byte more of what is read

module _ (s : List ℕ) (i e : ℕ) where
  pub spaced-more : (x : ℕ) → i < e → e ≤ length s → x ≡ spaced (get_or s i 0) → map spaced (slice i e s) ≡ x ∷ map spaced (slice (i + 1) e s)
  spaced-more x h l p = ap (map spaced) (slice-cons i e s 0 h l) ∙ rw (add-one i, p)

  pub spaced-end : i ≤ e → e ≤ i → map spaced (slice i e s) ≡ []
  spaced-end h l = ap (map spaced) (none_left s i e h l)

  module _ (q : Bool) where
    pub quote-drops : i < e → e ≤ length s → q && eqb (get_or s i 0) apostrophe ≡ true → unquoted q (slice i e s) ≡ unquoted false (slice (i + 1) e s)
    unfolding unquoted turned
    quote-drops h l d =
        ap (unquoted q) (slice-cons i e s 0 h l)
        ∙ if-true _ _ d
        ∙ ap (λ (t : Bool). unquoted t (slice (suc i) e s)) (if-true (not q) q (and_right q _ d) ∙ ap not (and_left q _ d))
        ∙ rw (add-one i)

    pub quote-keeps : (t : Bool) → i < e → e ≤ length s → q && eqb (get_or s i 0) apostrophe ≡ false → t ≡ turned q (get_or s i 0)
        → unquoted q (slice i e s) ≡ get_or s i 0 ∷ unquoted t (slice (i + 1) e s)
    unfolding unquoted
    quote-keeps t h l d p = ap (unquoted q) (slice-cons i e s 0 h l) ∙ if-false _ _ d ∙ rw (add-one i, p)

    pub quoted-end : i ≤ e → e ≤ i → unquoted q (slice i e s) ≡ []
    unfolding unquoted
    quoted-end h l = ap (unquoted q) (none_left s i e h l)

-- ---- a reading, a byte at a time

pub reading-start : (most : ℕ) (before : List ℕ) (at : ℕ) (w : List ℕ) → Reading most before at w before 0 w
reading-start most before at w =
    let z : most - 0 ≡ most = omega arith in
    record { room = refl; within = omega arith; stored = rw (add-zero at, z); counted = omega arith }

module _ {most : ℕ} {before : List ℕ} {at : ℕ} {w out : List ℕ} {n : ℕ} {v : List ℕ} (r : Reading most before at w out n v) where
  -- what is left, as another sees it
  pub reading-left : {u : List ℕ} → v ≡ u → Reading most before at w out n u
  reading-left e = record { room = r.room; within = r.within; stored = rw (← e) r.stored; counted = rw (← e) r.counted }

  pub reading-more : {x : ℕ} {u : List ℕ} → v ≡ x ∷ u → (n ≡ most → ⊥) → Reading most before at w (set out (at + n) x) (n + 1) u
  reading-more {x} {u} e f =
      let m : n < most = omega (arith, r.within, f) in
      let d : most - n ≡ suc (most - (n + 1)) = omega arith in
      let p : suc (at + n) ≡ at + (n + 1) = omega arith in
      record {
        room = length-set out (at + n) x ∙ r.room;
        within = omega arith;
        stored = r.stored
            ∙ ap₂ (λ (k : ℕ) (l : List ℕ). sets out (at + n) (take k l)) d e
            ∙ ap (λ (k : ℕ). sets (set out (at + n) x) k (take (most - (n + 1)) u)) p;
        counted = omega (arith, r.counted, ap length e);
      }

  pub reading-full : {x : ℕ} {u : List ℕ} → v ≡ x ∷ u → n ≡ most → ReadUpTo most before at w (most + 1) out
  reading-full e f =
      let z : most - n ≡ 0 = omega arith in
      record { stored = sym (r.stored ∙ ap (λ (k : ℕ). sets out (at + n) (take k v)) z); counted = omega (arith, r.counted, ap length e) }

  pub reading-end : v ≡ [] → ReadUpTo most before at w n out
  reading-end e = record {
    stored = sym (r.stored ∙ ap (λ (l : List ℕ). sets out (at + n) (take (most - n) l)) e ∙ ap (sets out (at + n)) (take-nil (most - n)));
    counted = omega (arith, r.counted, r.within, ap length e);
  }

-- ---- what the answer says

module _ {most : ℕ} {before : List ℕ} {at : ℕ} {w : List ℕ} {r : ℕ} {after : List ℕ} (x : ReadUpTo most before at w r after) where
  pub read-room : length after ≡ length before
  read-room = ap length x.stored ∙ length-sets before at (take most w)

  pub read-over : most < r → most < length w
  read-over h = omega (arith, x.counted)

  read_length : r ≤ most → r ≡ length w
  read_length h = omega (arith, x.counted)

  read_all : r ≤ most → after ≡ sets before at w
  read_all h = x.stored ∙ ap (sets before at) (take_all most w (omega (arith, read_length h)))

  pub read-slice : r ≤ most → at + most ≤ length before → slice at (at + r) after ≡ w
  read-slice h l =
      let n = read_length h in
      let p = take at before in
      let k : length p ≡ at = length-take-le at before (omega arith) in
      ap (slice at (at + r)) (read_all h ∙ sets-eq w before at (omega arith))
      ∙ ap (drop at) (take_at (p ++ w) (drop (at + length w) before) (at + r) (omega (arith, length-append p w, k, n)))
      ∙ drop_at p w at k
