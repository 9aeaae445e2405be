-- Laws of labels in quotes, and of the label that a name is written as.
--
--   in_quotes w           the bytes w as a label in quotes
--   quotes-read          which reads as w
--   quotes-label         and is a label, if w is one byte or more of those that may stand in quotes
--   one_name             what a label reads as, in quotes, names the taxon that the label names
--   one_label            and is a label
--   plain-name           as do, of a label without quotes, blanks for its underscores, in quotes
--   one-strain           so `L._lactis_12` and `'L. lactis 12'` name one taxon
--   name-label           a name is written as a label
--   name-reads           which reads as the name
--   name-closed, name-unended     quotes are closed behind it, and no text ends in it
--   name-length          it has 66 bytes at most
--   name-shorter         65, if the name is not 32 apostrophes
--   all_quotes            that name
--   quotes_at ns          its place among the names
--   other-shorter        of different names every other is written in 65 bytes at most
use Rattle.std.specs.Prelude.{ℕ, ◌+◌, ◌*◌, ◌≤◌, ◌<◌, ◌≡◌, ◌⊎◌, Bool, false, leb, eqb, get_or, replicate, if◌then◌else◌}
use Rattle.std.proofs.Common.{arith, ap, ap₂, ◌∙◌, inl, inr, length-append}
use Rattle.std.proofs.Math.Path.{refl, sym}
use Rattle.std.proofs.Math.Bool.{true, not}
use mathlib.Core.List.{List, [], ◌∷◌, ◌++◌, map}
use Rattle.std.proofs.Math.Option.{Option, none, some}
use Rattle.std.proofs.Math.ListN.{length, length-map}
use borrow.Author.Tests.{eqb-true, eqb-false, leb-true, le-leb, not-true}
use Rattle.trees.specs.Plain.{every, member, bytes}
use Rattle.trees.specs.Text.{apostrophe, is_label_byte, is_quoted_byte, turned, open_after, has_end, is_quoted, is_label, spaced, unquoted, read_as}
use Rattle.trees.specs.Names.{taxon_from, taxon_of, is_name, good_names}
use Rattle.trees.specs.Written.{doubled, wants_quotes, underscored, written_name}
use Rattle.theorems.specs.ListLaws.{equal_or_not, by-test, if-false, and_left, and_right, and-true, or_right, every-at, map_back}
use Rattle.theorems.specs.QuoteLaws.{other-turned, or-none, or-rest}
use Rattle.theorems.specs.LabelLaws.{plain_label, plain-reads, label-bytes, label-some, label-closed, label-unended}
use Rattle.theorems.specs.NameLaws.{mark_bytes, is_name-some, is_name-short, is_name-bytes, good-name, name-found}

-- ---- labels in quotes

abbrev pub in_quotes : List ℕ → List ℕ
in_quotes w = apostrophe ∷ (doubled w ++ apostrophe ∷ [])

doubled-read : (w : List ℕ) → unquoted true (doubled w ++ apostrophe ∷ []) ≡ w
unfolding doubled unquoted turned
doubled-read [] = refl
doubled-read (b ∷ w) = go (eqb b apostrophe) refl (doubled-read w)
  where
    go : (t : Bool) → eqb b apostrophe ≡ t → unquoted true (doubled w ++ apostrophe ∷ []) ≡ w → unquoted true ((if t then b ∷ b ∷ doubled w else b ∷ doubled w) ++ apostrophe ∷ []) ≡ b ∷ w
    go true e h =
        let q = eqb-true b apostrophe e in
        ap (λ (x : ℕ). unquoted true ((x ∷ x ∷ doubled w) ++ apostrophe ∷ [])) q ∙ ap₂ (λ (x : ℕ) (r : List ℕ). x ∷ r) (sym q) h
    go false e h = if-false _ _ e ∙ ap (λ (q : Bool). b ∷ unquoted q (doubled w ++ apostrophe ∷ [])) (other-turned true b e) ∙ ap (λ (r : List ℕ). b ∷ r) h

pub quotes-read : (w : List ℕ) → read_as (in_quotes w) ≡ w
unfolding read_as
quotes-read w = doubled-read w

doubled-quoted : (w : List ℕ) → every is_quoted_byte w ≡ true → is_quoted true (doubled w ++ apostrophe ∷ []) ≡ true
unfolding doubled is_quoted turned every
doubled-quoted [] e = refl
doubled-quoted (b ∷ w) e = go (eqb b apostrophe) refl (doubled-quoted w (and_right (is_quoted_byte b) (every is_quoted_byte w) e))
  where
    go : (t : Bool) → eqb b apostrophe ≡ t → is_quoted true (doubled w ++ apostrophe ∷ []) ≡ true → is_quoted true ((if t then b ∷ b ∷ doubled w else b ∷ doubled w) ++ apostrophe ∷ []) ≡ true
    go true q h = ap (λ (x : ℕ). is_quoted true ((x ∷ x ∷ doubled w) ++ apostrophe ∷ [])) (eqb-true b apostrophe q) ∙ h
    go false q h =
        and-true (or_right (eqb b apostrophe) (is_quoted_byte b) (and_left (is_quoted_byte b) (every is_quoted_byte w) e))
        (ap (λ (p : Bool). is_quoted p (doubled w ++ apostrophe ∷ [])) (other-turned true b q) ∙ h)

doubled-least : (w : List ℕ) → length w ≤ length (doubled w)
unfolding doubled
doubled-least [] = omega arith
doubled-least (b ∷ w) =
    let h = doubled-least w in
    by-test (λ (k : List ℕ). length (b ∷ w) ≤ length k) (eqb b apostrophe) (λ e. omega arith) (λ e. omega arith)

quotes-length : (w : List ℕ) → length (in_quotes w) ≡ length (doubled w) + 2
quotes-length w = omega (arith, length-append (doubled w) (apostrophe ∷ []))

pub quotes-label : (w : List ℕ) → 1 ≤ length w → every is_quoted_byte w ≡ true → is_label (in_quotes w) ≡ true
unfolding is_label
quotes-label w l e = and-true (le-leb 2 (length (doubled w ++ apostrophe ∷ [])) (omega (arith, doubled-least w, length-append (doubled w) (apostrophe ∷ [])))) (doubled-quoted w e)

-- ---- two labels of one taxon

pub one_name : (ns : List (List ℕ)) (w : List ℕ) → taxon_of ns (in_quotes (read_as w)) ≡ taxon_of ns w
unfolding taxon_of
one_name ns w = ap (taxon_from 0 ns) (quotes-read (read_as w))

pub one_label : (w : List ℕ) → is_label w ≡ true → is_label (in_quotes (read_as w)) ≡ true
one_label w e = quotes-label (read_as w) (label-some w e) (label-bytes w e)

-- without quotes: blanks for its underscores, in quotes
pub plain-name : (ns : List (List ℕ)) (w : List ℕ) → every is_label_byte w ≡ true → taxon_of ns (in_quotes (map spaced w)) ≡ taxon_of ns w
plain-name ns w e = ap (λ (v : List ℕ). taxon_of ns (in_quotes v)) (sym (plain-reads w e)) ∙ one_name ns w

pub one-strain : (ns : List (List ℕ)) → taxon_of ns (bytes "L._lactis_12") ≡ taxon_of ns (bytes "'L. lactis 12'")
unfolding taxon_of read_as bytes
one-strain ns = refl

-- ---- a name that is written without quotes

-- no underscore, and none of the marks
module _ (b : ℕ) (p : not (wants_quotes b) ≡ true) where
  no-underscore : eqb b 95 ≡ false
  unfolding wants_quotes member bytes
  no-underscore = or-none (eqb b 95) (member b mark_bytes) (not-true (wants_quotes b) p)

  no-mark : member b mark_bytes ≡ false
  unfolding wants_quotes member bytes
  no-mark = or-rest (eqb b 95) (member b mark_bytes) (not-true (wants_quotes b) p)

  underscored-reads : spaced (underscored b) ≡ b
  unfolding spaced underscored
  underscored-reads = by-test (λ (x : ℕ). spaced x ≡ b) (eqb b 32) (λ e. sym (eqb-true b 32 e)) (λ e. if-false 32 b no-underscore)

  underscored-label : is_quoted_byte b ≡ true → is_label_byte (underscored b) ≡ true
  unfolding underscored is_quoted_byte is_label_byte
  underscored-label h =
      by-test (λ (x : ℕ). is_label_byte x ≡ true) (eqb b 32) (λ e. underscore-label)
      (λ e. and-true (le-leb 33 b (omega (arith, eqb-false b 32 e, leb-true 32 b (and_left (leb 32 b) _ h)))) (and-true (and_right (leb 32 b) (leb b 126) h) (ap not no-mark)))
    where
      underscore-label : is_label_byte 95 ≡ true
      underscore-label = refl

-- a byte that is written as it is, or as an underscore
abbrev is_plain : ℕ → Bool
is_plain b = not (wants_quotes b)

plain-written : (w : List ℕ) → every is_quoted_byte w ≡ true → every is_plain w ≡ true → every is_label_byte (map underscored w) ≡ true
unfolding every
plain-written [] e p = refl
plain-written (b ∷ w) e p =
    and-true (underscored-label b (and_left (is_plain b) (every is_plain w) p) (and_left (is_quoted_byte b) (every is_quoted_byte w) e))
    (plain-written w (and_right (is_quoted_byte b) (every is_quoted_byte w) e) (and_right (is_plain b) (every is_plain w) p))

plain_back : (w : List ℕ) → every is_plain w ≡ true → map spaced (map underscored w) ≡ w
plain_back w p = map_back underscored spaced w (λ b m. underscored-reads b (every-at is_plain w p b m))

-- ---- names

module _ (w : List ℕ) (h : is_name w ≡ true) where
  pub name-label : is_label (written_name w) ≡ true
  unfolding written_name
  name-label =
      by-test (λ (v : List ℕ). is_label v ≡ true) (every is_plain w)
      (λ p. plain_label (map underscored w) (omega (arith, is_name-some w h, length-map w underscored)) (plain-written w (is_name-bytes w h) p))
      (λ p. quotes-label w (is_name-some w h) (is_name-bytes w h))

  pub name-reads : read_as (written_name w) ≡ w
  unfolding written_name
  name-reads =
      by-test (λ (v : List ℕ). read_as v ≡ w) (every is_plain w)
      (λ p. plain-reads (map underscored w) (plain-written w (is_name-bytes w h) p) ∙ plain_back w p) (λ p. quotes-read w)

  pub name-closed : open_after false (written_name w) ≡ false
  name-closed = label-closed (written_name w) name-label

  pub name-unended : has_end false (written_name w) ≡ false
  name-unended = label-unended (written_name w) name-label

-- ---- their lengths

doubled-most : (w : List ℕ) → length (doubled w) ≤ 2 * length w
unfolding doubled
doubled-most [] = omega arith
doubled-most (b ∷ w) =
    let h = doubled-most w in
    by-test (λ (k : List ℕ). length k ≤ 2 * length (b ∷ w)) (eqb b apostrophe) (λ e. omega arith) (λ e. omega arith)

-- one byte less, if a byte is no quote
doubled-less : (w : List ℕ) → (w ≡ replicate (length w) apostrophe → ⊥) → length (doubled w) + 1 ≤ 2 * length w
unfolding doubled
doubled-less [] f = absurd (f refl)
doubled-less (b ∷ w) f =
    by-test (λ (k : List ℕ). length k + 1 ≤ 2 * length (b ∷ w)) (eqb b apostrophe)
    (λ e. let h = doubled-less w (λ g. f (ap₂ (λ (x : ℕ) (r : List ℕ). x ∷ r) (eqb-true b apostrophe e) g)) in omega arith) (λ e. let h = doubled-most w in omega arith)

-- the one name that is written in 66 bytes
abbrev pub all_quotes : List ℕ
all_quotes = replicate 32 apostrophe

module _ (w : List ℕ) (h : is_name w ≡ true) where
  pub name-length : length (written_name w) ≤ 66
  unfolding written_name
  name-length =
      let s = is_name-short w h in
      by-test (λ (v : List ℕ). length v ≤ 66) (every is_plain w) (λ p. omega (arith, length-map w underscored)) (λ p. omega (arith, quotes-length w, doubled-most w))

  doubled-other : (w ≡ all_quotes → ⊥) → length (doubled w) ≤ 63
  doubled-other f = go (equal_or_not (length w) 32)
    where
      go : (length w ≡ 32) ⊎ (length w ≡ 32 → ⊥) → length (doubled w) ≤ 63
      go (inl e) = omega (arith, doubled-less w (λ g. f (g ∙ ap (λ (k : ℕ). replicate k apostrophe) e)))
      go (inr e) = omega (arith, is_name-short w h, doubled-most w)

  pub name-shorter : (w ≡ all_quotes → ⊥) → length (written_name w) ≤ 65
  unfolding written_name
  name-shorter f =
      let s = is_name-short w h in
      by-test (λ (v : List ℕ). length v ≤ 65) (every is_plain w) (λ p. omega (arith, length-map w underscored)) (λ p. omega (arith, quotes-length w, doubled-other f))

-- ---- of different names

or_first : Option ℕ → ℕ
or_first none = 0
or_first (some i) = i

-- 0 if it is not among them
unfoldable pub quotes_at : List (List ℕ) → ℕ
unfolding or_first
quotes_at ns = or_first (taxon_of ns (in_quotes all_quotes))

pub other-shorter : (n : ℕ) (ns : List (List ℕ)) → good_names n ns ≡ true → (i : ℕ) → i < length ns → (i ≡ quotes_at ns → ⊥) → length (written_name (get_or ns i [])) ≤ 65
unfolding quotes_at or_first
other-shorter n ns h i l f =
    name-shorter (get_or ns i []) (good-name n ns h i l) (λ e. f (sym (ap or_first (name-found n ns h i l (in_quotes all_quotes) (quotes-read all_quotes ∙ sym e)))))
