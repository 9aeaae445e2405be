-- Laws of a piece that is walked by bytes and by blocks. Assumes nothing.
--
--   open_step, open_none                  quotes behind the rest of a piece: a byte more, and nothing left
--   end-here, end_more, end_none          how many bytes of the rest stand before the first end
--   texts-here, texts-more, texts-none    how many texts the rest ends
--   open-rest, end_rest, end_before, texts-rest     the same of the rest of a piece from i on, in two: up to j, and from there
--   rest_all           all of the rest
--   found_here, found-more, found_none    whether a byte stands in a piece, so far and in the rest
--   plain_end          without a semicolon all stands before the end
--   plain_here, plain_more, quoted-none   without an apostrophe the semicolons count, or none does
use Prim.Native.Nat.{ℕ, suc, ◌+◌, ◌-◌, ◌≤◌, ◌<◌}
use native.Mathlib.Numerals.{add-one}
use native.Mathlib.Omega.{arith}
use mathlib.Core.Path.{◌≡◌, refl, sym, ap, subst, ◌∙◌}
use mathlib.Core.Bool.{Bool, true, false, ◌&&◌, ◌||◌, not, and-false}
use mathlib.Core.List.{List, [], ◌∷◌, ◌++◌}
use lib.Dec.{eqb}
use lib.ListN.{length, get_or, take, drop, length-append, length-drop, drop_of_length-le, take-append-drop}
use lib.Seq.{drop-cons, drop-drop, take_all, length-take-le}
use borrow.Author.Tests.{eqb-false, eq-eqb, ne_eqb}
use Rattle.trees.specs.Plain.{member}
use Rattle.trees.specs.Text.{semicolon, apostrophe, turned, open_after, ends_text, has_end, before_end}
use Rattle.trees.specs.Batch.{texts_in}
use Rattle.theorems.specs.ListLaws.{if-true, if-false, Mem, mem-get_d, not-member}
use Rattle.theorems.specs.QuoteLaws.{open-append, other-turned, end-turned, or-none, or-rest, before-all}
use Rattle.text.specs.EndLaws.{before-left, before-right, texts-append, ended, unended}

-- ---- a byte more

module _ (p : List ℕ) (i : ℕ) (q : Bool) where
  abbrev b : ℕ
  b = get_or p i 0

  module _ (h : i < length p) where
    rest-is : drop i p ≡ b ∷ drop (i + 1) p
    rest-is = rw (drop-cons p i 0 h, add-one i)

    pub open_step : open_after q (drop i p) ≡ open_after (turned q b) (drop (i + 1) p)
    unfolding open_after
    open_step = ap (open_after q) rest-is

    pub end-here : ends_text q b ≡ true → length (before_end q (drop i p)) ≡ 0
    unfolding before_end
    end-here e = ap (λ (l : List ℕ). length (before_end q l)) rest-is ∙ ap length (if-true [] (b ∷ before_end (turned q b) (drop (i + 1) p)) e)

    pub end_more : ends_text q b ≡ false → length (before_end q (drop i p)) ≡ suc (length (before_end (turned q b) (drop (i + 1) p)))
    unfolding before_end
    end_more e = ap (λ (l : List ℕ). length (before_end q l)) rest-is ∙ ap length (if-false [] (b ∷ before_end (turned q b) (drop (i + 1) p)) e)

    pub texts-here : ends_text q b ≡ true → texts_in q (drop i p) ≡ suc (texts_in (turned q b) (drop (i + 1) p))
    unfolding texts_in
    texts-here e = ap (texts_in q) rest-is ∙ if-true (suc (texts_in (turned q b) (drop (i + 1) p))) (texts_in (turned q b) (drop (i + 1) p)) e

    pub texts-more : ends_text q b ≡ false → texts_in q (drop i p) ≡ texts_in (turned q b) (drop (i + 1) p)
    unfolding texts_in
    texts-more e = ap (texts_in q) rest-is ∙ if-false (suc (texts_in (turned q b) (drop (i + 1) p))) (texts_in (turned q b) (drop (i + 1) p)) e

  module _ (h : length p ≤ i) where
    pub open_none : open_after q (drop i p) ≡ q
    unfolding open_after
    open_none = ap (open_after q) (drop_of_length-le p h)

    pub end_none : length (before_end q (drop i p)) ≡ 0
    unfolding before_end
    end_none = ap (λ (l : List ℕ). length (before_end q l)) (drop_of_length-le p h)

    pub texts-none : texts_in q (drop i p) ≡ 0
    unfolding texts_in
    texts-none = ap (texts_in q) (drop_of_length-le p h)

-- ---- the rest of a piece, in two

module _ (p : List ℕ) (q : Bool) (i j : ℕ) (h : i ≤ j) where
  abbrev part : List ℕ
  part = take (j - i) (drop i p)

  rest-parts : drop i p ≡ part ++ drop j p
  rest-parts =
      let n : i + (j - i) ≡ j = omega arith in
      sym (take-append-drop (j - i) (drop i p)) ∙ ap (λ (l : List ℕ). part ++ l) (drop-drop (j - i) i p ∙ ap (λ (k : ℕ). drop k p) n)

  pub open-rest : open_after q (drop i p) ≡ open_after (open_after q part) (drop j p)
  open-rest = ap (open_after q) rest-parts ∙ open-append q part (drop j p)

  module _ (g : j ≤ length p) where
    part_length : length part ≡ j - i
    part_length = length-take-le (j - i) (drop i p) (omega (arith, length-drop i p))

    pub end_rest : j ≤ i + length (before_end q part) → i + length (before_end q (drop i p)) ≡ j + length (before_end (open_after q part) (drop j p))
    end_rest e =
        let u = unended q part (omega (arith, part_length)) in
        let l = ap length (ap (before_end q) rest-parts ∙ before-right q part (drop j p) u) in
        omega (arith, l, length-append part (before_end (open_after q part) (drop j p)), part_length)

    pub end_before : i + length (before_end q part) < j → length (before_end q (drop i p)) ≡ length (before_end q part)
    end_before e = ap length (ap (before_end q) rest-parts ∙ before-left q part (drop j p) (ended q part (omega (arith, part_length))))

  pub texts-rest : texts_in q (drop i p) ≡ texts_in q part + texts_in (open_after q part) (drop j p)
  texts-rest = ap (texts_in q) rest-parts ∙ texts-append q part (drop j p)

-- as it is lent
pub rest_all : (p : List ℕ) (i : ℕ) → take (length p - i) (drop i p) ≡ drop i p
rest_all p i = take_all (length p - i) (drop i p) (omega (arith, length-drop i p))

-- ---- whether a byte stands in a piece

or-true : (t : Bool) → (t || true) ≡ true
or-true true = refl
or-true false = refl

or-false : (t : Bool) → (t || false) ≡ t
or-false true = refl
or-false false = refl

module _ (b : ℕ) (p : List ℕ) (i : ℕ) where
  member-cons : i < length p → member b (drop i p) ≡ (eqb b (get_or p i 0) || member b (drop (i + 1) p))
  unfolding member
  member-cons h = rw (drop-cons p i 0 h, add-one i)

  -- t says whether it stands among the first i
  module _ (t : Bool) (f : (t || member b (drop i p)) ≡ member b p) where
    pub found_here : i < length p → get_or p i 0 ≡ b → member b p ≡ true
    found_here h e = sym f ∙ ap (λ (u : Bool). t || u) (member-cons h ∙ ap (λ (u : Bool). u || member b (drop (i + 1) p)) (eq-eqb _ _ (sym e))) ∙ or-true t

    pub found-more : i < length p → (get_or p i 0 ≡ b → ⊥) → (t || member b (drop (i + 1) p)) ≡ member b p
    found-more h e =
        ap (λ (u : Bool). t || u) (sym (member-cons h ∙ ap (λ (u : Bool). u || member b (drop (i + 1) p)) (ne_eqb _ _ (λ q. e (sym q))))) ∙ f

    pub found_none : length p ≤ i → t ≡ member b p
    unfolding member
    found_none h = sym (or-false t) ∙ (rw (drop_of_length-le p h) at f)

-- ---- bytes without a semicolon, without an apostrophe

other-end : (q : Bool) (b : ℕ) → (b ≡ semicolon → ⊥) → ends_text q b ≡ false
unfolding ends_text
other-end q b h = ap (λ (x : Bool). not q && x) (ne_eqb b semicolon h) ∙ and-false (not q)

plain-unended : (q : Bool) (p : List ℕ) → member semicolon p ≡ false → has_end q p ≡ false
unfolding has_end member
plain-unended q [] e = refl
plain-unended q (b ∷ p) e =
    ap (λ (x : Bool). x || has_end (turned q b) p) (other-end q b (λ z. eqb-false semicolon b (or-none (eqb semicolon b) (member semicolon p) e) (sym z)))
    ∙ plain-unended (turned q b) p (or-rest (eqb semicolon b) (member semicolon p) e)

pub plain_end : (q : Bool) (p : List ℕ) → member semicolon p ≡ false → length (before_end q p) ≡ length p
plain_end q p e = ap length (before-all q p (plain-unended q p e))

pub quoted-none : (p : List ℕ) → member apostrophe p ≡ false → texts_in true p ≡ 0
unfolding texts_in member ends_text
quoted-none [] e = refl
quoted-none (b ∷ p) e =
    ap (λ (x : Bool). texts_in x p) (other-turned true b (ne_eqb b apostrophe (λ z. eqb-false apostrophe b (or-none (eqb apostrophe b) (member apostrophe p) e) (sym z))))
    ∙ quoted-none p (or-rest (eqb apostrophe b) (member apostrophe p) e)

module _ (p : List ℕ) (i : ℕ) (h : i < length p) where
  pub plain_here : get_or p i 0 ≡ semicolon → texts_in false (drop i p) ≡ suc (texts_in false (drop (i + 1) p))
  plain_here e =
      let s : ends_text false (get_or p i 0) ≡ true = unfold ends_text in eq-eqb (get_or p i 0) semicolon e in
      texts-here p i false h s ∙ ap (λ (x : Bool). suc (texts_in x (drop (i + 1) p))) (end-turned false (get_or p i 0) s)

  pub plain_more : member apostrophe p ≡ false → (get_or p i 0 ≡ semicolon → ⊥) → texts_in false (drop i p) ≡ texts_in false (drop (i + 1) p)
  plain_more n e =
      texts-more p i false h (other-end false (get_or p i 0) e)
      ∙ ap (λ (x : Bool). texts_in x (drop (i + 1) p)) (other-turned false (get_or p i 0) (ne_eqb (get_or p i 0) apostrophe (λ z. not-member apostrophe p n (subst (λ (x : ℕ). Mem x p) z (mem-get_d p i h)))))
