-- Laws of quotes, and of where a text ends. Assumes nothing.
--
--   open-append          quotes behind two runs of bytes, one after the other
--   no-quote-open        bytes without an apostrophe leave quotes as they are
--   end-closed, end-byte, end-turned     where a byte ends a text no quotes are open, it is a semicolon, and none are open behind it
--   has-append           an end in two runs is an end in one of them
--   before-all           where no text ends, all bytes stand before the end
--   before-unended       in what stands before an end no text ends
--   before-closed        and no quotes are open behind it, if there is an end
--   before-end, has_end_lem  a run in which no text ends, and a semicolon behind it
use Rattle.std.specs.Prelude.{ℕ, ◌≡◌, Bool, ◌||◌, not, eqb, if◌then◌else◌}
use Rattle.std.proofs.Math.Path.{refl, ap}
use Rattle.std.proofs.Common.{sym, ◌∙◌, true≢false}
use Rattle.std.proofs.Math.Bool.{true, false}
use mathlib.Core.List.{List, [], ◌∷◌, ◌++◌}
use borrow.Author.Tests.{eqb-true}
use Rattle.trees.specs.Plain.{every}
use Rattle.trees.specs.Text.{semicolon, apostrophe, turned, open_after, ends_text, has_end, before_end}
use Rattle.theorems.specs.ListLaws.{if-false, and_left, and_right}

-- ---- quotes

pub open-append : (q : Bool) (s t : List ℕ) → open_after q (s ++ t) ≡ open_after (open_after q s) t
unfolding open_after
open-append q [] t = refl
open-append q (b ∷ s) t = open-append (turned q b) s t

pub other-turned : (q : Bool) (b : ℕ) → eqb b apostrophe ≡ false → turned q b ≡ q
unfolding turned
other-turned q b e = if-false (not q) q e

pub quote-turned : (q : Bool) → turned q apostrophe ≡ not q
unfolding turned
quote-turned q = refl

not_test : (a : Bool) → not a ≡ true → a ≡ false
not_test true e = absurd (true≢false (sym e))
not_test false e = refl

pub no-quote-open : (q : Bool) (s : List ℕ) → every (λ b. not (eqb b apostrophe)) s ≡ true → open_after q s ≡ q
unfolding open_after every
no-quote-open q [] e = refl
no-quote-open q (b ∷ s) e =
    ap (λ (x : Bool). open_after x s) (other-turned q b (not_test (eqb b apostrophe) (and_left (not (eqb b apostrophe)) _ e)))
    ∙ no-quote-open q s (and_right (not (eqb b apostrophe)) _ e)

-- ---- a byte that ends a text

module _ (q : Bool) (b : ℕ) (e : ends_text q b ≡ true) where
  pub end-closed : q ≡ false
  unfolding ends_text
  end-closed = not_test q (and_left (not q) (eqb b semicolon) e)

  pub end-byte : b ≡ semicolon
  unfolding ends_text
  end-byte = eqb-true b semicolon (and_right (not q) (eqb b semicolon) e)

  pub end-turned : turned q b ≡ false
  unfolding turned
  end-turned = ap (turned q) end-byte ∙ end-closed

-- ---- ends in a run of bytes

or_assoc : (a b c : Bool) → a || (b || c) ≡ (a || b) || c
or_assoc true b c = refl
or_assoc false b c = refl

pub has-append : (q : Bool) (s t : List ℕ) → has_end q (s ++ t) ≡ has_end q s || has_end (open_after q s) t
unfolding has_end open_after
has-append q [] t = refl
has-append q (b ∷ s) t = ap (λ (x : Bool). ends_text q b || x) (has-append (turned q b) s t) ∙ or_assoc (ends_text q b) (has_end (turned q b) s) (has_end (open_after (turned q b) s) t)

pub or-none : (a b : Bool) → a || b ≡ false → a ≡ false
or-none true b e = e
or-none false b e = refl

pub or-rest : (a b : Bool) → a || b ≡ false → b ≡ false
or-rest true b e = absurd (true≢false e)
or-rest false b e = e

pub before-all : (q : Bool) (p : List ℕ) → has_end q p ≡ false → before_end q p ≡ p
unfolding has_end before_end
before-all q [] e = refl
before-all q (b ∷ p) e =
    if-false [] (b ∷ before_end (turned q b) p) (or-none (ends_text q b) (has_end (turned q b) p) e)
    ∙ ap (λ (w : List ℕ). b ∷ w) (before-all (turned q b) p (or-rest (ends_text q b) (has_end (turned q b) p) e))

pub before-unended : (q : Bool) (p : List ℕ) → has_end q (before_end q p) ≡ false
unfolding has_end before_end
before-unended q [] = refl
before-unended q (b ∷ p) = go (ends_text q b) refl (before-unended (turned q b) p)
  where
    go : (a : Bool) → ends_text q b ≡ a → has_end (turned q b) (before_end (turned q b) p) ≡ false → has_end q (if a then [] else b ∷ before_end (turned q b) p) ≡ false
    go true e f = refl
    go false e f = ap (λ (x : Bool). x || has_end (turned q b) (before_end (turned q b) p)) e ∙ f

pub before-closed : (q : Bool) (p : List ℕ) → has_end q p ≡ true → open_after q (before_end q p) ≡ false
unfolding has_end before_end open_after
before-closed q [] h = absurd (true≢false (sym h))
before-closed q (b ∷ p) h = go (ends_text q b) refl h (before-closed (turned q b) p)
  where
    go : (a : Bool) → ends_text q b ≡ a → a || has_end (turned q b) p ≡ true → (has_end (turned q b) p ≡ true → open_after (turned q b) (before_end (turned q b) p) ≡ false)
        → open_after q (if a then [] else b ∷ before_end (turned q b) p) ≡ false
    go true e f r = end-closed q b e
    go false e f r = r f

-- ---- a run, and a semicolon behind it

module _ (r : List ℕ) where
  pub has_end_lem : (q : Bool) (w : List ℕ) → open_after q w ≡ false → has_end q (w ++ semicolon ∷ r) ≡ true
  unfolding has_end
  has_end_lem q w e = has-append q w (semicolon ∷ r) ∙ ap (λ (x : Bool). has_end q w || has_end x (semicolon ∷ r)) e ∙ go (has_end q w)
    where
      go : (a : Bool) → a || true ≡ true
      go true = refl
      go false = refl

  pub before-end : (q : Bool) (w : List ℕ) → has_end q w ≡ false → open_after q w ≡ false → before_end q (w ++ semicolon ∷ r) ≡ w
  unfolding has_end before_end open_after
  before-end q [] h e = ap (λ (x : Bool). before_end x (semicolon ∷ r)) e
  before-end q (b ∷ w) h e =
      if-false [] (b ∷ before_end (turned q b) (w ++ semicolon ∷ r)) (or-none (ends_text q b) (has_end (turned q b) w) h)
      ∙ ap (λ (v : List ℕ). b ∷ v) (before-end (turned q b) w (or-rest (ends_text q b) (has_end (turned q b) w) h) e)
