-- Laws of where texts end in pieces, and of how many do. Assumes nothing.
--
--   before-left, before-right             what stands in two pieces before the first end: it is in the first, or not
--   texts-append       the texts that two pieces end
--   end-inside         a piece that ends a text does so before it is over
--   unended, ended     so it ends one exactly where not all of it stands before the end
--   before-take        what stands before the end is the piece's first bytes
--   no_text, one-text  how many texts a piece ends: none without an end, and behind the first one fewer
--   has-text, lacks-text     and the other way round
use Rattle.std.specs.Prelude.{ℕ, suc, ◌+◌, ◌≤◌, ◌<◌, ◌≡◌, refl, Bool, true, false, ◌||◌, List, [], ◌∷◌, ◌++◌, length, take, drop, if◌then◌else◌}
use Rattle.std.proofs.Common.{arith, sym, ap, ◌∙◌, true≢false}
use Rattle.trees.specs.Text.{turned, open_after, ends_text, has_end, before_end}
use Rattle.trees.specs.Batch.{texts_in}
use Rattle.theorems.specs.ListLaws.{if-false}
use Rattle.theorems.specs.QuoteLaws.{end-turned, or-none, or-rest, before-all}

-- ---- two pieces

pub before-left : (q : Bool) (s t : List ℕ) → has_end q s ≡ true → before_end q (s ++ t) ≡ before_end q s
unfolding has_end before_end
before-left q [] t e = absurd (true≢false (sym e))
before-left q (b ∷ s) t e = go (ends_text q b) (before-left (turned q b) s t) e
  where
    go : (x : Bool) → (has_end (turned q b) s ≡ true → before_end (turned q b) (s ++ t) ≡ before_end (turned q b) s) → (x || has_end (turned q b) s) ≡ true
        → (if x then [] else b ∷ before_end (turned q b) (s ++ t)) ≡ (if x then [] else b ∷ before_end (turned q b) s)
    go true f h = refl
    go false f h = ap (λ (v : List ℕ). b ∷ v) (f h)

pub before-right : (q : Bool) (s t : List ℕ) → has_end q s ≡ false → before_end q (s ++ t) ≡ s ++ before_end (open_after q s) t
unfolding has_end before_end open_after
before-right q [] t e = refl
before-right q (b ∷ s) t e =
    if-false [] (b ∷ before_end (turned q b) (s ++ t)) (or-none (ends_text q b) (has_end (turned q b) s) e)
    ∙ ap (λ (v : List ℕ). b ∷ v) (before-right (turned q b) s t (or-rest (ends_text q b) (has_end (turned q b) s) e))

pub texts-append : (q : Bool) (s t : List ℕ) → texts_in q (s ++ t) ≡ texts_in q s + texts_in (open_after q s) t
unfolding texts_in open_after
texts-append q [] t = omega arith
texts-append q (b ∷ s) t = go (ends_text q b) (texts-append (turned q b) s t)
  where
    go : (x : Bool) → texts_in (turned q b) (s ++ t) ≡ texts_in (turned q b) s + texts_in (open_after (turned q b) s) t
        → (if x then suc (texts_in (turned q b) (s ++ t)) else texts_in (turned q b) (s ++ t))
        ≡ (if x then suc (texts_in (turned q b) s) else texts_in (turned q b) s) + texts_in (open_after (turned q b) s) t
    go true f = omega arith
    go false f = f

-- ---- a piece that ends a text, and one that ends none

pub end-inside : (q : Bool) (p : List ℕ) → has_end q p ≡ true → length (before_end q p) < length p
unfolding has_end before_end
end-inside q [] e = absurd (true≢false (sym e))
end-inside q (b ∷ p) e = go (ends_text q b) (end-inside (turned q b) p) e
  where
    go : (x : Bool) → (has_end (turned q b) p ≡ true → length (before_end (turned q b) p) < length p) → (x || has_end (turned q b) p) ≡ true
        → length (if x then [] else b ∷ before_end (turned q b) p) < suc (length p)
    go true f h = omega arith
    go false f h = omega (arith, f h)

module _ (q : Bool) (p : List ℕ) where
  pub unended : length p ≤ length (before_end q p) → has_end q p ≡ false
  unended h = go (has_end q p) refl
    where
      go : (x : Bool) → has_end q p ≡ x → x ≡ false
      go true e = absurd (omega (arith, end-inside q p e))
      go false e = refl

  pub ended : length (before_end q p) < length p → has_end q p ≡ true
  ended h = go (has_end q p) refl
    where
      go : (x : Bool) → has_end q p ≡ x → x ≡ true
      go true e = refl
      go false e = absurd (omega (arith, ap length (before-all q p e)))

pub before-take : (q : Bool) (p : List ℕ) → take (length (before_end q p)) p ≡ before_end q p
unfolding before_end
before-take q [] = refl
before-take q (b ∷ p) = go (ends_text q b) (before-take (turned q b) p)
  where
    go : (x : Bool) → take (length (before_end (turned q b) p)) p ≡ before_end (turned q b) p
        → take (length (if x then [] else b ∷ before_end (turned q b) p)) (b ∷ p) ≡ (if x then [] else b ∷ before_end (turned q b) p)
    go true e = refl
    go false e = ap (λ (l : List ℕ). b ∷ l) e

pub no_text : (q : Bool) (p : List ℕ) → has_end q p ≡ false → texts_in q p ≡ 0
unfolding texts_in has_end
no_text q [] e = refl
no_text q (b ∷ p) e =
    if-false (suc (texts_in (turned q b) p)) (texts_in (turned q b) p) (or-none (ends_text q b) (has_end (turned q b) p) e)
    ∙ no_text (turned q b) p (or-rest (ends_text q b) (has_end (turned q b) p) e)

-- no quotes are open behind a text that has ended
pub one-text : (q : Bool) (p : List ℕ) → has_end q p ≡ true → texts_in q p ≡ suc (texts_in false (drop (suc (length (before_end q p))) p))
unfolding texts_in has_end before_end
one-text q [] e = absurd (true≢false (sym e))
one-text q (b ∷ p) e = go (ends_text q b) refl (one-text (turned q b) p) e
  where
    go : (x : Bool) → ends_text q b ≡ x → (has_end (turned q b) p ≡ true → texts_in (turned q b) p ≡ suc (texts_in false (drop (suc (length (before_end (turned q b) p))) p)))
        → (x || has_end (turned q b) p) ≡ true
        → (if x then suc (texts_in (turned q b) p) else texts_in (turned q b) p)
        ≡ suc (texts_in false (drop (length (if x then [] else b ∷ before_end (turned q b) p)) p))
    go true s f h = ap (λ (x : Bool). suc (texts_in x p)) (end-turned q b s)
    go false s f h = f h

module _ (q : Bool) (p : List ℕ) where
  pub has-text : 0 < texts_in q p → has_end q p ≡ true
  has-text h = go (has_end q p) refl
    where
      go : (x : Bool) → has_end q p ≡ x → x ≡ true
      go true e = refl
      go false e = absurd (omega (arith, no_text q p e))

  pub lacks-text : texts_in q p ≡ 0 → has_end q p ≡ false
  lacks-text h = go (has_end q p) refl
    where
      go : (x : Bool) → has_end q p ≡ x → x ≡ false
      go true e = absurd (omega (arith, one-text q p e))
      go false e = refl
