-- The laws of the first line, taken in pieces. Assumes nothing.
--
--   eqb-flip                         a test of two numbers, the other way round
--   end-here, end_more, end_none     how many bytes stand before the first LF
--   line-take, line-ended, line-all  these are the piece's first; a piece has an LF exactly where they are not all
--   space-quoted, space-not, space-full, space-more, used-full, used-more     one byte more
--   quote-turns, quote-stays         and the quotes behind it
--   kept-none, kept_more             what is kept, a byte at a time
--   kept_append                      taking p and then q is taking p ++ q
--   taken-all, taken-line            what each return of the code promises
use Prim.Native.Nat.{ℕ, suc, ◌+◌, ◌≤◌, ◌<◌}
use Rattle.std.proofs.Math.Numerals.{add-one}
use Rattle.std.proofs.Common.{arith, ◌∙◌, drop_of_length-le, drop-cons}
use Rattle.std.specs.Prelude.{◌≡◌, refl, Bool, true, false, ◌||◌, not, List, [], ◌∷◌, ◌++◌, eqb, length, get_or, set, take, drop, if◌then◌else◌}
use Rattle.std.proofs.Math.Path.{sym, ap}
use borrow.Author.Tests.{lt-ltb, le-ltb, eqb-true, eqb-false, eq-eqb, ne_eqb}
use Rattle.trees.specs.Plain.{member}
use Rattle.trees.specs.Text.{turned}
use Rattle.theorems.specs.ListLaws.{if-true, if-false}
use Rattle.summary.specs.declared.LinePart.{LinePart}
use Rattle.summary.specs.Summary.{first_line}
use Rattle.summary.specs.FirstLine.{Kept, spaces_with, used_with, kept_with, kept_after, line_taken, kept_of, TakenAs}

-- ---- the line end

pub eqb-flip : (a b : ℕ) → eqb a b ≡ eqb b a
eqb-flip a b = go (eqb b a) refl
  where
    go : (t : Bool) → eqb b a ≡ t → eqb a b ≡ t
    go true e = eq-eqb a b (sym (eqb-true b a e))
    go false e = ne_eqb a b (λ q. eqb-false b a e (sym q))

module _ (p : List ℕ) (i : ℕ) where
  rest-cons : i < length p → first_line (drop i p) ≡ (if eqb (get_or p i 0) 10 then [] else get_or p i 0 ∷ first_line (drop (i + 1) p))
  unfolding first_line
  rest-cons h = rw (drop-cons p i 0 h, add-one i)

  pub end-here : i < length p → get_or p i 0 ≡ 10 → length (first_line (drop i p)) ≡ 0
  end-here h e = ap length (rest-cons h ∙ if-true _ _ (eq-eqb _ _ e))

  pub end_more : i < length p → (get_or p i 0 ≡ 10 → ⊥) → length (first_line (drop i p)) ≡ suc (length (first_line (drop (i + 1) p)))
  end_more h e = ap length (rest-cons h ∙ if-false _ _ (ne_eqb _ _ e))

  pub end_none : length p ≤ i → length (first_line (drop i p)) ≡ 0
  unfolding first_line
  end_none h = rw (drop_of_length-le p h)

pub line-take : (p : List ℕ) → take (length (first_line p)) p ≡ first_line p
unfolding first_line
line-take [] = refl
line-take (b ∷ p) = go (eqb b 10) (line-take p)
  where
    go : (t : Bool) → take (length (first_line p)) p ≡ first_line p
        → take (length (if t then [] else b ∷ first_line p)) (b ∷ p) ≡ (if t then [] else b ∷ first_line p)
    go true e = refl
    go false e = ap (λ (l : List ℕ). b ∷ l) e

-- all bytes are the line's: there is no LF
pub line-all : (p : List ℕ) → length (first_line p) ≡ length p → member 10 p ≡ false
unfolding first_line member
line-all [] e = refl
line-all (b ∷ p) e = rw (eqb-flip 10 b) (go (eqb b 10) e (line-all p))
  where
    go : (t : Bool) → length (if t then [] else b ∷ first_line p) ≡ suc (length p) → (length (first_line p) ≡ length p → member 10 p ≡ false) → (t || member 10 p) ≡ false
    go true q f = absurd (omega arith)
    go false q f = f (omega arith)

pub line-ended : (p : List ℕ) → (length (first_line p) ≡ length p → ⊥) → member 10 p ≡ true
unfolding first_line member
line-ended [] e = absurd (e refl)
line-ended (b ∷ p) e = rw (eqb-flip 10 b) (go (eqb b 10) e (line-ended p))
  where
    go : (t : Bool) → (length (if t then [] else b ∷ first_line p) ≡ suc (length p) → ⊥) → ((length (first_line p) ≡ length p → ⊥) → member 10 p ≡ true) → (t || member 10 p) ≡ true
    go true q f = refl
    go false q f = f (λ x. q (ap suc x))

-- ---- a byte more

module _ (n : ℕ) (q : Bool) (b : ℕ) where
  pub space-quoted : q ≡ true → n ≡ spaces_with n q b
  unfolding spaces_with
  space-quoted e = rw e

  pub space-not : q ≡ false → (b ≡ 32 → ⊥) → n ≡ spaces_with n q b
  unfolding spaces_with
  space-not o e = rw (o, ne_eqb b 32 e)

  pub space-full : q ≡ false → b ≡ 32 → 64 ≤ n → n ≡ spaces_with n q b
  unfolding spaces_with
  space-full o e h = rw (o, eq-eqb b 32 e, le-ltb n 64 h)

  pub space-more : q ≡ false → b ≡ 32 → n < 64 → n + 1 ≡ spaces_with n q b
  unfolding spaces_with
  space-more o e h = rw (o, eq-eqb b 32 e, lt-ltb n 64 h) (add-one n)

module _ (q : Bool) (b : ℕ) where
  pub quote-turns : b ≡ 39 → not q ≡ turned q b
  unfolding turned
  quote-turns e = sym (if-true _ _ (eq-eqb b 39 e))

  pub quote-stays : (b ≡ 39 → ⊥) → q ≡ turned q b
  unfolding turned
  quote-stays e = sym (if-false _ _ (ne_eqb b 39 e))

module _ (n : ℕ) (out : List ℕ) where
  pub used-full : length out ≤ n → n ≡ used_with n out
  unfolding used_with
  used-full h = rw (le-ltb n (length out) h)

  pub used-more : n < length out → n + 1 ≡ used_with n out
  unfolding used_with
  used-more h = rw (lt-ltb n (length out) h) (add-one n)

-- ---- what is kept

pub kept-none : (k : Kept) (p : List ℕ) (i : ℕ) → length p ≤ i → k ≡ kept_after k (drop i p)
unfolding kept_after
kept-none k p i h = rw (drop_of_length-le p h)

pub kept_more : (used spaces : ℕ) (quoted : Bool) (out p : List ℕ) (i : ℕ) → i < length p → (u n : ℕ) (q : Bool) (next : List ℕ)
    → n ≡ spaces_with spaces quoted (get_or p i 0) → q ≡ turned quoted (get_or p i 0) → u ≡ used_with used out → next ≡ set out used (get_or p i 0)
    → kept_after (record { used = used; spaces = spaces; quoted = quoted; bytes = out }) (drop i p)
    ≡ kept_after (record { used = u; spaces = n; quoted = q; bytes = next }) (drop (i + 1) p)
unfolding kept_after kept_with
kept_more used spaces quoted out p i h u n q next e d f g = rw (drop-cons p i 0 h, add-one i, e, d, f, g)

pub kept_append : (k : Kept) (p q : List ℕ) → kept_after (kept_after k p) q ≡ kept_after k (p ++ q)
unfolding kept_after
kept_append k [] q = refl
kept_append k (b ∷ p) q = kept_append (kept_with k b) p q

-- ---- the returns of the code

module _ (k : Kept) (p out : List ℕ) (n : ℕ) (e : n ≡ length (first_line p)) (next : LinePart) (h : kept_of next out ≡ kept_after k (take n p)) where
  kept_line : kept_of next out ≡ kept_after k (first_line p)
  kept_line = h ∙ ap (kept_after k) (ap (λ (m : ℕ). take m p) e ∙ line-take p)

  pub taken-all : n ≡ length p → TakenAs k p (record { taken = n; ended = false; line = next }) out
  unfolding line_taken
  taken-all f =
      let m = line-all p (sym e ∙ f) in
      record { taken = f ∙ sym (if-false _ _ m); ended = sym m; line = kept_line }

  pub taken-line : (n ≡ length p → ⊥) → TakenAs k p (record { taken = n + 1; ended = true; line = next }) out
  unfolding line_taken
  taken-line f =
      let m = line-ended p (λ x. f (e ∙ x)) in
      record { taken = (add-one n ∙ ap suc e) ∙ sym (if-true _ _ m); ended = sym m; line = kept_line }
