-- The first line of an input that is cut in two, and what stands behind it. Assumes nothing.
--
--   member-left, member_right     an LF in p ++ q, where there is one in p, and where there is none
--   no_end, nothing-behind     an input without an LF is all first line
--   line-left, line-right      the first line of p ++ q, where it ends in p, and where it does not
--   behind-left, behind-right  what stands behind it
--   behind-taken               by the bytes that are the line's
--   behind-most                which has no more bytes than there are
use Rattle.std.specs.Prelude.{ℕ, suc, ◌≤◌, ◌≡◌, refl, Bool, true, false, ◌||◌, List, [], ◌∷◌, ◌++◌, eqb, length, drop, if◌then◌else◌}
use Rattle.std.proofs.Common.{arith, sym, ap, ◌∙◌, true≢false, append-nil}
use Rattle.trees.specs.Plain.{member}
use Rattle.theorems.specs.ListLaws.{if-true}
use Rattle.summary.specs.Summary.{first_line, behind_line}
use Rattle.summary.specs.FirstLine.{line_taken}
use Rattle.summary.specs.FirstLineLaws.{eqb-flip}

-- ---- the line

pub member-left : (p q : List ℕ) → member 10 p ≡ true → member 10 (p ++ q) ≡ true
unfolding member
member-left [] q e = absurd (true≢false (sym e))
member-left (b ∷ p) q e = go (eqb 10 b) (member-left p q) e
  where
    go : (t : Bool) → (member 10 p ≡ true → member 10 (p ++ q) ≡ true) → (t || member 10 p) ≡ true → (t || member 10 (p ++ q)) ≡ true
    go true f h = refl
    go false f h = f h

pub member_right : (p q : List ℕ) → member 10 p ≡ false → member 10 (p ++ q) ≡ member 10 q
unfolding member
member_right [] q e = refl
member_right (b ∷ p) q e = go (eqb 10 b) (member_right p q) e
  where
    go : (t : Bool) → (member 10 p ≡ false → member 10 (p ++ q) ≡ member 10 q) → (t || member 10 p) ≡ false → (t || member 10 (p ++ q)) ≡ member 10 q
    go true f h = absurd (true≢false h)
    go false f h = f h

pub line-left : (p q : List ℕ) → member 10 p ≡ true → first_line (p ++ q) ≡ first_line p
unfolding member first_line
line-left [] q e = absurd (true≢false (sym e))
line-left (b ∷ p) q e = go (eqb b 10) (line-left p q) (rw (eqb-flip 10 b) at e)
  where
    go : (t : Bool) → (member 10 p ≡ true → first_line (p ++ q) ≡ first_line p) → (t || member 10 p) ≡ true
        → (if t then [] else b ∷ first_line (p ++ q)) ≡ (if t then [] else b ∷ first_line p)
    go true f h = refl
    go false f h = ap (λ (v : List ℕ). b ∷ v) (f h)

pub line-right : (p q : List ℕ) → member 10 p ≡ false → first_line (p ++ q) ≡ p ++ first_line q
unfolding member first_line
line-right [] q e = refl
line-right (b ∷ p) q e = go (eqb b 10) (line-right p q) (rw (eqb-flip 10 b) at e)
  where
    go : (t : Bool) → (member 10 p ≡ false → first_line (p ++ q) ≡ p ++ first_line q) → (t || member 10 p) ≡ false
        → (if t then [] else b ∷ first_line (p ++ q)) ≡ b ∷ (p ++ first_line q)
    go true f h = absurd (true≢false h)
    go false f h = ap (λ (v : List ℕ). b ∷ v) (f h)

-- ---- behind the line

cut_left : (p q : List ℕ) → member 10 p ≡ true → behind_line (p ++ q) ≡ drop (suc (length (first_line p))) p ++ q
unfolding member behind_line first_line
cut_left [] q e = absurd (true≢false (sym e))
cut_left (b ∷ p) q e = go (eqb b 10) (cut_left p q) (rw (eqb-flip 10 b) at e)
  where
    go : (t : Bool) → (member 10 p ≡ true → behind_line (p ++ q) ≡ drop (suc (length (first_line p))) p ++ q) → (t || member 10 p) ≡ true
        → (if t then p ++ q else behind_line (p ++ q)) ≡ drop (length (if t then [] else b ∷ first_line p)) p ++ q
    go true f h = refl
    go false f h = f h

pub behind-right : (p q : List ℕ) → member 10 p ≡ false → behind_line (p ++ q) ≡ behind_line q
unfolding member behind_line
behind-right [] q e = refl
behind-right (b ∷ p) q e = go (eqb b 10) (behind-right p q) (rw (eqb-flip 10 b) at e)
  where
    go : (t : Bool) → (member 10 p ≡ false → behind_line (p ++ q) ≡ behind_line q) → (t || member 10 p) ≡ false
        → (if t then p ++ q else behind_line (p ++ q)) ≡ behind_line q
    go true f h = absurd (true≢false h)
    go false f h = f h

-- and no more bytes than there are
pub behind-most : (p : List ℕ) → length (behind_line p) ≤ length p
unfolding behind_line
behind-most [] = omega arith
behind-most (b ∷ p) = go (eqb b 10) (behind-most p)
  where
    go : (t : Bool) → length (behind_line p) ≤ length p → length (if t then p else behind_line p) ≤ suc (length p)
    go true e = omega arith
    go false e = omega arith

pub no_end : (p : List ℕ) → member 10 p ≡ false → first_line p ≡ p
unfolding first_line
no_end p e = ap first_line (sym (append-nil p)) ∙ line-right p [] e ∙ append-nil p

pub nothing-behind : (p : List ℕ) → member 10 p ≡ false → behind_line p ≡ []
unfolding behind_line
nothing-behind p e = ap behind_line (sym (append-nil p)) ∙ behind-right p [] e

behind-cut : (p : List ℕ) → member 10 p ≡ true → behind_line p ≡ drop (suc (length (first_line p))) p
behind-cut p e = ap behind_line (sym (append-nil p)) ∙ cut_left p [] e ∙ append-nil _

pub behind-left : (p q : List ℕ) → member 10 p ≡ true → behind_line (p ++ q) ≡ behind_line p ++ q
behind-left p q e = cut_left p q e ∙ ap (λ (v : List ℕ). v ++ q) (sym (behind-cut p e))

pub behind-taken : (p : List ℕ) → member 10 p ≡ true → drop (line_taken p) p ≡ behind_line p
behind-taken p e = ap (λ (n : ℕ). drop n p) taken_is ∙ sym (behind-cut p e)
  where
    taken_is : line_taken p ≡ suc (length (first_line p))
    taken_is = unfold line_taken in if-true _ _ e
