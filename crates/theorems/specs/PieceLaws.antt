-- Laws of pieces of a text, and of what a lane holds of them.
--
--   longer-longer          a lane fed p and then q is a lane fed both at once
--   open-longer            and so for the quotes that are open behind its text, also where it ran over
--   text w                 the lane that was empty and got the bytes w
--   open-text              whether quotes are open behind them
--   text-held              it holds them up to 4,608, and past that it ran over
--   unended w              the bytes w have no end of a text
--   unended-append         two runs of such bytes, one after the other
--   closed-append          quotes are closed behind the bytes w and what then stands before an end
use Rattle.std.specs.Prelude.{ℕ, zero, suc, ◌≤◌, ◌≡◌, refl, Bool, true, false, ◌||◌, not, List, [], ◌∷◌, ◌++◌, map, ltb, length, get_or, set, replicate, if◌then◌else◌}
use Rattle.std.proofs.Common.{arith, ap, sym, ◌∙◌, append_assoc, length-append, ltb-true, lt-ltb, le-ltb}
use Rattle.trees.specs.Text.{open_after, has_end, before_end}
use Rattle.trees.specs.Held.{Lane, holding, overrun, most_text, open_in, longer}
use Rattle.theorems.specs.ListLaws.{by-test, if-true, if-false}
use Rattle.theorems.specs.QuoteLaws.{open-append, has-append, before-closed}

-- ---- a text in pieces

-- the lane that holds the bytes w, if they are not too many
abbrev fitted : List ℕ → Lane
fitted w = if ltb most_text (length w) then overrun (open_after false w) else holding w

over-fitted : (w q : List ℕ) → ltb most_text (length w) ≡ true → fitted (w ++ q) ≡ overrun (open_after (open_after false w) q)
over-fitted w q e =
    if-true (overrun (open_after false (w ++ q))) (holding (w ++ q)) (lt-ltb most_text (length (w ++ q)) (omega (arith, ltb-true most_text (length w) e, length-append w q)))
    ∙ ap overrun (open-append false w q)

-- past 4,608 held bytes, "blanks counted, the lane drops bytes until the semicolon": in one piece or in two
pub longer-longer : (x : Lane) (p q : List ℕ) → longer (longer x p) q ≡ longer x (p ++ q)
unfolding longer
longer-longer (overrun b) p q = ap overrun (sym (open-append b p q))
longer-longer (holding s) p q =
    by-test (λ (y : Lane). longer y q ≡ fitted ((s ++ p) ++ q)) (ltb most_text (length (s ++ p))) (λ e. sym (over-fitted (s ++ p) q e)) (λ e. refl)
    ∙ ap fitted (append_assoc s p q)

pub open-longer : (x : Lane) (p : List ℕ) → open_in (longer x p) ≡ open_after (open_in x) p
unfolding longer open_in
open-longer (overrun b) p = refl
open-longer (holding s) p = by-test (λ (y : Lane). open_in y ≡ open_after (open_after false s) p) (ltb most_text (length (s ++ p))) (λ e. open-append false s p) (λ e. open-append false s p)

-- the lane that was empty and got the bytes w
abbrev pub text : List ℕ → Lane
text w = longer (holding []) w

pub open-text : (w : List ℕ) → open_in (text w) ≡ open_after false w
unfolding open_in open_after
open-text w = open-longer (holding []) w

-- a text of at most 4,608 bytes is held
pub text-held : (w : List ℕ) → length w ≤ most_text → text w ≡ holding w
unfolding longer
text-held w h = if-false (overrun (open_after false w)) (holding w) (le-ltb most_text (length w) h)

-- ---- lists of lanes

pub map-set : {A B : Type 0} (f : A → B) (l : List A) (i : ℕ) (x : A) → map f (set l i x) ≡ set (map f l) i (f x)
map-set f [] i x = refl
map-set f (y ∷ l) zero x = refl
map-set {B = B} f (y ∷ l) (suc i) x = ap (λ (k : List B). f y ∷ k) (map-set f l i x)

pub map-replicate : {A B : Type 0} (f : A → B) (n : ℕ) (x : A) → map f (replicate n x) ≡ replicate n (f x)
map-replicate f zero x = refl
map-replicate {B = B} f (suc n) x = ap (λ (k : List B). f x ∷ k) (map-replicate f n x)

pub set-replicate : {A : Type 0} (n i : ℕ) (x : A) → set (replicate n x) i x ≡ replicate n x
set-replicate zero i x = refl
set-replicate (suc n) zero x = refl
set-replicate {A} (suc n) (suc i) x = ap (λ (k : List A). x ∷ k) (set-replicate n i x)

pub get_d-all : {A : Type 0} (n i : ℕ) (x : A) → get_or (replicate n x) i x ≡ x
get_d-all zero i x = refl
get_d-all (suc n) zero x = refl
get_d-all (suc n) (suc i) x = get_d-all n i x

-- ---- bytes that end no text

abbrev pub unended : List ℕ → Bool
unended w = not (has_end false w)

pub unended-append : (v w : List ℕ) → has_end false v ≡ false → has_end (open_after false v) w ≡ false → has_end false (v ++ w) ≡ false
unended-append v w e f = has-append false v w ∙ ap (λ (x : Bool). x || has_end (open_after false v) w) e ∙ f

pub closed-append : (w p : List ℕ) → has_end (open_after false w) p ≡ true → open_after false (w ++ before_end (open_after false w) p) ≡ false
closed-append w p e = open-append false w (before_end (open_after false w) p) ∙ before-closed (open_after false w) p e
