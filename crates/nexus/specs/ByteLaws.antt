-- Laws of bytes with a blank for each comment, a byte or a run of bytes at a time. Assumes nothing.
-- Bytes: 91 `[` and 93 `]` begin and end a comment, which reads as 32, a blank; 39 is the apostrophe.
--
--   none-begun, one-begun           a byte that begins no comment, and one that does
--   byte-plain, byte-quote, byte-quoted, byte-closing     a byte outside quotes, the one that opens them, a byte in them, the one that closes them
--   comment-byte, comment-end       a byte in a comment, and the one that ends it
--   plain-append                    a run without brackets and quotes
--   quoted-closed, quoted-open      a run in quotes up to the apostrophe that closes them, and one that has none
--   comment-closed, comment-open    a comment up to its bracket, and one that has none
use Rattle.std.specs.Prelude.{ℕ, ◌≡◌, refl, Bool, ◌&&◌, not, eqb}
use Rattle.std.proofs.Math.Path.{ap}
use Rattle.std.proofs.Common.{◌∙◌}
use Rattle.std.proofs.Math.Bool.{true, false}
use mathlib.Core.List.{List, [], ◌∷◌, ◌++◌}
use Rattle.std.proofs.lemmas.Bool.{not-true}
use Rattle.trees.specs.Plain.{every}
use Rattle.trees.specs.Text.{turned}
use Rattle.trees.specs.Nexus.{uncommented, behind_comment}
use Rattle.theorems.specs.ListLaws.{and_left, and_right}
use Rattle.theorems.specs.QuoteLaws.{other-turned}
use Rattle.theorems.specs.OutsideLaws.{other_byte}
use Rattle.nexus.specs.Places.{other}

-- ---- a byte

module _ (b : ℕ) (s : List ℕ) where
  pub none-begun : (q : Bool) → (not q && eqb b 91) ≡ false → uncommented q (b ∷ s) ≡ b ∷ uncommented (turned q b) s
  unfolding uncommented
  none-begun q e = ap (λ (t : Bool). elim t as (λ _. List ℕ) [ true ↦ behind_comment s | false ↦ b ∷ uncommented (turned q b) s ]) e

  pub one-begun : eqb b 91 ≡ true → uncommented false (b ∷ s) ≡ behind_comment s
  unfolding uncommented
  one-begun e = ap (λ (t : Bool). elim t as (λ _. List ℕ) [ true ↦ behind_comment s | false ↦ b ∷ uncommented (turned false b) s ]) e

  pub byte-plain : eqb b 91 ≡ false → eqb b 39 ≡ false → uncommented false (b ∷ s) ≡ b ∷ uncommented false s
  byte-plain e f = none-begun false e ∙ ap (λ (q : Bool). b ∷ uncommented q s) (other-turned false b f)

  byte-quoted : eqb b 39 ≡ false → uncommented true (b ∷ s) ≡ b ∷ uncommented true s
  byte-quoted f = none-begun true refl ∙ ap (λ (q : Bool). b ∷ uncommented q s) (other-turned true b f)

  comment-byte : eqb b 93 ≡ false → behind_comment (b ∷ s) ≡ behind_comment s
  unfolding behind_comment
  comment-byte e = ap (λ (t : Bool). elim t as (λ _. List ℕ) [ true ↦ 32 ∷ uncommented false s | false ↦ behind_comment s ]) e

pub byte-quote : (s : List ℕ) → uncommented false (39 ∷ s) ≡ 39 ∷ uncommented true s
unfolding uncommented
byte-quote s = refl

byte-closing : (s : List ℕ) → uncommented true (39 ∷ s) ≡ 39 ∷ uncommented false s
unfolding uncommented
byte-closing s = refl

comment-end : (s : List ℕ) → behind_comment (93 ∷ s) ≡ 32 ∷ uncommented false s
unfolding behind_comment
comment-end s = refl

-- ---- a run of bytes

-- no bracket and no apostrophe passes
pub plain-append : (p : ℕ → Bool) → p 91 ≡ false → p 39 ≡ false → (w r : List ℕ) → every p w ≡ true → uncommented false (w ++ r) ≡ w ++ uncommented false r
unfolding every
plain-append p n m [] r e = refl
plain-append p n m (b ∷ w) r e =
    let f = and_left (p b) (every p w) e in
    byte-plain b (w ++ r) (other_byte p b 91 f n) (other_byte p b 39 f m) ∙ ap (λ (l : List ℕ). b ∷ l) (plain-append p n m w r (and_right (p b) (every p w) e))

first-other : (x b : ℕ) (w : List ℕ) → every (other x) (b ∷ w) ≡ true → eqb b x ≡ false
unfolding every
first-other x b w e = not-true (eqb b x) (and_left (other x b) (every (other x) w) e)

rest-other : (x b : ℕ) (w : List ℕ) → every (other x) (b ∷ w) ≡ true → every (other x) w ≡ true
unfolding every
rest-other x b w e = and_right (other x b) (every (other x) w) e

pub quoted-closed : (w t : List ℕ) → every (other 39) w ≡ true → uncommented true (w ++ (39 ∷ t)) ≡ w ++ (39 ∷ uncommented false t)
quoted-closed [] t e = byte-closing t
quoted-closed (b ∷ w) t e =
    byte-quoted b (w ++ (39 ∷ t)) (first-other 39 b w e) ∙ ap (λ (l : List ℕ). b ∷ l) (quoted-closed w t (rest-other 39 b w e))

pub quoted-open : (w : List ℕ) → every (other 39) w ≡ true → uncommented true w ≡ w
unfolding uncommented
quoted-open [] e = refl
quoted-open (b ∷ w) e = byte-quoted b w (first-other 39 b w e) ∙ ap (λ (l : List ℕ). b ∷ l) (quoted-open w (rest-other 39 b w e))

pub comment-closed : (w t : List ℕ) → every (other 93) w ≡ true → behind_comment (w ++ (93 ∷ t)) ≡ 32 ∷ uncommented false t
comment-closed [] t e = comment-end t
comment-closed (b ∷ w) t e = comment-byte b (w ++ (93 ∷ t)) (first-other 93 b w e) ∙ comment-closed w t (rest-other 93 b w e)

pub comment-open : (w : List ℕ) → every (other 93) w ≡ true → behind_comment w ≡ 91 ∷ []
unfolding behind_comment
comment-open [] e = refl
comment-open (b ∷ w) e = comment-byte b w (first-other 93 b w e) ∙ comment-open w (rest-other 93 b w e)
