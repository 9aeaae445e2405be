-- Laws of places in a file, a byte or a run in quotes at a time. Assumes nothing.
-- Bytes: 91 `[` begins a comment, which reads as 32, a blank; 39 is the apostrophe.
--
--   plain-none, plain-front, plain_byte, plain-comment     what is read from a place on: nothing, a byte first, a byte outside quotes, a comment
--   quoted-part, quoted-alone                 a run in quotes, and that it is read as it stands, whatever stands behind it
--   plain-quoted, plain-unpaired              what is read from an apostrophe on: a run in quotes, and all as it stands where they never close
--   comment-as, plain-as                      what holds of a blank, a bracket and a byte that stand there holds of a comment and of a place
--   blanks-only                               nothing but blanks stands from a place on exactly where skipping them leads to the end
use Rattle.std.specs.Prelude.{ℕ, ◌+◌, ◌≤◌, ◌<◌, ◌≡◌, refl, true, false, List, [], ◌∷◌, ◌++◌, eqb, length, get_or, drop}
use Rattle.std.proofs.Common.{add-one, arith, sym, ap₂, subst, ◌∙◌, ⊎_elim, append_assoc, drop_of_length-le, drop-cons, eq-eqb, ne_eqb}
use Rattle.std.proofs.Math.Path.{ap}
use Rattle.trees.specs.Plain.{every}
use Rattle.trees.specs.Text.{is_blank, turned}
use Rattle.trees.specs.Nexus.{uncommented, behind_comment}
use Rattle.theorems.specs.ListLaws.{less-or-not, equal_or_not, by-elim}
use Rattle.theorems.specs.RunOfLaws.{blank-all, blank-not}
use Rattle.nexus.specs.Places.{part, plain_at, other, NextByte, Skipped}
use Rattle.nexus.specs.PartLaws.{part-first, part-rest}
use Rattle.nexus.specs.ByteLaws.{none-begun, one-begun, byte-plain, byte-quote, quoted-closed, quoted-open}

module _ (s : List ℕ) (i : ℕ) where
  at-cons : i < length s → drop i s ≡ get_or s i 0 ∷ drop (i + 1) s
  at-cons h = rw (add-one i) (drop-cons s i 0 h)

  -- ---- what is read

  pub plain-none : length s ≤ i → plain_at s i ≡ []
  unfolding uncommented
  plain-none h = ap (uncommented false) (drop_of_length-le s h)

  pub plain-front : i < length s → (get_or s i 0 ≡ 91 → ⊥) → (t : List ℕ) × (plain_at s i ≡ get_or s i 0 ∷ t)
  plain-front h n = (uncommented (turned false (get_or s i 0)) (drop (i + 1) s), ap (uncommented false) (at-cons h) ∙ none-begun _ _ false (ne_eqb _ _ n))

  pub plain_byte : i < length s → (get_or s i 0 ≡ 91 → ⊥) → (get_or s i 0 ≡ 39 → ⊥) → plain_at s i ≡ get_or s i 0 ∷ plain_at s (i + 1)
  plain_byte h n m = ap (uncommented false) (at-cons h) ∙ byte-plain _ _ (ne_eqb _ _ n) (ne_eqb _ _ m)

  pub plain-comment : i < length s → get_or s i 0 ≡ 91 → plain_at s i ≡ behind_comment (drop (i + 1) s)
  plain-comment h e = ap (uncommented false) (at-cons h) ∙ one-begun _ _ (eq-eqb _ _ e)

  -- ---- quotes

  module _ (h : i < length s) (e : get_or s i 0 ≡ 39) (r : ℕ) (n : NextByte s 39 (i + 1) r) where
    pub quoted-part : r ≤ length s → (w : List ℕ) × (part i r s ≡ 39 ∷ (w ++ (39 ∷ []))) × (every (other 39) w ≡ true)
    quoted-part g =
        let f = n.found g in
        (f.1, part-first s i r (omega (arith, f.0)) h ∙ ap₂ (λ (b : ℕ) (l : List ℕ). b ∷ l) e f.2, f.3)

    pub quoted-alone : r ≤ length s → (t : List ℕ) → uncommented false (part i r s ++ t) ≡ part i r s ++ uncommented false t
    quoted-alone g t =
        let f = quoted-part g in
        let w = f.0 in
        let l : (u : List ℕ) → part i r s ++ u ≡ 39 ∷ (w ++ (39 ∷ u)) = λ u. ap (λ (l : List ℕ). l ++ u) f.1 ∙ ap (λ (l : List ℕ). 39 ∷ l) (append_assoc w (39 ∷ []) u) in
        ap (uncommented false) (l t) ∙ byte-quote (w ++ (39 ∷ t)) ∙ ap (λ (l : List ℕ). 39 ∷ l) (quoted-closed w t f.2) ∙ sym (l (uncommented false t))

    pub plain-quoted : r ≤ length s → plain_at s i ≡ part i r s ++ plain_at s r
    plain-quoted g = ap (uncommented false) (part-rest s i r (omega (arith, (n.found g).0))) ∙ quoted-alone g (drop r s)

    pub plain-unpaired : length s < r → plain_at s i ≡ 39 ∷ drop (i + 1) s
    plain-unpaired g =
        ap (uncommented false) (at-cons h ∙ ap (λ (b : ℕ). b ∷ drop (i + 1) s) e)
        ∙ byte-quote (drop (i + 1) s)
        ∙ ap (λ (l : List ℕ). 39 ∷ l) (quoted-open (drop (i + 1) s) (n.lacking g).1)

-- ---- what stands there

-- a comment reads as a blank, or as its bracket where it never ends
pub comment-as : (P : List ℕ → Type 0) → P (91 ∷ []) → ((t : List ℕ) → P (32 ∷ t)) → (s : List ℕ) → P (behind_comment s)
unfolding behind_comment
comment-as P a f [] = a
comment-as P a f (b ∷ s) = by-elim P (eqb b 93) (λ e. f (uncommented false s)) (λ e. comment-as P a f s)

pub plain-as : (P : List ℕ → Type 0) (s : List ℕ) (i : ℕ) → i < length s → P (91 ∷ []) → ((t : List ℕ) → P (32 ∷ t))
    → ((t : List ℕ) → P (get_or s i 0 ∷ t)) → P (plain_at s i)
plain-as P s i h a f g =
    ⊎_elim
    (λ e. subst P (sym (plain-comment s i h e)) (comment-as P a f (drop (i + 1) s)))
    (λ n. let t = plain-front s i h n in subst P (sym t.1) (g t.0))
    (equal_or_not (get_or s i 0) 91)

-- ---- behind blanks

pub blanks-only : (s : List ℕ) (i r : ℕ) → Skipped s i r → every is_blank (plain_at s i) ≡ eqb r (length s)
blanks-only s i r k = ⊎_elim some-there none-there (less-or-not r (length s))
  where
    some-there : r < length s → every is_blank (plain_at s i) ≡ eqb r (length s)
    some-there h =
        let p = plain-as (λ l. (b : ℕ) × (q : List ℕ) × (l ≡ b ∷ q)) s r h (91, [], refl) (λ t. (32, t, refl)) (λ t. (_, t, refl)) in
        blank-not is_blank (plain_at s i) p.1 p.0 (k.plain ∙ p.2) ∙ sym (ne_eqb r (length s) (λ e. omega arith))

    none-there : length s ≤ r → every is_blank (plain_at s i) ≡ eqb r (length s)
    none-there h =
        let w = k.within in
        blank-all is_blank (plain_at s i) (k.plain ∙ plain-none s r h) ∙ sym (eq-eqb r (length s) (omega arith))
