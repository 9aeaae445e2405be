-- Laws of a command's end. Assumes nothing.
-- Bytes: 59 `;`, 91 `[` and 93 `]`, 39, the apostrophe, and 32, a blank.
--
--   leads_one             bytes none of which parts them are one part
--   leads-quoted          in quotes no byte parts
--   Clean a               no comment and no quotes of the bytes a are left open, and no semicolon stands outside them
--   clean-as, clean-join, clean-plain, clean-comment, clean-quoted, clean-hidden     bytes that are read as such, one run behind another, plain bytes, a comment, a run in quotes, one of these
--   open-comment, open-quoted, open-hidden     a comment, a run in quotes, one of these that never ends
--   Passed s i r          the bytes of s from i up to r are clean, and at r stands no plain byte
--   passed_first, passed-more     plain bytes; a comment or a run in quotes more, and plain bytes behind it
--   command-here, command-open, command-last     the command ends at its semicolon; at the file's end, in a comment, in quotes or behind its last byte
use Rattle.std.specs.Prelude.{ℕ, ◌+◌, ◌≤◌, ◌<◌, ◌≡◌, Bool, not, ◌⊎◌, eqb, length, get_or}
use Rattle.std.proofs.Common.{arith, sym, ◌∙◌, true≢false, inl, inr, ⊎_elim, eqb-true, eq-eqb, ne_eqb}
use Rattle.std.proofs.Math.Path.{refl, ap, subst}
use Rattle.std.proofs.Math.Bool.{true, false}
use mathlib.Core.List.{List, [], ◌∷◌, ◌++◌, append_assoc, append-nil}
use Rattle.std.proofs.Math.ListN.{drop}
use Rattle.std.proofs.lemmas.Bool.{not-true}
use Rattle.trees.specs.Plain.{every}
use Rattle.trees.specs.Text.{semicolon, turned, with_byte, parts}
use Rattle.trees.specs.Nexus.{uncommented}
use Rattle.theorems.specs.ListLaws.{if-false, and_left, and_right, and-true}
use Rattle.theorems.specs.QuoteLaws.{other-turned}
use Rattle.theorems.specs.OutsideLaws.{Leads, leads-none, leads-more, leads-append, leads-over, leads-cut, leads-open}
use Rattle.nexus.specs.Places.{part, plain_at, other, NextByte, plain, PlainEnd, closing, CommandEnd}
use Rattle.nexus.specs.ByteLaws.{one-begun, plain-append}
use Rattle.nexus.specs.PlaceLaws.{plain-none, plain_byte, plain-comment, quoted-part, quoted-alone, plain-unpaired}
use Rattle.nexus.specs.PartLaws.{part-first, part_join, part-rest}
use Rattle.nexus.specs.CommentLaws.{comment-ended}
use Rattle.nexus.specs.PlainLaws.{run-every}

-- ---- parts

leads_one : {x : ℕ} {q r : Bool} {w : List ℕ} → Leads x q w r → parts x q w ≡ w ∷ []
unfolding parts with_byte
leads_one leads-none = refl
leads_one (leads-more {b = b} e l) = if-false _ _ e ∙ ap (with_byte b) (leads_one l)

leads-quoted : (x : ℕ) (w : List ℕ) → every (other 39) w ≡ true → Leads x true w true
unfolding every
leads-quoted x [] e = leads-none
leads-quoted x (b ∷ w) e =
    let t = other-turned true b (not-true (eqb b 39) (and_left (other 39 b) (every (other 39) w) e)) in
    leads-more refl (subst (λ (q : Bool). Leads x q w true) (sym t) (leads-quoted x w (and_right (other 39 b) (every (other 39) w) e)))

-- ---- clean bytes

pub record Clean (a : List ℕ) : Type 0 where
  pub closed : (t : List ℕ) → uncommented false (a ++ t) ≡ uncommented false a ++ uncommented false t
  pub bare : Leads semicolon false (uncommented false a) false

-- bytes that are read as u, whatever stands behind them
clean-as : (a u : List ℕ) → Leads semicolon false u false → ((t : List ℕ) → uncommented false (a ++ t) ≡ u ++ uncommented false t) → Clean a
unfolding uncommented
clean-as a u l f =
    let e : uncommented false a ≡ u = ap (uncommented false) (sym (append-nil a)) ∙ f [] ∙ append-nil u in
    record { closed = λ t. f t ∙ ap (λ (l : List ℕ). l ++ uncommented false t) (sym e); bare = subst (λ (l : List ℕ). Leads semicolon false l false) (sym e) l }

clean-join : (a b : List ℕ) → Clean a → Clean b → Clean (a ++ b)
clean-join a b c d =
    clean-as (a ++ b) (uncommented false a ++ uncommented false b) (leads-append semicolon c.bare d.bare)
    (λ t.
    ap (uncommented false) (append_assoc a b t)
    ∙ c.closed (b ++ t)
    ∙ ap (λ (l : List ℕ). uncommented false a ++ l) (d.closed t)
    ∙ sym (append_assoc (uncommented false a) (uncommented false b) (uncommented false t)))

clean-plain : (a : List ℕ) → every plain a ≡ true → Clean a
clean-plain a e = clean-as a a (leads-over semicolon plain refl refl false a e) (λ t. plain-append plain refl refl a t e)

-- ---- a command

pub record Passed (s : List ℕ) (i r : ℕ) : Type 0 where
  pub past : i ≤ r
  pub within : r ≤ length s
  pub clean : Clean (part i r s)
  pub stop : r < length s → plain (get_or s r 0) ≡ false

pub passed_first : (s : List ℕ) (i r : ℕ) → PlainEnd s i r → Passed s i r
passed_first s i r d = record { past = d.past; within = d.within; clean = clean-plain _ (run-every s i r d); stop = d.stop }

-- a byte that is not plain, and no semicolon
begins-hidden : (b : ℕ) → plain b ≡ false → (b ≡ 59 → ⊥) → (b ≡ 91) ⊎ (b ≡ 39)
begins-hidden b e n = go (eqb b 91) (eqb b 39) refl refl
  where
    go : (t u : Bool) → eqb b 91 ≡ t → eqb b 39 ≡ u → (b ≡ 91) ⊎ (b ≡ 39)
    go true u f g = inl (eqb-true b 91 f)
    go false true f g = inr (eqb-true b 39 g)
    go false false f g = absurd (true≢false (sym (and-true (ap not (ne_eqb b 59 n)) (and-true (ap not f) (ap not g))) ∙ e))

-- what begins at r, a comment or a run in quotes, and ends with the byte x
module _ (s : List ℕ) (r e x : ℕ) (h : r < length s) (k : x ≡ closing (get_or s r 0)) (c : NextByte s x (r + 1) e) where
  as-comment : get_or s r 0 ≡ 91 → NextByte s 93 (r + 1) e
  as-comment q = subst (λ (b : ℕ). NextByte s b (r + 1) e) (k ∙ ap closing q) c

  as-quoted : get_or s r 0 ≡ 39 → NextByte s 39 (r + 1) e
  as-quoted q = subst (λ (b : ℕ). NextByte s b (r + 1) e) (k ∙ ap closing q) c

  clean-comment : get_or s r 0 ≡ 91 → e ≤ length s → Clean (part r e s)
  clean-comment q g =
      clean-as (part r e s) (32 ∷ []) (leads-over semicolon plain refl refl false (32 ∷ []) (unfold every in refl))
      (λ t.
      ap (λ (l : List ℕ). uncommented false (l ++ t)) (part-first s r e (omega (arith, (c.found g).0)) h)
      ∙ one-begun _ _ (eq-eqb _ _ q)
      ∙ (comment-ended s (r + 1) e (as-comment q)).alone g t)

  clean-quoted : get_or s r 0 ≡ 39 → e ≤ length s → Clean (part r e s)
  unfolding turned
  clean-quoted q g =
      let p = quoted-part s r h q e (as-quoted q) g in
      let closed : Leads semicolon true (39 ∷ []) false = leads-more refl leads-none in
      let l : Leads semicolon false (39 ∷ (p.0 ++ (39 ∷ []))) false = leads-more refl (leads-append semicolon (leads-quoted semicolon p.0 p.2) closed) in
      clean-as (part r e s) (part r e s) (subst (λ (l : List ℕ). Leads semicolon false l false) (sym p.1) l) (quoted-alone s r h q e (as-quoted q) g)

  -- it never ends: the rest is one part
  open-comment : get_or s r 0 ≡ 91 → length s < e → Leads semicolon false (plain_at s r) false
  unfolding turned
  open-comment q g =
      let l : Leads semicolon false (91 ∷ []) false = leads-more refl leads-none in
      subst (λ (l : List ℕ). Leads semicolon false l false) (sym (plain-comment s r h q ∙ ((comment-ended s (r + 1) e (as-comment q)).unclosed g).1)) l

  open-quoted : get_or s r 0 ≡ 39 → length s < e → Leads semicolon false (plain_at s r) true
  unfolding turned
  open-quoted q g =
      let l : Leads semicolon false (39 ∷ drop (r + 1) s) true = leads-more refl (leads-quoted semicolon (drop (r + 1) s) ((as-quoted q).lacking g).1) in
      subst (λ (l : List ℕ). Leads semicolon false l true) (sym (plain-unpaired s r h q e (as-quoted q) g)) l

  module _ (b : plain (get_or s r 0) ≡ false) (n : get_or s r 0 ≡ 59 → ⊥) where
    clean-hidden : e ≤ length s → Clean (part r e s)
    clean-hidden g = ⊎_elim (λ q. clean-comment q g) (λ q. clean-quoted q g) (begins-hidden _ b n)

    open-hidden : length s < e → (q : Bool) × Leads semicolon false (plain_at s r) q
    open-hidden g = ⊎_elim (λ q. (false, open-comment q g)) (λ q. (true, open-quoted q g)) (begins-hidden _ b n)

module _ (s : List ℕ) (i r : ℕ) (d : Passed s i r) where
  pub passed-more : (e n x : ℕ) → r < length s → (get_or s r 0 ≡ 59 → ⊥) → x ≡ closing (get_or s r 0) → NextByte s x (r + 1) e → e ≤ length s → PlainEnd s e n
      → Passed s i n
  passed-more e n x h q k c g p =
      let l = (c.found g).0 in
      let f = clean-join _ _ (clean-hidden s r e x h k c (d.stop h) q g) (clean-plain _ (run-every s e n p)) in
      let j = part_join s i r n d.past (omega (arith, p.past)) ∙ ap (λ (l : List ℕ). part i r s ++ l) (part_join s r e n (omega arith) p.past) in
      record {
        past = omega (arith, d.past, p.past);
        within = p.within;
        clean = subst Clean (sym j) (clean-join _ _ d.clean f);
        stop = p.stop;
      }

  plain-from : plain_at s i ≡ uncommented false (part i r s) ++ plain_at s r
  plain-from = ap (uncommented false) (part-rest s i r d.past) ∙ d.clean.closed (drop r s)

  -- what stands at r is one part
  command-rest : (e : ℕ) → i ≤ e → e ≡ length s → (q : Bool) → Leads semicolon false (plain_at s r) q → CommandEnd s i e
  command-rest e h f q l =
      record {
        past = h;
        within = omega arith;
        more = λ g. absurd (omega arith);
        paired = λ g. absurd (omega arith);
        last = λ _. leads_one (subst (λ (l : List ℕ). Leads semicolon false l q) (sym plain-from) (leads-append semicolon d.clean.bare l));
      }

  pub command-here : r < length s → get_or s r 0 ≡ 59 → CommandEnd s i r
  command-here h q =
      let b = plain_byte s r h (λ e. omega (arith, q, e)) (λ e. omega (arith, q, e)) ∙ ap (λ (x : ℕ). x ∷ plain_at s (r + 1)) q in
      record {
        past = d.past;
        within = d.within;
        more = λ _. ap (parts semicolon false) (plain-from ∙ ap (λ (l : List ℕ). uncommented false (part i r s) ++ l) b) ∙ leads-cut d.clean.bare (plain_at s (r + 1));
        paired = λ _. leads-open d.clean.bare;
        last = λ e. absurd (omega arith);
      }

  pub command-open : (e x : ℕ) → r < length s → (get_or s r 0 ≡ 59 → ⊥) → x ≡ closing (get_or s r 0) → NextByte s x (r + 1) e → length s < e
      → CommandEnd s i (length s)
  command-open e x h q k c g =
      let o = open-hidden s r e x h k c (d.stop h) q g in
      command-rest (length s) (omega (arith, d.past)) refl o.0 o.1

  pub command-last : length s ≤ r → CommandEnd s i r
  command-last h =
      command-rest r d.past (omega (arith, d.within)) false (subst (λ (l : List ℕ). Leads semicolon false l false) (sym (plain-none s r h)) leads-none)
