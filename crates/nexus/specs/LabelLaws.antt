-- Laws of labels at places, as they stand there: with their quotes, if they have any. Assumes nothing.
-- Bytes: 39 is the apostrophe, 91 `[`, and 32 a blank.
--
--   quoted-plain, behind-plain     a run in quotes at the front of bytes with a blank for each comment, and what stands behind it
--   has_there, has-not             whether a byte stands at a place
--   quote-begins, none-begins      whether a quote does, in the bytes that are read there
--   label-none, label-quoted, label-bare     the label at a place: what stands in quotes is none, or is one, or there are none
use Rattle.std.specs.Prelude.{ℕ, ◌≤◌, ◌<◌, ◌≡◌, Bool, List, [], ◌∷◌, get_or, drop, if◌then◌else◌}
use Rattle.std.proofs.Common.{arith, ◌∙◌}
use Rattle.std.proofs.Math.Path.{refl, sym, ap}
use Rattle.std.proofs.Math.Logic.{⊎_elim}
use Rattle.std.proofs.Math.Bool.{true, false, true≢false}
use Rattle.std.proofs.Math.Dec.{eqb, ltb}
use Rattle.std.proofs.Math.ListN.{length}
use borrow.Author.Tests.{eqb-true, eq-eqb, ne_eqb, ltb-true, lt-ltb}
use Rattle.trees.specs.Text.{turned, is_label}
use Rattle.trees.specs.Nexus.{begins, uncommented, behind_comment}
use Rattle.trees.specs.NexusReading.{quoted_run, behind_quoted, label_run, behind_label}
use Rattle.theorems.specs.ListLaws.{if-true, if-false, less-or-not}
use Rattle.theorems.specs.LabelLaws.{plain_label}
use Rattle.text.specs.Read.{has_byte, RunEnd, QuotedEnd}
use Rattle.nexus.specs.Places.{part, plain_at, Skipped}
use Rattle.nexus.specs.Commands.{LabelAt}
use Rattle.nexus.specs.PartLaws.{part_none, part_length}
use Rattle.nexus.specs.ByteLaws.{none-begun, one-begun}
use Rattle.nexus.specs.PlaceLaws.{plain-none, plain-front, plain-as, comment-as}
use Rattle.nexus.specs.TokenLaws.{label-every, label_at, label-behind}
use Rattle.nexus.specs.KeyLaws.{part_slice}

-- ---- runs in quotes

-- a comment reads as a byte that is no quote
comment-run : (s : List ℕ) → quoted_run false (behind_comment s) ≡ []
unfolding quoted_run
comment-run s = comment-as (λ (l : List ℕ). quoted_run false l ≡ []) refl (λ t. refl) s

comment-behind : (s : List ℕ) → behind_quoted false (behind_comment s) ≡ behind_comment s
unfolding behind_quoted
comment-behind s = comment-as (λ (l : List ℕ). behind_quoted false l ≡ l) refl (λ t. refl) s

quoted-plain : (q : Bool) (s : List ℕ) → quoted_run q (uncommented q s) ≡ quoted_run q s
unfolding quoted_run uncommented
quoted-plain q [] = refl
quoted-plain true (b ∷ s) = ap (λ (l : List ℕ). b ∷ l) (quoted-plain (turned true b) s)
quoted-plain false (b ∷ s) = go (eqb b 91) refl (quoted-plain (turned false b) s)
  where
    go : (t : Bool) → eqb b 91 ≡ t → quoted_run (turned false b) (uncommented (turned false b) s) ≡ quoted_run (turned false b) s
        → quoted_run false (uncommented false (b ∷ s)) ≡ quoted_run false (b ∷ s)
    go true e f = ap (quoted_run false) (one-begun b s e) ∙ comment-run s ∙ sym (if-false _ _ (ap (λ (c : ℕ). eqb c 39) (eqb-true b 91 e)))
    go false e f = ap (quoted_run false) (none-begun b s false e) ∙ ap (λ (l : List ℕ). if eqb b 39 then b ∷ l else []) f

behind-plain : (q : Bool) (s : List ℕ) → behind_quoted q (uncommented q s) ≡ uncommented false (behind_quoted q s)
unfolding behind_quoted uncommented
behind-plain q [] = refl
behind-plain true (b ∷ s) = behind-plain (turned true b) s
behind-plain false (b ∷ s) = go (eqb b 91) (eqb b 39) refl refl (behind-plain (turned false b) s)
  where
    go : (t u : Bool) → eqb b 91 ≡ t → eqb b 39 ≡ u
        → behind_quoted (turned false b) (uncommented (turned false b) s) ≡ uncommented false (behind_quoted (turned false b) s)
        → behind_quoted false (uncommented false (b ∷ s)) ≡ uncommented false (if u then behind_quoted (turned false b) s else b ∷ s)
    go true true e q f = absurd (true≢false (sym e ∙ ap (λ (c : ℕ). eqb c 91) (eqb-true b 39 q)))
    go true false e q f = ap (behind_quoted false) (one-begun b s e) ∙ comment-behind s ∙ sym (one-begun b s e)
    go false true e q f = ap (behind_quoted false) (none-begun b s false e) ∙ if-true _ _ q ∙ f
    go false false e q f = ap (behind_quoted false) (none-begun b s false e) ∙ if-false _ _ q ∙ sym (none-begun b s false e)

-- ---- a byte at a place

module _ (s : List ℕ) (i b : ℕ) where
  pub has_there : has_byte s i b ≡ true → (i < length s) × (get_or s i 0 ≡ b)
  unfolding has_byte
  has_there e = go (ltb i (length s)) refl e
    where
      go : (t : Bool) → ltb i (length s) ≡ t → (if t then eqb (get_or s i 0) b else false) ≡ true → (i < length s) × (get_or s i 0 ≡ b)
      go true l f = (ltb-true i (length s) l, eqb-true (get_or s i 0) b f)
      go false l f = absurd (true≢false (sym f))

  has-not : has_byte s i b ≡ false → i < length s → get_or s i 0 ≡ b → ⊥
  unfolding has_byte
  has-not e h q =
      true≢false (sym (eq-eqb (get_or s i 0) b q) ∙ sym (ap (λ (t : Bool). if t then eqb (get_or s i 0) b else false) (lt-ltb i (length s) h)) ∙ e)

module _ (s : List ℕ) (i : ℕ) where
  quote-begins : i < length s → get_or s i 0 ≡ 39 → begins (eqb 39) (plain_at s i) ≡ true
  unfolding begins
  quote-begins h e = ap (begins (eqb 39)) (plain-front s i h (λ x. omega arith)).1 ∙ ap (eqb 39) e

  pub none-begins : (i < length s → get_or s i 0 ≡ 39 → ⊥) → begins (eqb 39) (plain_at s i) ≡ false
  unfolding begins
  none-begins f =
      ⊎_elim
      (λ h. plain-as (λ l. begins (eqb 39) l ≡ false) s i h refl (λ t. refl) (λ t. ne_eqb 39 (get_or s i 0) (λ q. f h (sym q))))
      (λ h. ap (begins (eqb 39)) (plain-none s i h))
      (less-or-not i (length s))

-- ---- the label at i, behind blanks and comments from `from` on

module _ (s : List ℕ) (from i : ℕ) (k : Skipped s from i) where
  -- a run in quotes
  module _ (h : i < length s) (e : get_or s i 0 ≡ 39) (r : ℕ) (x : QuotedEnd s i r) where
    run-quoted : label_run (plain_at s i) ≡ quoted_run false (drop i s)
    unfolding label_run
    run-quoted = if-true _ _ (quote-begins s i h e) ∙ quoted-plain false (drop i s)

    behind-run : behind_label (plain_at s i) ≡ uncommented false (behind_quoted false (drop i s))
    unfolding behind_label
    behind-run = if-true _ _ (quote-begins s i h e) ∙ behind-plain false (drop i s)

    pub label-none : length s < r → LabelAt s from (record { from = i; end = i })
    label-none g =
        record {
          order = omega arith;
          within = k.within;
          blanks = k.plain;
          none = λ q. ap is_label run-quoted ∙ (x.fault g).1;
          some = λ n. absurd (n refl);
        }

    pub label-quoted : r ≤ length s → LabelAt s from (record { from = i; end = r })
    label-quoted g =
        let y = x.good g in
        let p = part_slice s i r (omega arith) in
        record {
          order = omega arith;
          within = g;
          blanks = k.plain;
          none = λ q. absurd (omega arith);
          some = λ n.
              record {
                label = ap is_label p ∙ y.1;
                run = run-quoted ∙ y.2 ∙ sym p;
                behind = behind-run ∙ ap (uncommented false) y.3;
              };
        }

  -- a token, or nothing
  module _ (e : has_byte s i 39 ≡ false) (r : ℕ) (w : RunEnd s i r) where
    run-bare : label_run (plain_at s i) ≡ part i r s
    unfolding label_run
    run-bare = if-false _ _ (none-begins s i (has-not s i 39 e)) ∙ label_at s i r w

    pub label-bare : LabelAt s from (record { from = i; end = r })
    unfolding behind_label is_label
    label-bare =
        record {
          order = w.past;
          within = w.within;
          blanks = k.plain;
          none = λ q. ap is_label (run-bare ∙ part_none s i r q);
          some = λ n.
              record {
                label = plain_label (part i r s) (omega (arith, part_length s i r w.past w.within, w.past, n)) (label-every s i r w);
                run = run-bare;
                behind = if-false _ _ (none-begins s i (has-not s i 39 e)) ∙ label-behind s i r w;
              };
        }
