-- Laws of the parts of bytes between their bytes x outside quotes. Assumes nothing.
--
--   first_part x q s, later_parts x q s     the first part of s, and the later ones; q: whether quotes are open before s
--   parts-split                           they are the parts of s
--   run-part, behind-part, later-part     a run of bytes, none of which is x or a quote, at the front of a part and of the whole
--   quoted-part, behind-quoted, later-quoted     so a run in quotes
--   label-part, behind-label, later-label        so a label
use Rattle.std.specs.Prelude.{ℕ, ◌≡◌, Bool, ◌&&◌, not, if◌then◌else◌}
use Rattle.std.proofs.Math.Path.{refl, sym, ap, ap₂}
use Rattle.std.proofs.Common.{◌∙◌, true≢false, eqb-true}
use Rattle.std.proofs.Math.Bool.{true, false}
use mathlib.Core.List.{List, [], ◌∷◌}
use Rattle.std.proofs.Math.Dec.{eqb}
use Rattle.trees.specs.Text.{apostrophe, is_label_byte, turned, with_byte, parts}
use Rattle.trees.specs.Nexus.{run_of, behind_run, begins}
use Rattle.trees.specs.NexusReading.{quoted_run, behind_quoted, label_run, behind_label}
use Rattle.theorems.specs.ListLaws.{if-true, if-false}
use Rattle.theorems.specs.QuoteLaws.{other-turned}
use Rattle.theorems.specs.OutsideLaws.{other_byte}
use Rattle.theorems.specs.RunOfLaws.{run-here, run-over, behind-here}

unfoldable pub first_part : ℕ → Bool → List ℕ → List ℕ
unfolding turned
first_part x q [] = []
first_part x q (b ∷ s) = if not q && eqb b x then [] else b ∷ first_part x (turned q b) s

unfoldable pub later_parts : ℕ → Bool → List ℕ → List (List ℕ)
unfolding parts turned
later_parts x q [] = []
later_parts x q (b ∷ s) = if not q && eqb b x then parts x (turned q b) s else later_parts x (turned q b) s

pub parts-split : (x : ℕ) (q : Bool) (s : List ℕ) → parts x q s ≡ first_part x q s ∷ later_parts x q s
unfolding parts with_byte first_part later_parts
parts-split x q [] = refl
parts-split x q (b ∷ s) = go (not q && eqb b x) (parts-split x (turned q b) s)
  where
    go : (t : Bool) → parts x (turned q b) s ≡ first_part x (turned q b) s ∷ later_parts x (turned q b) s
        → (if t then [] ∷ parts x (turned q b) s else with_byte b (parts x (turned q b) s))
        ≡ (if t then [] else b ∷ first_part x (turned q b) s) ∷ (if t then parts x (turned q b) s else later_parts x (turned q b) s)
    go true e = refl
    go false e = ap (with_byte b) e

-- ---- runs of bytes that pass a test

module _ (x : ℕ) (p : ℕ → Bool) (no : p x ≡ false) (bare : p apostrophe ≡ false) where
  still : (b : ℕ) → p b ≡ true → turned false b ≡ false
  still b e = other-turned false b (other_byte p b apostrophe e bare)

  pub run-part : (s : List ℕ) → run_of p (first_part x false s) ≡ run_of p s
  unfolding run_of first_part begins
  run-part [] = refl
  run-part (b ∷ s) = go (eqb b x) (p b) refl refl (run-part s)
    where
      go : (t u : Bool) → eqb b x ≡ t → p b ≡ u → run_of p (first_part x false s) ≡ run_of p s
          → run_of p (if t then [] else b ∷ first_part x (turned false b) s) ≡ run_of p (b ∷ s)
      go true u e q f = sym (run-over p (b ∷ s) (ap p (eqb-true b x e) ∙ no))
      go false true e q f =
          run-here p b (first_part x (turned false b) s) q
          ∙ ap (λ (l : List ℕ). b ∷ l) (ap (λ (o : Bool). run_of p (first_part x o s)) (still b q) ∙ f)
          ∙ sym (run-here p b s q)
      go false false e q f = run-over p (b ∷ first_part x (turned false b) s) q ∙ sym (run-over p (b ∷ s) q)

  pub behind-part : (s : List ℕ) → behind_run p (first_part x false s) ≡ first_part x false (behind_run p s)
  unfolding behind_run first_part
  behind-part [] = refl
  behind-part (b ∷ s) = go (eqb b x) (p b) refl refl (behind-part s)
    where
      go : (t u : Bool) → eqb b x ≡ t → p b ≡ u → behind_run p (first_part x false s) ≡ first_part x false (behind_run p s)
          → behind_run p (if t then [] else b ∷ first_part x (turned false b) s) ≡ first_part x false (if u then behind_run p s else b ∷ s)
      go true true e q f = absurd (true≢false (sym q ∙ ap p (eqb-true b x e) ∙ no))
      go true false e q f = sym (if-true _ _ e)
      go false true e q f = behind-here p b (first_part x (turned false b) s) q ∙ ap (λ (o : Bool). behind_run p (first_part x o s)) (still b q) ∙ f
      go false false e q f = if-false _ _ q ∙ sym (if-false _ _ e)

  pub later-part : (s : List ℕ) → later_parts x false (behind_run p s) ≡ later_parts x false s
  unfolding behind_run later_parts
  later-part [] = refl
  later-part (b ∷ s) = go (p b) refl (later-part s)
    where
      go : (u : Bool) → p b ≡ u → later_parts x false (behind_run p s) ≡ later_parts x false s
          → later_parts x false (if u then behind_run p s else b ∷ s) ≡ later_parts x false (b ∷ s)
      go true q f = f ∙ sym (if-false _ _ (other_byte p b x q no) ∙ ap (λ (o : Bool). later_parts x o s) (still b q))
      go false q f = refl

-- ---- runs in quotes, where x is no quote

module _ (x : ℕ) (other : eqb x apostrophe ≡ false) (less : eqb apostrophe x ≡ false) where
  -- a quote is not x, and x is none
  quote-other : (b : ℕ) → eqb b apostrophe ≡ true → eqb b x ≡ false
  quote-other b e = ap (λ (c : ℕ). eqb c x) (eqb-true b apostrophe e) ∙ less

  end-other : (b : ℕ) → eqb b x ≡ true → eqb b apostrophe ≡ false
  end-other b e = ap (λ (c : ℕ). eqb c apostrophe) (eqb-true b x e) ∙ other

  pub quoted-part : (q : Bool) (s : List ℕ) → quoted_run q (first_part x q s) ≡ quoted_run q s
  unfolding quoted_run first_part
  quoted-part q [] = refl
  quoted-part true (b ∷ s) = ap (λ (l : List ℕ). b ∷ l) (quoted-part (turned true b) s)
  quoted-part false (b ∷ s) = go (eqb b x) refl (quoted-part (turned false b) s)
    where
      go : (t : Bool) → eqb b x ≡ t → quoted_run (turned false b) (first_part x (turned false b) s) ≡ quoted_run (turned false b) s
          → quoted_run false (if t then [] else b ∷ first_part x (turned false b) s) ≡ quoted_run false (b ∷ s)
      go true e f = sym (if-false _ _ (end-other b e))
      go false e f = ap (λ (l : List ℕ). if eqb b apostrophe then b ∷ l else []) f

  pub behind-quoted : (q : Bool) (s : List ℕ) → behind_quoted q (first_part x q s) ≡ first_part x false (behind_quoted q s)
  unfolding behind_quoted first_part
  behind-quoted q [] = refl
  behind-quoted true (b ∷ s) = behind-quoted (turned true b) s
  behind-quoted false (b ∷ s) = go (eqb b x) (eqb b apostrophe) refl refl (behind-quoted (turned false b) s)
    where
      go : (t u : Bool) → eqb b x ≡ t → eqb b apostrophe ≡ u
          → behind_quoted (turned false b) (first_part x (turned false b) s) ≡ first_part x false (behind_quoted (turned false b) s)
          → behind_quoted false (if t then [] else b ∷ first_part x (turned false b) s) ≡ first_part x false (if u then behind_quoted (turned false b) s else b ∷ s)
      go true true e q f = absurd (true≢false (sym e ∙ quote-other b q))
      go true false e q f = sym (if-true _ _ e)
      go false true e q f = if-true _ _ q ∙ f
      go false false e q f = if-false _ _ q ∙ sym (if-false _ _ e)

  pub later-quoted : (q : Bool) (s : List ℕ) → later_parts x false (behind_quoted q s) ≡ later_parts x q s
  unfolding behind_quoted later_parts
  later-quoted q [] = refl
  later-quoted true (b ∷ s) = later-quoted (turned true b) s
  later-quoted false (b ∷ s) = go (eqb b apostrophe) refl (later-quoted (turned false b) s)
    where
      go : (u : Bool) → eqb b apostrophe ≡ u → later_parts x false (behind_quoted (turned false b) s) ≡ later_parts x (turned false b) s
          → later_parts x false (if u then behind_quoted (turned false b) s else b ∷ s) ≡ later_parts x false (b ∷ s)
      go true q f = f ∙ sym (if-false _ _ (quote-other b q))
      go false q f = refl

  -- ---- labels, where x is no label byte

  module _ (no : is_label_byte x ≡ false) (bare : is_label_byte apostrophe ≡ false) where
    begins-part : (s : List ℕ) → begins (eqb apostrophe) (first_part x false s) ≡ begins (eqb apostrophe) s
    unfolding begins first_part
    begins-part [] = refl
    begins-part (b ∷ s) = go (eqb b x) refl
      where
        go : (t : Bool) → eqb b x ≡ t → begins (eqb apostrophe) (if t then [] else b ∷ first_part x (turned false b) s) ≡ eqb apostrophe b
        go true e = sym (ap (eqb apostrophe) (eqb-true b x e) ∙ less)
        go false e = refl

    pub label-part : (s : List ℕ) → label_run (first_part x false s) ≡ label_run s
    unfolding label_run
    label-part s =
        ap (λ (t : Bool). if t then quoted_run false (first_part x false s) else run_of is_label_byte (first_part x false s)) (begins-part s)
        ∙ ap₂ (λ (v w : List ℕ). if begins (eqb apostrophe) s then v else w) (quoted-part false s) (run-part x is_label_byte no bare s)

    pub behind-label : (s : List ℕ) → behind_label (first_part x false s) ≡ first_part x false (behind_label s)
    unfolding behind_label
    behind-label s =
        ap (λ (t : Bool). if t then behind_quoted false (first_part x false s) else behind_run is_label_byte (first_part x false s)) (begins-part s)
        ∙ ap₂ (λ (v w : List ℕ). if begins (eqb apostrophe) s then v else w) (behind-quoted false s) (behind-part x is_label_byte no bare s)
        ∙ go (begins (eqb apostrophe) s)
      where
        go : (t : Bool) → (if t then first_part x false (behind_quoted false s) else first_part x false (behind_run is_label_byte s))
            ≡ first_part x false (if t then behind_quoted false s else behind_run is_label_byte s)
        go true = refl
        go false = refl

    pub later-label : (s : List ℕ) → later_parts x false (behind_label s) ≡ later_parts x false s
    unfolding behind_label
    later-label s = go (begins (eqb apostrophe) s)
      where
        go : (t : Bool) → later_parts x false (if t then behind_quoted false s else behind_run is_label_byte s) ≡ later_parts x false s
        go true = later-quoted false s
        go false = later-part x is_label_byte no bare s
