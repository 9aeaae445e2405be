-- Laws of bytes that stand outside quotes. Assumes nothing.
--
--   Leads x q w r         no byte x of w stands outside quotes, and the bytes w lead from quotes q to quotes r: open or not
--   other_byte            a byte that passes a test is none that fails it
--   leads-append          one run behind another
--   leads-over            bytes that pass a test, which x and the apostrophe fail
--   leads-behind          what stands behind such bytes
--   hides-leads           bytes that pass the tests for it lead so
--   label-leads           a label leads from closed quotes to closed ones
--   leads-open, leads-unended, leads-cut, leads-uncommented     what this says of quotes, ends of texts, parts and comments
use Rattle.std.specs.Prelude.{ℕ, ◌≡◌, refl, Bool, false, ◌&&◌, ◌||◌, not}
use Rattle.std.proofs.Common.{ap, sym, ◌∙◌, true≢false, ne_eqb}
use Rattle.std.proofs.Math.Path.{subst}
use Rattle.std.proofs.Math.Bool.{true}
use mathlib.Core.List.{List, [], ◌∷◌, ◌++◌}
use Rattle.std.proofs.Math.Dec.{eqb}
use Rattle.trees.specs.Plain.{every}
use Rattle.trees.specs.Text.{semicolon, apostrophe, is_label_byte, turned, open_after, ends_text, has_end, with_byte, parts, is_label}
use Rattle.trees.specs.Nexus.{uncommented, behind_comment}
use Rattle.theorems.specs.ListLaws.{if-false, and_left, and_right}
use Rattle.theorems.specs.QuoteLaws.{other-turned, or-none, or-rest}
use Rattle.theorems.specs.LabelLaws.{outside, label-closed, label-hides}

pub data Leads (x : ℕ) : Bool → List ℕ → Bool → Type 0 where
  leads-none : {q : Bool} → Leads x q [] q
  leads-more : {q r : Bool} {b : ℕ} {w : List ℕ} → (not q && eqb b x) ≡ false → Leads x (turned q b) w r → Leads x q (b ∷ w) r

-- ---- what it says

pub leads-open : {x : ℕ} {q r : Bool} {w : List ℕ} → Leads x q w r → open_after q w ≡ r
unfolding open_after
leads-open leads-none = refl
leads-open (leads-more e l) = leads-open l

pub leads-unended : {q r : Bool} {w : List ℕ} → Leads semicolon q w r → has_end q w ≡ false
unfolding has_end ends_text
leads-unended leads-none = refl
leads-unended (leads-more {q = q} {b = b} {w = w} e l) = ap (λ (t : Bool). t || has_end (turned q b) w) e ∙ leads-unended l

-- bytes up to the first semicolon outside quotes are the first part
pub leads-cut : {q : Bool} {w : List ℕ} → Leads semicolon q w false → (s : List ℕ) → parts semicolon q (w ++ (semicolon ∷ s)) ≡ w ∷ parts semicolon false s
unfolding parts with_byte
leads-cut leads-none s = refl
leads-cut (leads-more {b = b} e l) s = if-false _ _ e ∙ ap (with_byte b) (leads-cut l s)

pub leads-uncommented : {q r : Bool} {w : List ℕ} → Leads 91 q w r → uncommented q w ≡ w
unfolding uncommented
leads-uncommented leads-none = refl
leads-uncommented (leads-more {q = q} {b = b} {w = w} e l) =
    ap (λ (t : Bool). elim t as (λ _. List ℕ) [ true ↦ behind_comment w | false ↦ b ∷ uncommented (turned q b) w ]) e
    ∙ ap (λ (y : List ℕ). b ∷ y) (leads-uncommented l)

-- ---- runs

pub other_byte : (p : ℕ → Bool) (b c : ℕ) → p b ≡ true → p c ≡ false → eqb b c ≡ false
other_byte p b c e f = ne_eqb b c (λ d. true≢false (sym e ∙ ap p d ∙ f))

module _ (x : ℕ) where
  pub leads-append : {q r t : Bool} {v w : List ℕ} → Leads x q v r → Leads x r w t → Leads x q (v ++ w) t
  leads-append leads-none k = k
  leads-append (leads-more e l) k = leads-more e (leads-append l k)

  -- a test that x and the apostrophe fail
  module _ (p : ℕ → Bool) (no-quote : p apostrophe ≡ false) (fails : p x ≡ false) where
    not-bare : (q : Bool) (b : ℕ) → eqb b x ≡ false → (not q && eqb b x) ≡ false
    not-bare true b e = refl
    not-bare false b e = e

    pub leads-over : (q : Bool) (w : List ℕ) → every p w ≡ true → Leads x q w q
    unfolding every
    leads-over q [] h = leads-none
    leads-over q (b ∷ w) h =
        let e : p b ≡ true = and_left (p b) _ h in
        leads-more (not-bare q b (other_byte p b x e fails))
        (subst (λ (r : Bool). Leads x r w q) (sym (other-turned q b (other_byte p b apostrophe e no-quote))) (leads-over q w (and_right (p b) _ h)))

    pub leads-behind : {q r : Bool} (v w : List ℕ) → every p v ≡ true → Leads x q (v ++ w) r → Leads x q w r
    unfolding every
    leads-behind [] w h l = l
    leads-behind {q} {r} (b ∷ v) w h (leads-more e l) =
        leads-behind v w (and_right (p b) _ h) (subst (λ (t : Bool). Leads x t (v ++ w) r) (other-turned q b (other_byte p b apostrophe (and_left (p b) _ h) no-quote)) l)

  -- ---- from tests

  pub hides-leads : (q r : Bool) (w : List ℕ) → outside x q w ≡ false → open_after q w ≡ r → Leads x q w r
  unfolding outside open_after
  hides-leads q r [] h e = subst (λ (t : Bool). Leads x q [] t) e leads-none
  hides-leads q r (b ∷ w) h e =
      leads-more (or-none (not q && eqb b x) (outside x (turned q b) w) h) (hides-leads (turned q b) r w (or-rest (not q && eqb b x) (outside x (turned q b) w) h) e)

  pub label-leads : is_label_byte x ≡ false → eqb apostrophe x ≡ false → (w : List ℕ) → is_label w ≡ true → Leads x false w false
  label-leads f g w h = hides-leads false false w (label-hides x f g w h) (label-closed w h)
