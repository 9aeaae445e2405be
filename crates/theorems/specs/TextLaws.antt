-- Laws of symbols: one step of reading a text, at its front and at a position.
use Rattle.std.specs.Prelude.{ℕ, suc, ◌+◌, ◌≤◌, ◌<◌, ◌≡◌, refl, false, List, [], ◌∷◌, ◌++◌, length, get_or, drop}
use Rattle.std.proofs.Common.{add-one, arith, sym, ◌∙◌, subst, length-append, drop_of_length-le, drop-cons}
use Rattle.std.proofs.Math.Path.{ap}
use Rattle.trees.specs.Text.{Symbol, Kind, blank, label, mark, kind_in, open_after, symbols_after, ended, symbols}

-- what a byte of the kind k does, behind the bytes w of a run
unfoldable pub by_kind : Kind → List ℕ → ℕ → List ℕ → List Symbol
by_kind blank w b s = ended w (symbols s)
by_kind label w b s = symbols_after (w ++ b ∷ []) s
by_kind (mark m) w b s = ended w (m ∷ symbols s)

pub symbols-cons : (w : List ℕ) (b : ℕ) (s : List ℕ) → symbols_after w (b ∷ s) ≡ by_kind (kind_in (open_after false w) b) w b s
unfolding symbols_after by_kind
symbols-cons w b s =
    elim (kind_in (open_after false w) b) as
    (λ k. elim k as (λ _. List Symbol) [ blank ↦ ended w (symbols s) | label ↦ symbols_after (w ++ b ∷ []) s | mark m ↦ ended w (m ∷ symbols s) ] ≡ by_kind k w b s)
    [ blank ↦ refl | label ↦ refl | mark m ↦ refl ]

-- ---- at a position of a text

module _ (s : List ℕ) (i : ℕ) where
  pub symbols-step : i < length s → (k : Kind) (w : List ℕ) → kind_in (open_after false w) (get_or s i 0) ≡ k → symbols_after w (drop i s) ≡ by_kind k w (get_or s i 0) (drop (i + 1) s)
  symbols-step h k w e =
      ap (symbols_after w) (drop-cons s i 0 h)
      ∙ symbols-cons w (get_or s i 0) (drop (suc i) s)
      ∙ ap (λ (k' : Kind). by_kind k' w (get_or s i 0) (drop (suc i) s)) e
      ∙ ap (λ (n : ℕ). by_kind k w (get_or s i 0) (drop n s)) (sym (add-one i))

  pub symbols-end : length s ≤ i → (w : List ℕ) → symbols_after w (drop i s) ≡ ended w []
  unfolding symbols_after
  symbols-end h w = ap (symbols_after w) (drop_of_length-le s h)

-- ---- a text has no more symbols than bytes

ended-length : (w : List ℕ) (r : List Symbol) → length (ended w r) ≤ length w + length r
unfolding ended
ended-length [] r = omega arith
ended-length (b ∷ w) r = omega arith

step-length : (w : List ℕ) (b : ℕ) (s : List ℕ) (k : Kind) → ((v : List ℕ) → length (symbols_after v s) ≤ length v + length s) → length (by_kind k w b s) ≤ length w + suc (length s)
unfolding by_kind
step-length w b s blank h = omega (arith, ended-length w (symbols s), h [])
step-length w b s label h = omega (arith, h (w ++ b ∷ []), length-append w (b ∷ []))
step-length w b s (mark m) h = omega (arith, ended-length w (m ∷ symbols s), h [])

pub symbols-length : (w s : List ℕ) → length (symbols_after w s) ≤ length w + length s
unfolding symbols_after
symbols-length w [] = ended-length w []
symbols-length w (b ∷ s) = subst (λ x. length x ≤ length w + suc (length s)) (sym (symbols-cons w b s)) (step-length w b s (kind_in (open_after false w) b) (λ v. symbols-length v s))
