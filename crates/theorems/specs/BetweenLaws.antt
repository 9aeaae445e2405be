-- The parts of a text between its bytes x.
--
--   between-some         there is one at least
--   between_first        the first part ends before the first x
--   between-without      a text without x is one part
--   between-ended        parts without x, each ended by x, are read as those parts, and an empty one behind them
--   between-joined       the parts, each behind an x, are the text behind an x
--   ended-joined         parts that are each behind an x, the last being empty, are parts that are each ended by x
use Rattle.std.specs.Prelude.{ℕ, ◌≡◌, eqb}
use Rattle.std.proofs.Math.Path.{refl, ap, sym}
use Rattle.std.proofs.Common.{◌∙◌, inl, inr, eqb-true, eq-eqb, ne_eqb}
use mathlib.Core.List.{List, [], ◌∷◌, ◌++◌, flat_map, append_assoc}
use Rattle.trees.specs.Text.{with_byte}
use Rattle.trees.specs.Phylip.{between}
use Rattle.theorems.specs.ListLaws.{if-true, if-false, by-test, Mem}

module _ (x : ℕ) where
  -- ---- from the parts to the text

  pub between_first : (w s : List ℕ) → (Mem x w → ⊥) → between x (w ++ x ∷ s) ≡ w ∷ between x s
  unfolding between with_byte
  between_first [] s f = if-true _ _ (eq-eqb x x refl)
  between_first (b ∷ w) s f = if-false _ _ (ne_eqb b x (λ e. f (inl (sym e)))) ∙ ap (with_byte b) (between_first w s (λ h. f (inr h)))

  pub between-without : (w : List ℕ) → (Mem x w → ⊥) → between x w ≡ w ∷ []
  unfolding between with_byte
  between-without [] f = refl
  between-without (b ∷ w) f = if-false _ _ (ne_eqb b x (λ e. f (inl (sym e)))) ∙ ap (with_byte b) (between-without w (λ h. f (inr h)))

  pub between-ended : (ls : List (List ℕ)) → ((w : List ℕ) → Mem w ls → Mem x w → ⊥) → between x (flat_map (λ w. w ++ x ∷ []) ls) ≡ ls ++ [] ∷ []
  unfolding between flat_map
  between-ended [] f = refl
  between-ended (w ∷ ls) f =
      ap (between x) (append_assoc w (x ∷ []) (flat_map (λ w. w ++ x ∷ []) ls))
      ∙ between_first w (flat_map (λ w. w ++ x ∷ []) ls) (f w (inl refl))
      ∙ ap (λ (k : List (List ℕ)). w ∷ k) (between-ended ls (λ v h. f v (inr h)))

  -- ---- and back

  with-some : (b : ℕ) (ws : List (List ℕ)) → (w : List ℕ) × (vs : List (List ℕ)) × (ws ≡ w ∷ vs) → (w : List ℕ) × (vs : List (List ℕ)) × (with_byte b ws ≡ w ∷ vs)
  unfolding with_byte
  with-some b ws h = (b ∷ h.0, h.1, ap (with_byte b) h.2)

  pub between-some : (s : List ℕ) → (w : List ℕ) × (ws : List (List ℕ)) × (between x s ≡ w ∷ ws)
  unfolding between
  between-some [] = ([], [], refl)
  between-some (b ∷ s) =
      by-test (λ (l : List (List ℕ)). (w : List ℕ) × (ws : List (List ℕ)) × (l ≡ w ∷ ws)) (eqb b x) (λ e. ([], between x s, refl)) (λ e. with-some b (between x s) (between-some s))

  with-joined : (b : ℕ) (ws : List (List ℕ)) (s : List ℕ) → flat_map (λ w. x ∷ w) ws ≡ x ∷ s → flat_map (λ w. x ∷ w) (with_byte b ws) ≡ x ∷ b ∷ s
  unfolding with_byte flat_map
  with-joined b [] s e = cc
  with-joined b (w ∷ ws) s e = let t : w ++ flat_map (λ w. x ∷ w) ws ≡ s = cc in ap (λ (k : List ℕ). x ∷ b ∷ k) t

  pub between-joined : (s : List ℕ) → flat_map (λ w. x ∷ w) (between x s) ≡ x ∷ s
  unfolding between flat_map
  between-joined [] = refl
  between-joined (b ∷ s) =
      by-test (λ (l : List (List ℕ)). flat_map (λ w. x ∷ w) l ≡ x ∷ b ∷ s) (eqb b x)
      (λ e. ap (λ (k : List ℕ). x ∷ k) (between-joined s ∙ ap (λ (y : ℕ). y ∷ s) (sym (eqb-true b x e)))) (λ e. with-joined b (between x s) s (between-joined s))

  pub ended-joined : (ls : List (List ℕ)) → flat_map (λ w. x ∷ w) (ls ++ [] ∷ []) ≡ x ∷ flat_map (λ w. w ++ x ∷ []) ls
  unfolding flat_map
  ended-joined [] = refl
  ended-joined (w ∷ ls) = ap (λ (k : List ℕ). x ∷ k) (ap (λ (k : List ℕ). w ++ k) (ended-joined ls) ∙ sym (append_assoc w (x ∷ []) (flat_map (λ w. w ++ x ∷ []) ls)))
