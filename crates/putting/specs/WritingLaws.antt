-- The laws of words and numbers that are written one behind another. Assumes nothing.
--
--   word-put       a whole word, copied
--   number_put, number-ends     the digits of a number, and where they end
--   counted-ends   where a word and a number behind it end
--   spaces-more, spaces-end     spaces, one after another
use Rattle.std.specs.Prelude.{ℕ, suc, ◌+◌, ◌-◌, ◌^◌, ◌≤◌, ◌<◌, ◌≡◌, List, [], ◌∷◌, ◌++◌, length, take, replicate}
use Rattle.std.proofs.Common.{arith, ap, subst, ◌∙◌, take_all}
use Rattle.std.proofs.lemmas.List.Edits.{sets}
use Rattle.io.specs.Digits.{last_digits, IsDigitCount}
use Rattle.fields.specs.Run.{copied}
use Rattle.putting.specs.Put.{Put}
use Rattle.trees.specs.Decimal.{digits_of}
use Rattle.putting.specs.DigitLaws.{digits_of_lem, digits-few, digits-fewer}

pub word-put : (l after word : List ℕ) (at n : ℕ) → n ≡ length word → after ≡ copied l at word 0 n → Put l at word after (at + n)
unfolding copied
word-put l after word at n e p = record { stored = p ∙ ap (sets l at) (take_all n word (omega arith)); ends = omega arith }

module _ (l after text : List ℕ) (at k n e : ℕ) (w : IsDigitCount 10 1 n k) (c : k ≡ length (take k text)) (d : take k text ≡ last_digits 10 k n) (p : Put l at (take k text) after e) where
  pub number_put : Put l at (digits_of n) after e
  number_put = subst (λ (v : List ℕ). Put l at v after e) (d ∙ digits_of_lem k n w) p

  pub number-ends : n < 2 ^ 64 → (e ≤ at + 20) × (n < 65536 → e ≤ at + 5)
  number-ends h = (omega (arith, p.ends, digits-few k n w h), λ f. omega (arith, p.ends, digits-fewer k n w f))

-- a word and a number behind it
pub counted-ends : (l k word : List ℕ) (at e z n : ℕ) → Put l at word k e → (z ≤ e + 20) × (n < 65536 → z ≤ e + 5)
    → (z ≤ at + length word + 20) × (n < 65536 → z ≤ at + length word + 5)
counted-ends l k word at e z n p b = (omega (arith, p.ends, b.0), λ f. omega (arith, p.ends, b.1 f))

module _ (i end : ℕ) where
  pub spaces-more : i < end → replicate {A = ℕ} (end - i) 32 ≡ (32 ∷ []) ++ replicate (end - (i + 1)) 32
  spaces-more h =
      let e : end - i ≡ suc (end - (i + 1)) = omega arith in
      rw e

  pub spaces-end : end ≤ i → replicate {A = ℕ} (end - i) 32 ≡ []
  spaces-end h =
      let e : end - i ≡ 0 = omega arith in
      rw e
