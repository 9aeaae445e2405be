-- Runs of blanks and of label bytes, as the loops of `skip_blanks` and `token_end` pass them.
use Prim.Native.Nat.{ℕ, ◌+◌, ◌≤◌, ◌<◌}
use native.Mathlib.Omega.{arith}
use mathlib.Core.Path.{◌≡◌, refl, ap, sym, subst, ◌∙◌}
use mathlib.Core.Logic.{◌⊎◌, inl, inr}
use mathlib.Core.Bool.{true, false}
use mathlib.Core.List.{List, []}
use lib.ListN.{length, get_or}
use Rattle.trees.specs.Text.{blank, kind, kind_in, is_label_byte, open_after, ended}
use Rattle.theorems.specs.ListLaws.{equal_or_not}
use Rattle.theorems.specs.TextLaws.{by_kind, symbols-step}
use Rattle.text.specs.Read.{kind_no, kind_at, symbols_at, RunEnd}
use Rattle.text.specs.PlaceLaws.{kind-there}

-- what holds of the numbers from i up to r, and of r
pub each_more : (P : ℕ → Type 0) (i r : ℕ) → ((j : ℕ) → i ≤ j → j < r → P j) → P r → (j : ℕ) → i ≤ j → j < r + 1 → P j
each_more P i r f y j a b = go (equal_or_not j r)
  where
    go : (j ≡ r) ⊎ (j ≡ r → ⊥) → P j
    go (inl e) = subst P (sym e) y
    go (inr n) = f j a (omega (arith, n))

module _ (s : List ℕ) (i : ℕ) where
  -- blanks from i up to r
  pub record Blanks (r : ℕ) : Type 0 where
    pub past : i ≤ r
    pub within : r ≤ length s
    pub tokens : symbols_at s i ≡ symbols_at s r
    pub each : (j : ℕ) → i ≤ j → j < r → kind_at s j ≡ 0

  pub blanks-none : i ≤ length s → Blanks i
  blanks-none h = record { past = omega arith; within = h; tokens = refl; each = λ j a b. absurd (omega arith) }

  pub blanks-more : (r : ℕ) → Blanks r → r < length s → kind (get_or s r 0) ≡ blank → Blanks (r + 1)
  unfolding by_kind kind_in open_after ended
  blanks-more r b h e = record {
    past = omega arith;
    within = omega arith;
    tokens = b.tokens ∙ symbols-step s r h blank [] e;
    each = λ j f l. each_more (λ (k : ℕ). kind_at s k ≡ 0) i r b.each (kind-there s r h ∙ ap kind_no e) j f l;
  }

  -- label bytes from i up to r
  pub record Run (r : ℕ) : Type 0 where
    pub past : i ≤ r
    pub within : r ≤ length s
    pub each : (j : ℕ) → i ≤ j → j < r → is_label_byte (get_or s j 0) ≡ true

  pub run_none : i ≤ length s → Run i
  run_none h = record { past = omega arith; within = h; each = λ j a b. absurd (omega arith) }

  pub run_more : (r : ℕ) → Run r → r < length s → is_label_byte (get_or s r 0) ≡ true → Run (r + 1)
  run_more r b h y = record { past = omega arith; within = omega arith; each = λ j f l. each_more (λ (k : ℕ). is_label_byte (get_or s k 0) ≡ true) i r b.each y j f l }

  pub run-stop : (r : ℕ) → Run r → is_label_byte (get_or s r 0) ≡ false → RunEnd s i r
  run-stop r b n = record { past = b.past; within = b.within; each = b.each; stop = λ l. n }

  pub run_end : (r : ℕ) → Run r → length s ≤ r → RunEnd s i r
  run_end r b h = record { past = b.past; within = b.within; each = b.each; stop = λ l. absurd (omega arith) }
