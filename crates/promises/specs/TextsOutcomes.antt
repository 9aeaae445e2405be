-- What two outcomes of the steps of a summary have in common: the first line taken, the texts fed, the lane closed. Assumes nothing.
--
--   taken-both                           taking a piece of the first line: the answer, and every byte of the buffer
--   texts_free s p, texts-both            feeding the texts of the piece p to the lent bytes s: the answer, and the bytes but for what is free
--   closed_texts_free s, closed-texts-both     closing
use Rattle.std.specs.Prelude.{ℕ, ◌≡◌, refl, Bool, true, false, List, if◌then◌else◌, Result}
use Rattle.std.proofs.Common.{ap}
use Rattle.trees.specs.Held.{closing}
use Rattle.trees.specs.Batch.{none_accepted}
use Rattle.layout.specs.Store.{held_at}
use Rattle.layout.specs.WholeStore.{whole_at}
use Rattle.summary.specs.declared.Taken.{Taken}
use Rattle.summary.specs.FirstLine.{Kept, TakenAs}
use Rattle.summary.specs.Texts.{texts_fed, TextsAs, ClosedAs}
use Rattle.promises.specs.Once.{Free, nothing, lane, store, SameBut}
use Rattle.promises.specs.Outcomes.{both, number-both, holds-both, outside-both}
use Rattle.answers.specs.declared.Refusal.{Refusal}

pub taken-both : (k : Kept) (p : List ℕ) (q r : Taken) (t u : List ℕ) → TakenAs k p q t → TakenAs k p r u → (q ≡ r) × (t ≡ u)
taken-both k p q r t u a b =
    let e = both a.line b.line in (
      λ i. record { taken = both a.taken b.taken i; ended = both a.ended b.ended i; line = record { used = (e i).used; spaces = (e i).spaces; quoted = (e i).quoted } },
      ap (λ (x : Kept). x.bytes) e,
    )

-- 1 leaves every byte as found; texts of which none is accepted, every byte outside the lane
unfoldable pub texts_free : List ℕ → List ℕ → Free
texts_free s p = if whole_at s then if none_accepted (texts_fed (held_at s) p).verdicts then lane 0 else store else nothing

pub texts-both : (s : List ℕ) (n : ℕ) (p : List ℕ) (q r : Result ℕ Refusal) (t u : List ℕ) → TextsAs s n p q t → TextsAs s n p r u → (q ≡ r) × SameBut (texts_free s p) t u
unfolding texts_free SameBut
texts-both s n p q r t u a b = (number-both q r a.answer b.answer, go (whole_at s) (none_accepted (texts_fed (held_at s) p).verdicts) refl refl)
  where
    go : (m c : Bool) → whole_at s ≡ m → none_accepted (texts_fed (held_at s) p).verdicts ≡ c → SameBut (if m then if c then lane 0 else store else nothing) t u
    go false c e d = both (a.found e) (b.found e)
    go true true e d = (holds-both (texts_fed (held_at s) p).after s t u (a.holds e) (b.holds e), outside-both s 0 t u (a.outside d) (b.outside d))
    go true false e d = holds-both (texts_fed (held_at s) p).after s t u (a.holds e) (b.holds e)

unfoldable pub closed_texts_free : List ℕ → Free
closed_texts_free s = if whole_at s then lane 0 else nothing

pub closed-texts-both : (s : List ℕ) (n : ℕ) (q r : Result ℕ Refusal) (t u : List ℕ) → ClosedAs s n q t → ClosedAs s n r u → (q ≡ r) × SameBut (closed_texts_free s) t u
unfolding closed_texts_free SameBut
closed-texts-both s n q r t u a b = (number-both q r a.answer b.answer, go (whole_at s) refl)
  where
    go : (m : Bool) → whole_at s ≡ m → SameBut (if m then lane 0 else nothing) t u
    go false e = both (a.found e) (b.found e)
    go true e = (holds-both (closing (held_at s) 0).after s t u (a.holds e) (b.holds e), outside-both s 0 t u a.outside b.outside)
