-- Feeding and closing, by their tests. Assumes nothing.
--
--   ends_at h l p       the piece p, fed to lane l, ends a text
--   last_part h l p     the bytes of the piece p before that end
--   feeding-by         what feeding does, from its two tests
--   closing-by         what closing does, from its test
use Rattle.std.specs.Prelude.{ℕ, suc, ◌≡◌, refl, Bool, true, false, List, [], ltb, length, if◌then◌else◌}
use Rattle.trees.specs.Plain.{refused, gives}
use Rattle.trees.specs.Text.{has_end, before_end}
use Rattle.trees.specs.Held.{Held, holding, lane_of, with_lane, open_in, longer, verdict, more_wanted, Fed, finishing, feeding, Closed, closed, closing}

abbrev pub ends_at : Held → ℕ → List ℕ → Bool
ends_at h l p = has_end (open_in (lane_of h l)) p

abbrev pub last_part : Held → ℕ → List ℕ → List ℕ
last_part h l p = before_end (open_in (lane_of h l)) p

-- what feeding does, from its two tests: there is such a lane, the piece ends a text
abbrev pub feeding_by : Bool → Bool → Held → ℕ → List ℕ → Fed
feeding_by true true h l p = finishing h l (suc (length (last_part h l p))) (verdict h (longer (lane_of h l) (last_part h l p)))
feeding_by true false h l p = record { taken = length p; answer = gives more_wanted; after = with_lane h l (longer (lane_of h l) p) }
feeding_by false c h l p = record { taken = 0; answer = refused 5; after = h }

pub feeding-by : (h : Held) (l : ℕ) (p : List ℕ) → feeding h l p ≡ feeding_by (ltb l h.opening.numbers.lanes) (ends_at h l p) h l p
unfolding feeding
feeding-by h l p = go (ltb l h.opening.numbers.lanes) (ends_at h l p)
  where
    go : (b c : Bool)
        → (if b then
        if c then finishing h l (suc (length (last_part h l p))) (verdict h (longer (lane_of h l) (last_part h l p)))
        else record { taken = length p; answer = gives more_wanted; after = with_lane h l (longer (lane_of h l) p) }
        else record { taken = 0; answer = refused 5; after = h })
        ≡ feeding_by b c h l p
    go true true = refl
    go true false = refl
    go false c = refl

-- what closing does, from its test: there is such a lane
abbrev pub closing_by : Bool → Held → ℕ → Closed
closing_by true h l = record { answer = closed (lane_of h l); after = with_lane h l (holding []) }
closing_by false h l = record { answer = refused 5; after = h }

pub closing-by : (h : Held) (l : ℕ) → closing h l ≡ closing_by (ltb l h.opening.numbers.lanes) h l
unfolding closing
closing-by h l = go (ltb l h.opening.numbers.lanes)
  where
    go : (b : Bool) → (if b then record { answer = closed (lane_of h l); after = with_lane h l (holding []) } else record { answer = refused 5; after = h }) ≡ closing_by b h l
    go true = refl
    go false = refl
