-- Unfinished text touches only its own lane's next verdict or closing, on lent bytes: two runs of the same calls, on whole bytes that
-- hold the same but for the unfinished text of one lane, which no call ends or closes. Assumes nothing.
--
--   unfinished-does-not-show     they have the same answers, and leave bytes that hold the same but for the text of that lane
use Rattle.std.specs.Prelude.{ℕ, ◌≡◌, Bool, ltb, length, if◌then◌else◌}
use Rattle.std.proofs.Math.Path.{sym, subst}
use Rattle.std.proofs.Common.{ap, ap₂, ◌∙◌}
use Rattle.std.proofs.Math.Bool.{true, false}
use mathlib.Core.List.{List, [], ◌∷◌, map}
use Rattle.trees.specs.Opening.{Opening}
use Rattle.trees.specs.Held.{Held, lane_of, open_in}
use Rattle.trees.specs.Batch.{texts_in}
use Rattle.trees.specs.Runs.{feed, hand, next, answers, ending}
use Rattle.theorems.specs.Quiet.{Leaves, Quiet, SaveLane}
use Rattle.theorems.specs.QuietLaws.{by_equal, quiet-run, save-questions, save-collisions}
use Rattle.text.specs.EndLaws.{no_text}
use Rattle.layout.specs.Store.{held_at}
use Rattle.layout.specs.WholeStore.{whole_at}
use Rattle.promises.specs.Calls.{Made, one, many, file, ask, reopen, Told, told, after, cut, file_texts, handed, LeavesMade, QuietMade}
use Rattle.promises.specs.Steps.{Steps}
use Rattle.promises.specs.BatchLaws.{SamePieces, SameTexts, same-texts, after-handed, handed-same, told_same}
use Rattle.promises.specs.StepLaws.{step_follows, told-lent}
use Rattle.promises.specs.RunLaws.{reply-same}

-- ---- what is handed in by calls that leave the text of lane j

quiet-hands : (j : ℕ) (ts : List (List ℕ)) (h : Held) → Quiet j h (map hand ts)
unfolding Quiet Leaves
quiet-hands j [] h = tt
quiet-hands j (t ∷ ts) h = (tt, quiet-hands j ts (next h (hand t)))

module _ (j l : ℕ) (f : l ≡ j → ⊥) where
  quiet-others : (ps : List (List ℕ)) (h : Held) → Quiet j h (map (feed l) ps)
  unfolding Quiet Leaves
  quiet-others [] h = tt
  quiet-others (p ∷ ps) h = (λ e. absurd (f e), quiet-others ps (next h (feed l p)))

-- a batch to lane j that ends no text feeds its piece as it is
module _ (j : ℕ) (h : Held) (l : ℕ) (p v : List ℕ) (q : Leaves j h (feed l p)) where
  quiet-many : Quiet j h (handed h (many l p v))
  unfolding handed
  quiet-many = go (ltb l h.opening.numbers.lanes) (ltb (length v) (texts_in (open_in (lane_of h l)) p))
    where
      fed-quiet : Quiet j h (map (feed l) (cut (texts_in (open_in (lane_of h l)) p) (open_in (lane_of h l)) p))
      fed-quiet =
          by_equal (Quiet j h (map (feed l) (cut (texts_in (open_in (lane_of h l)) p) (open_in (lane_of h l)) p))) l j
          (λ e. unfold Leaves cut Quiet in
          subst (λ (n : ℕ). Quiet j h (map (feed l) (cut n (open_in (lane_of h l)) p))) (sym (no_text (open_in (lane_of h l)) p (q e))) (q, tt))
          (λ f. quiet-others j l f (cut (texts_in (open_in (lane_of h l)) p) (open_in (lane_of h l)) p) h)

      go : (b c : Bool) → Quiet j h (if b then if c then [] else map (feed l) (cut (texts_in (open_in (lane_of h l)) p) (open_in (lane_of h l)) p) else [])
      go true true = unfold Quiet in tt
      go true false = fed-quiet
      go false c = unfold Quiet in tt

quiet-handed : (j : ℕ) (h : Held) (c : Made) → LeavesMade j h c → Quiet j h (handed h c)
unfolding LeavesMade Quiet handed
quiet-handed j h (one c) q = (q, tt)
quiet-handed j h (many l p v) q = quiet-many j h l p v q
quiet-handed j h (file f v) q = quiet-hands j (file_texts f (length v)) h
quiet-handed j h (ask x) q = tt
quiet-handed j h (reopen x names first second) q = tt

-- ---- two collections

module _ (j : ℕ) (h k : Held) (s : SaveLane j h k) where
  lanes-same : h.opening.numbers.lanes ≡ k.opening.numbers.lanes
  lanes-same = ap (λ (o : Opening). o.numbers.lanes) s.opening

  -- without an end there is one piece, whatever quotes are open
  same-pieces : (l : ℕ) (p : List ℕ) → Leaves j h (feed l p) → Leaves j k (feed l p) → SamePieces h k l p
  unfolding Leaves cut
  same-pieces l p q r =
      by_equal (SamePieces h k l p) l j
      (λ e.
      let a = no_text (open_in (lane_of h l)) p (q e) in
      record { many = a ∙ sym (no_text (open_in (lane_of k l)) p (r e)); pieces = rw a })
      (λ f. same-texts h k l p (s.others l f))

  save-texts : (c : Made) → LeavesMade j h c → LeavesMade j k c → SameTexts h k c
  unfolding LeavesMade
  save-texts (one c) q r = tt
  save-texts (many l p v) q r = same-pieces l p q r
  save-texts (file f v) q r = tt
  save-texts (ask x) q r = tt
  save-texts (reopen x names first second) q r = tt

  module _ (c : Made) (q : LeavesMade j h c) (r : LeavesMade j k c) where
    -- what both hand in
    same : handed h c ≡ handed k c
    same = handed-same h k lanes-same c (save-texts c q r)

    run : (answers h (handed h c) ≡ answers k (handed h c)) × SaveLane j (ending h (handed h c)) (ending k (handed h c))
    run = quiet-run j (handed h c) h k s (quiet-handed j h c q) (subst (Quiet j k) (sym same) (quiet-handed j k c r))

    save-after : SaveLane j (after h c) (after k c)
    save-after = rw (after-handed h c, after-handed k c, ← same) run.1

    save-told : (lent : ℕ) → told lent h c ≡ told lent k c
    save-told lent =
        told_same h k lanes-same lent c (save-texts c q r) run.0 (λ x _. reply-same h k (save-questions j h k s) x (λ _. save-collisions j h k s))

-- "Unfinished text touches only its own lane's next verdict or closing"
pub unfinished-does-not-show : (j : ℕ) (cs : List Made) (s s' : List ℕ) (as' bs : List Told) (t t' : List ℕ) → whole_at s ≡ true → whole_at s' ≡ true
    → SaveLane j (held_at s) (held_at s') → QuietMade j (held_at s) cs → QuietMade j (held_at s') cs → Steps s cs as' t → Steps s' cs bs t'
    → (as' ≡ bs) × SaveLane j (held_at t) (held_at t')
unfolding Steps QuietMade
unfinished-does-not-show j [] s s' as' bs t t' w w' r e f p q = (p.0 ∙ sym q.0, rw (p.1, q.1) r)
unfinished-does-not-show j (c ∷ cs) s s' as' bs t t' w w' r e f p q =
    let x = step_follows s w p.2 c p.0 p.4 in
    let y = step_follows s' w' q.2 c q.0 q.4 in
    let d : p.0 ≡ q.0 =
    x.1 ∙ save-told j (held_at s) (held_at s') r c e.0 f.0 (length s)
    ∙ told-lent s s' c p.0 q.0 p.2 q.2 p.4 q.4 (held_at s') ∙ sym y.1 in
    let z = unfinished-does-not-show j cs p.2 q.2 p.1 q.1 t t' x.0.whole y.0.whole
    (rw (x.0.held, y.0.held) (save-after j (held_at s) (held_at s') r c e.0 f.0))
    (subst (λ (h : Held). QuietMade j h cs) (sym x.0.held) e.1) (subst (λ (h : Held). QuietMade j h cs) (sym y.0.held) f.1) p.5 q.5 in
    (p.3 ∙ ap₂ (λ (a : Told) (l : List Told). a ∷ l) d z.0 ∙ sym q.3, z.1)
